-- The request of a draw.
use Rattle.std.specs.Prelude.{ℕ, ◌+◌, ◌%◌, ◌==◌, nat_lt, if◌then◌else◌, List}
use Rattle.num_range.specs.Range.{PlainRange}
use Rattle.num_range.specs.declared.space.Space.TheVariants.{Asn, Ipv4, Ipv6}
use Rattle.reg_entry.specs.declared.request.Request.{Request}
use Rattle.reg_entry.specs.declared.request.Request.TheVariants.{Delegate, Return, Release, Transfer}
use Rattle.reg_entry.specs.declared.request.Delegation.TheVariants.{Allocate, Assign}
use Rattle.load_gen.specs.Draw.{PlainDraw, asking, kind, rest}
use Rattle.load_gen.specs.Holders.{load_handle}

-- the handle of the holder that asks
abbrev pub asking_handle : PlainDraw → List ℕ
asking_handle d = load_handle (asking d)

-- three kinds in eight delegate IPv4, one IPv6 and one AS numbers; one each returns, releases and transfers the piece
abbrev pub drawn_request : PlainDraw → PlainRange → Request
drawn_request d piece =
    if nat_lt (kind d) 3 then Delegate Ipv4 (20 + rest d % 9) Allocate (asking_handle d)
    else (if kind d == 3 then Delegate Ipv6 (36 + rest d % 13) Allocate (asking_handle d)
    else (if kind d == 4 then Delegate Asn (1 + rest d % 4) Assign (asking_handle d)
    else (if kind d == 5 then Return piece (asking_handle d)
    else (if kind d == 6 then Release piece
    else Transfer piece (asking_handle d) (load_handle (rest d % 8))))))
