-- The entries that a load begins with.
use Rattle.std.specs.Prelude.{◌*◌, ◌^◌, List, [], ◌∷◌, ◌++◌, map}
use Rattle.num_range.specs.declared.space.Space.TheVariants.{Asn, Ipv4, Ipv6}
use Rattle.num_range.specs.Block.{block_of}
use Rattle.num_range.specs.Range.{PlainRange}
use Rattle.reg_entry.specs.declared.request.Request.{Request}
use Rattle.reg_entry.specs.declared.request.Request.TheVariants.{Receive, AddHolder}
use Rattle.load_gen.specs.Holders.{load_holder}

-- 10.0.0.0/8 (RFC 1918 3)
abbrev pub private_block : PlainRange
private_block = block_of Ipv4 (10 * 2 ^ 24) 8

-- 2001:db8::/32 (RFC 3849 2)
abbrev pub documentation_block : PlainRange
documentation_block = block_of Ipv6 (0x20010db8 * 2 ^ 96) 32

-- AS64512 to AS65534 (RFC 6996 5)
abbrev pub private_numbers : PlainRange
private_numbers = record { space = Asn; first = 64512; last = 65534 }

abbrev pub opening_ranges : List PlainRange
opening_ranges = private_block ∷ documentation_block ∷ private_numbers ∷ []

-- the ranges are received, and then the holders are entered
abbrev pub opening_requests : List Request
opening_requests =
    map (λ range. Receive range) opening_ranges
    ++ map (λ i. AddHolder (load_holder i)) (0 ∷ 1 ∷ 2 ∷ 3 ∷ 4 ∷ 5 ∷ 6 ∷ 7 ∷ [])
