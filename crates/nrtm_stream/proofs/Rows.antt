-- The definitions on worked examples, which compute. The range is 192.0.2.0/24 (RFC 5737).
use Rattle.std.proofs.Common.{◌≡◌, ℕ, ◌+◌, List, Result, [], ◌∷◌, Some, None, Ok, Err, codes, refl}
use Rattle.std.specs.Fmt.{digits}
use Rattle.num_range.specs.declared.space.Space.TheVariants.{Ipv4}
use Rattle.num_range.specs.Range.{PlainRange}
use Rattle.reg_entry.specs.declared.card.Status.TheVariants.{Available, Allocated}
use Rattle.reg_entry.specs.declared.kind.Kind.TheVariants.{Lir}
use Rattle.reg_entry.specs.declared.object.Act.TheVariants.{Add, Del}
use Rattle.reg_entry.specs.declared.object.Object.{Object}
use Rattle.reg_entry.specs.declared.object.Object.TheVariants.{Org, Block}
use Rattle.reg_entry.specs.Days.{date_of_day}
use Rattle.reg_entry.specs.Op.{PlainOp}
use Rattle.nrtm_stream.specs.declared.ask.Ask.{Ask}
use Rattle.nrtm_stream.specs.declared.ask.AskFault.{AskFault}
use Rattle.nrtm_stream.specs.declared.ask.AskFault.TheVariants.{Malformed, Version, Source}
use Rattle.nrtm_stream.specs.Ask.{serials_of, query_of, ask_of}
use Rattle.nrtm_stream.specs.Stream.{capitals, stream_text}

-- ---- asked

abbrev asked : List ℕ → Result Ask AskFault
asked line = ask_of line (codes "EXREG")

all_is_asked : asked (codes "-g EXREG:3:1-LAST") ≡ Ok (record { first = 1; last = None })
unfolding serials_of query_of digits
all_is_asked = refl

some_are_asked : asked (codes "-g EXREG:3:4-5") ≡ Ok (record { first = 4; last = Some 5 })
unfolding serials_of query_of digits
some_are_asked = refl

version_comes_first : asked (codes "-g OTHER:4:1-LAST") ≡ Err Version
unfolding serials_of query_of digits
version_comes_first = refl

other_source : asked (codes "-g OTHER:3:1-LAST") ≡ Err Source
unfolding serials_of query_of digits
other_source = refl

leading_zero : asked (codes "-g OTHER:4:01-LAST") ≡ Err Malformed
unfolding serials_of query_of digits
leading_zero = refl

-- ---- streamed

abbrev addresses : ℕ → ℕ → PlainRange
addresses first last = record { space = Ipv4; first = 0xc000_0200 + first; last = 0xc000_0200 + last }

abbrev free : ℕ → ℕ → Object
free first last = Block (addresses first last) Available None 0 0

-- the /24 is received, a holder comes, and gets the least /26
abbrev operations : List PlainOp
operations =
    record { serial = 1; act = Add; object = free 0 255 }
    ∷ record {
      serial = 2;
      act = Add;
      object =
          Org (record { handle = codes "ORG-A"; kind = Lir; cc = codes "DE"; name = codes "Alpha Net"; email = codes "noc@alpha.example" }) 19783;
    }
    ∷ record { serial = 3; act = Del; object = free 0 255 }
    ∷ record { serial = 4; act = Add; object = Block (addresses 0 63) Allocated (Some (codes "ORG-A")) 19783 0 }
    ∷ record { serial = 5; act = Add; object = free 64 255 } ∷ []

whole_stream : stream_text (capitals (codes "exreg")) 1 5 operations
    ≡ codes
    "%START Version: 3 EXREG 1-5\n\nADD 1\n\ninetnum: 192.0.2.0 - 192.0.2.255\nstatus: available\nsource: EXREG\n\nADD 2\n\norganisation: ORG-A\norg-name: Alpha Net\norg-type: lir\ncountry: DE\ne-mail: noc@alpha.example\ndate: 20240301\nsource: EXREG\n\nDEL 3\n\ninetnum: 192.0.2.0 - 192.0.2.255\nstatus: available\nsource: EXREG\n\nADD 4\n\ninetnum: 192.0.2.0 - 192.0.2.63\nstatus: allocated\norg: ORG-A\ndate: 20240301\nsource: EXREG\n\nADD 5\n\ninetnum: 192.0.2.64 - 192.0.2.255\nstatus: available\nsource: EXREG\n\n%END EXREG\n"
unfolding digits date_of_day
whole_stream = refl
