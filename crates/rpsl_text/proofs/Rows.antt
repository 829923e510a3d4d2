-- The definitions on worked examples, which compute.
use Rattle.std.proofs.Common.{◌≡◌, [], ◌∷◌, Some, None, Ok, Err, codes, refl}
use Rattle.std.specs.Fmt.{digits}
use Rattle.num_range.specs.declared.space.Space.TheVariants.{Ipv4, Ipv6}
use Rattle.num_range.specs.Range.{PlainRange}
use Rattle.reg_entry.specs.declared.card.Status.TheVariants.{Available, Allocated}
use Rattle.reg_entry.specs.declared.object.Object.TheVariants.{Block, Cut}
use Rattle.reg_entry.specs.Days.{date_of_day}
use Rattle.rpsl_text.specs.Object.{object_text}
use Rattle.rpsl_text.specs.Plain.{plain_attribute}
use Rattle.rpsl_text.specs.Reading.{read_text}

-- ---- read (RFC 2622 2)

continued_and_commented : read_text (codes "person: x\nremarks: a # b\n+ c\n") ≡ Ok ((codes "person", codes "x") ∷ (codes "remarks", codes "a c") ∷ [])
continued_and_commented = refl

goes_on_with_nothing : read_text (codes "+ c\n") ≡ Err 1
goes_on_with_nothing = refl

blanks_and_returns : read_text (codes "Org-Name: \t Alpha \t Net \r\nsource:") ≡ Ok ((codes "org-name", codes "Alpha Net") ∷ (codes "source", []) ∷ [])
blanks_and_returns = refl

no_attribute : read_text (codes "a: b\n+\n # c\nd\ne: f\n \n") ≡ Err 4
no_attribute = refl

line_of_blanks : read_text (codes "a: b\n \t\n") ≡ Err 2
line_of_blanks = refl

nothing : read_text [] ≡ Ok []
nothing = refl

-- ---- written: 192.0.2.0/24 (RFC 5737) and 2001:db8::/32 (RFC 3849)

abbrev documentation : PlainRange
documentation = record { space = Ipv4; first = 0xc000_0200; last = 0xc000_02ff }

available_piece : object_text (Block documentation Available None 0 0) (codes "EXREG")
    ≡ codes "inetnum: 192.0.2.0 - 192.0.2.255\nstatus: available\nsource: EXREG\n"
unfolding digits
available_piece = refl

held_piece : object_text (Block documentation Allocated (Some (codes "ORG-A")) 19783 19813) (codes "EXREG")
    ≡ codes "inetnum: 192.0.2.0 - 192.0.2.255\nstatus: allocated\norg: ORG-A\ndate: 20240301\nuntil: 20240331\nsource: EXREG\n"
unfolding digits date_of_day
held_piece = refl

octets : object_text (Cut documentation (codes "ns1.alpha.example" ∷ codes "ns2.alpha.example" ∷ [])) (codes "EXREG")
    ≡ codes "domain: 2.0.192.in-addr.arpa\nnserver: ns1.alpha.example\nnserver: ns2.alpha.example\nsource: EXREG\n"
unfolding digits
octets = refl

nibbles : object_text (Cut (record { space = Ipv6; first = 0x2001_0db8_0000_0000_0000_0000_0000_0000; last = 0x2001_0db8_ffff_ffff_ffff_ffff_ffff_ffff }) (codes "ns1.alpha.example" ∷ [])) (codes "X")
    ≡ codes "domain: 8.b.d.0.1.0.0.2.ip6.arpa\nnserver: ns1.alpha.example\nsource: X\n"
nibbles = refl

plain_value : plain_attribute (codes "org-name", codes "Alpha  Net \t 1") ≡ (codes "org-name", codes "Alpha Net 1")
plain_value = refl
