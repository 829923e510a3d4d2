-- The definitions of zones tried on worked examples: each computes.
use Rattle.std.proofs.Common.{◌≡◌, ℕ, ◌*◌, ◌^◌, [], ◌∷◌, Option, None, Some, codes, refl}
use Rattle.std.specs.Fmt.{digits}
use Rattle.num_range.specs.declared.space.Space.TheVariants.{Ipv4, Ipv6}
use Rattle.num_range.specs.Range.{PlainRange}
use Rattle.num_range.specs.Block.{block_of}
use Rattle.num_range.specs.Cover.{reverse_cuts, blocks_inside}
use Rattle.reg_entry.specs.declared.card.Card.{Card}
use Rattle.reg_entry.specs.declared.card.Status.TheVariants.{Allocated}
use Rattle.reg_entry.specs.declared.kind.Kind.TheVariants.{Lir}
use Rattle.reg_entry.specs.declared.holder.Holder.{Holder}
use Rattle.reg_entry.specs.declared.rooms.Rooms.{Rooms}
use Rattle.reg_entry.specs.declared.policy.ZoneTerms.{ZoneTerms}
use Rattle.reg_entry.specs.declared.request.Delegation.TheVariants.{Allocate}
use Rattle.reg_entry.specs.declared.request.Request.{Request}
use Rattle.reg_entry.specs.declared.request.Request.TheVariants.{Receive, AddHolder, Delegate, SetReverse}
use Rattle.reg_entry.specs.Card.{plain_card}
use Rattle.reg_entry.specs.Entry.{PlainEntry}
use Rattle.reg_entry.specs.Register.{Register, register_after}
use Rattle.reverse_zone.specs.declared.apex.Apex.TheVariants.{Four, Six}
use Rattle.reverse_zone.specs.Apex.{apex_name, apex_range}
use Rattle.reverse_zone.specs.Delegated.{reverse_name}
use Rattle.reverse_zone.specs.Zone.{apexes_from, cut_name, zone_cuts, zone_text, zones_text}

-- ---- names

name_of_octet : apex_name (Four 198) ≡ codes "198.in-addr.arpa"
unfolding digits
name_of_octet = refl

name_of_nibbles : apex_name (Six 0x200) ≡ codes "0.0.2.ip6.arpa"
name_of_nibbles = refl

name_of_other_nibbles : apex_name (Six 0x2a3) ≡ codes "3.a.2.ip6.arpa"
name_of_other_nibbles = refl

addresses_of_octet : apex_range (Four 198) ≡ block_of Ipv4 0xc6000000 8
addresses_of_octet = refl

addresses_of_nibbles : apex_range (Six 0x200) ≡ block_of Ipv6 (0x20000000 * 2 ^ 96) 12
addresses_of_nibbles = refl

-- 198.51.100.0/24 and 198.51.0.0/16
two_octets : cut_name (block_of Ipv4 0xc6336400 24) ≡ codes "100.51"
unfolding digits
two_octets = refl

one_octet : cut_name (block_of Ipv4 0xc6330000 16) ≡ codes "51"
unfolding digits
one_octet = refl

-- 2001:db8::/32, 2001::/16 and 2001:db8:1:2::/64
five_nibbles : cut_name (block_of Ipv6 (0x20010db8 * 2 ^ 96) 32) ≡ codes "8.b.d.0.1"
five_nibbles = refl

one_nibble : cut_name (block_of Ipv6 (0x2001 * 2 ^ 112) 16) ≡ codes "1"
one_nibble = refl

all_nibbles : cut_name (block_of Ipv6 (0x20010db800010002 * 2 ^ 64) 64) ≡ codes "2.0.0.0.1.0.0.0.8.b.d.0.1"
all_nibbles = refl

-- the whole names of two of them
whole_of_octets : reverse_name (block_of Ipv4 0xc6336400 24) ≡ codes "100.51.198.in-addr.arpa"
unfolding digits
whole_of_octets = refl

whole_of_nibbles : reverse_name (block_of Ipv6 (0x20010db8 * 2 ^ 96) 32) ≡ codes "8.b.d.0.1.0.0.2.ip6.arpa"
whole_of_nibbles = refl

-- ---- zones

abbrev rooms : Rooms
rooms = record { pieces = 100; holders = 100; subs = 100; reverse = 100; entries = 100; window = 64 }

abbrev entry : ℕ → Request → Option PlainRange → Option Card → PlainEntry
entry seq request cover card =
    record { seq = seq; day = 19783; who = codes "local"; request = request; cover = cover; card = card }

abbrev alpha : Holder
alpha = record { handle = codes "ORG-A"; kind = Lir; cc = codes "DE"; name = codes "Alpha Net"; email = codes "noc@alpha.example" }

abbrev of_alpha : Card
of_alpha = record { status = Allocated; holder = Some 0; day = 19783; until = 0 }

abbrev block : PlainRange
block = block_of Ipv6 (0x20010db8 * 2 ^ 96) 32

abbrev of_block : Register
of_block = register_after rooms (
    entry 1 (Receive block) (Some block) (Some plain_card)
    ∷ entry 2 (AddHolder alpha) None None
    ∷ entry 3 (Delegate Ipv6 32 Allocate alpha.handle) (Some block) (Some of_alpha)
    ∷ entry 4 (SetReverse block (codes "ns1.alpha.example" ∷ [])) None None
    ∷ []
    )

abbrev terms : ZoneTerms
terms = record {
  mname = codes "ns1.exreg.example";
  rname = codes "hostmaster.exreg.example";
  ttl = 172800;
  refresh = 7200;
  retry = 1800;
  expire = 604800;
  minimum = 3600;
  servers = codes "ns1.exreg.example" ∷ [];
}

zone_of_block : zone_text of_block terms (Six 0x200)
    ≡ codes "$ORIGIN 0.0.2.ip6.arpa.\n$TTL 172800\n@ IN SOA ns1.exreg.example. hostmaster.exreg.example. 4 7200 1800 604800 3600\n@ IN NS ns1.exreg.example.\n8.b.d.0.1 IN NS ns1.alpha.example.\n"
unfolding digits reverse_cuts blocks_inside
zone_of_block = refl

-- it is the one zone of the register
zones_of_block : zones_text of_block terms
    ≡ codes "$ORIGIN 0.0.2.ip6.arpa.\n$TTL 172800\n@ IN SOA ns1.exreg.example. hostmaster.exreg.example. 4 7200 1800 604800 3600\n@ IN NS ns1.exreg.example.\n8.b.d.0.1 IN NS ns1.alpha.example.\n"
unfolding digits reverse_cuts blocks_inside apexes_from
zones_of_block = refl

zones_of_nothing : zones_text (register_after rooms []) terms ≡ []
unfolding apexes_from
zones_of_nothing = refl

-- 198.51.100.0/22 has four cuts, and 198.51.104.0/26 none
abbrev of_ranges : Register
of_ranges = record of_block {
  reverses = (block_of Ipv4 0xc6336400 22, codes "ns1.alpha.example" ∷ []) ∷ (block_of Ipv4 0xc6336800 26, codes "ns1.beta.example" ∷ []) ∷ [];
}

cuts_of_ranges : zone_cuts of_ranges (Four 198)
    ≡ (block_of Ipv4 0xc6336400 24, codes "ns1.alpha.example" ∷ []) ∷ (block_of Ipv4 0xc6336500 24, codes "ns1.alpha.example" ∷ [])
    ∷ (block_of Ipv4 0xc6336600 24, codes "ns1.alpha.example" ∷ []) ∷ (block_of Ipv4 0xc6336700 24, codes "ns1.alpha.example" ∷ []) ∷ []
unfolding reverse_cuts blocks_inside
cuts_of_ranges = refl
