-- The reverse zones of a register, each as the text of its master file (RFC 1035 5, with the `$TTL` of RFC 2308 4).
use Rattle.std.specs.Prelude.{ℕ, ◌-◌, ◌/◌, ◌%◌, ◌^◌, Bool, nat_le, List, [], ◌∷◌, ◌++◌, map, filter, codes, decimal}
use Rattle.std.specs.List.{flat_map, list_any, range_with_len}
use Rattle.num_range.specs.declared.space.Space.{Space}
use Rattle.num_range.specs.declared.space.Space.TheVariants.{Asn, Ipv4, Ipv6}
use Rattle.num_range.specs.Range.{PlainRange, size_of, lies_inside}
use Rattle.num_range.specs.Cover.{reverse_cuts}
use Rattle.reg_entry.specs.declared.policy.ZoneTerms.{ZoneTerms}
use Rattle.reg_entry.specs.Pieces.{piece_meets}
use Rattle.reg_entry.specs.Register.{Register, register_pieces}
use Rattle.reverse_zone.specs.declared.apex.Apex.{Apex}
use Rattle.reverse_zone.specs.declared.apex.Apex.TheVariants.{Four, Six}
use Rattle.reverse_zone.specs.Apex.{apex_range, apex_name, labels_text}

-- ---- which zones there are

-- some number of the pool has its name in the zone
abbrev pub in_pool : Register → Apex → Bool
in_pool r apex = list_any (piece_meets (apex_range apex)) (register_pieces r (apex_range apex).space)

-- all that a zone can be of, by rising octet from this one on, then by rising nibbles from these on
unfoldable pub apexes_from : ℕ → ℕ → List Apex
apexes_from octet nibbles = map Four (range_with_len octet (256 - octet)) ++ map Six (range_with_len nibbles (0x400 - nibbles))

-- all that a zone can be of
abbrev pub apexes : List Apex
apexes = apexes_from 0 0x200

-- those of the register
abbrev pub apexes_in : Register → List Apex
apexes_in r = filter (in_pool r) apexes

-- ---- the name of a cut, relative to its zone

-- how many bits of an address a label stands for
abbrev pub label_bits : Space → ℕ
label_bits Asn = 0
label_bits Ipv4 = 8
label_bits Ipv6 = 4

-- at which bits of an address the labels begin that stand below an apex, the last first, as far as cuts reach
abbrev pub label_places : Space → List ℕ
label_places Asn = []
label_places Ipv4 = 8 ∷ 16 ∷ []
label_places Ipv6 = 64 ∷ 68 ∷ 72 ∷ 76 ∷ 80 ∷ 84 ∷ 88 ∷ 92 ∷ 96 ∷ 100 ∷ 104 ∷ 108 ∷ 112 ∷ []

abbrev pub label_at : PlainRange → ℕ → ℕ
label_at cut place = cut.first / 2 ^ place % 2 ^ label_bits cut.space

-- the labels that all numbers of the cut share
abbrev pub cut_labels : PlainRange → List ℕ
cut_labels cut = map (label_at cut) (filter (λ place. nat_le (size_of cut) (2 ^ place)) (label_places cut.space))

abbrev pub cut_name : PlainRange → List ℕ
cut_name cut = labels_text cut.space (cut_labels cut)

-- ---- what a zone delegates

-- the cuts of a reverse entry that lie in the zone, rising, each with the entry's servers
abbrev pub cuts_in : Apex → PlainRange × List (List ℕ) → List (PlainRange × List (List ℕ))
cuts_in apex s = map (λ cut. (cut, s.1)) (filter (λ cut. lies_inside cut (apex_range apex)) (reverse_cuts s.0))

-- those of all entries
abbrev pub zone_cuts : Register → Apex → List (PlainRange × List (List ℕ))
zone_cuts r apex = flat_map (cuts_in apex) r.reverses

-- ---- the text

-- a name server of the name's (RFC 1035 3.3.11)
abbrev pub server_line : List ℕ → List ℕ → List ℕ
server_line name server = name ++ codes " IN NS " ++ server ++ codes ".\n"

abbrev pub server_lines : List ℕ → List (List ℕ) → List ℕ
server_lines name servers = flat_map (server_line name) servers

abbrev pub origin_text : Apex → ZoneTerms → List ℕ
origin_text apex terms = codes "$ORIGIN " ++ apex_name apex ++ codes ".\n$TTL " ++ decimal terms.ttl ++ codes "\n"

-- the start of authority (RFC 1035 3.3.13)
abbrev pub authority_line : ℕ → ZoneTerms → List ℕ
authority_line serial terms =
    codes "@ IN SOA " ++ terms.mname ++ codes ". " ++ terms.rname ++ codes ". " ++ decimal serial ++ codes " "
    ++ decimal terms.refresh ++ codes " " ++ decimal terms.retry ++ codes " " ++ decimal terms.expire ++ codes " "
    ++ decimal terms.minimum ++ codes "\n"

abbrev pub cut_lines : PlainRange × List (List ℕ) → List ℕ
cut_lines cut = server_lines (cut_name cut.0) cut.1

-- the zone of the apex; its serial is the number of the register's last entry
abbrev pub zone_text : Register → ZoneTerms → Apex → List ℕ
zone_text r terms apex =
    origin_text apex terms ++ authority_line r.entries terms ++ server_lines (codes "@") terms.servers
    ++ flat_map cut_lines (zone_cuts r apex)

-- all zones of the register
abbrev pub zones_text : Register → ZoneTerms → List ℕ
zones_text r terms = flat_map (zone_text r terms) (apexes_in r)
