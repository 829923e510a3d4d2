-- The tops of the reverse zones: one for each first octet of the IPv4 addresses (RFC 1035 3.5), and one for each /12 of the
-- IPv6 addresses (RFC 3596 2.5).
use Rattle.std.specs.Prelude.{ℕ, Bool, true, ◌&&◌, nat_le, ◌*◌, ◌/◌, ◌%◌, ◌^◌, ◌<◌, ◌≤◌, List, [], ◌∷◌, ◌++◌, codes, decimal}
use Rattle.std.specs.List.{flat_map}
use Rattle.std.specs.Char.{digit_char}
use Rattle.num_range.specs.declared.space.Space.{Space}
use Rattle.num_range.specs.declared.space.Space.TheVariants.{Asn, Ipv4, Ipv6}
use Rattle.num_range.specs.Range.{PlainRange}
use Rattle.num_range.specs.Block.{block_of}
use Rattle.reverse_zone.specs.declared.apex.Apex.{Apex}
use Rattle.reverse_zone.specs.declared.apex.Apex.TheVariants.{Four, Six}

-- any octet, or the three first nibbles of an address of global unicast, 2000::/3 (RFC 4291 2.4)
abbrev pub IsApex : Apex → Type 0
IsApex (Four octet) = octet < 256
IsApex (Six nibbles) = (0x200 ≤ nibbles) × (nibbles ≤ 0x3ff)

-- the same as a test that computes
abbrev pub is_apex : Apex → Bool
is_apex (Four octet) = true
is_apex (Six nibbles) = nat_le 0x200 nibbles && nat_le nibbles 0x3ff

-- the addresses whose names lie in the zone
abbrev pub apex_range : Apex → PlainRange
apex_range (Four octet) = block_of Ipv4 (octet * 2 ^ 24) 8
apex_range (Six nibbles) = block_of Ipv6 (nibbles * 2 ^ 116) 12

-- ---- its name

-- a label stands for an octet in decimal, or for a nibble in lower case hex
abbrev pub label_text : Space → ℕ → List ℕ
label_text Asn label = []
label_text Ipv4 label = decimal label
label_text Ipv6 label = digit_char label ∷ []

-- labels with dots between them
abbrev pub labels_text : Space → List ℕ → List ℕ
labels_text space [] = []
labels_text space (label ∷ labels) = label_text space label ++ flat_map (λ l. codes "." ++ label_text space l) labels

-- three nibbles, the last first
abbrev pub nibble_labels : ℕ → List ℕ
nibble_labels nibbles = nibbles % 16 ∷ nibbles / 16 % 16 ∷ nibbles / 256 ∷ []

-- without the last dot
abbrev pub apex_name : Apex → List ℕ
apex_name (Four octet) = label_text Ipv4 octet ++ codes ".in-addr.arpa"
apex_name (Six nibbles) = labels_text Ipv6 (nibble_labels nibbles) ++ codes ".ip6.arpa"
