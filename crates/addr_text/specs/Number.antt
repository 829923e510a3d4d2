-- Which texts spell which numbers, and the one text that is written of a number.
use Rattle.std.specs.Prelude.{◌≡◌, ℕ, ◌≤◌, List, ◌++◌, codes, decimal}
use Rattle.std.specs.Int.{w32, to_be_bytes}
use Rattle.std.specs.Net.Text.{ipv4_text, hex_groups_text}
use Rattle.num_range.specs.declared.space.Space.{Space}
use Rattle.num_range.specs.declared.space.Space.TheVariants.{Asn, Ipv4, Ipv6}
use Rattle.num_range.specs.Space.{top_of}
use Rattle.num_range.specs.Number.{PlainNumber}
use Rattle.addr_text.specs.Address.{SpellsAddressOf, groups_of}

-- an AS number as plain decimal (RFC 5396 2, asplain)
abbrev pub SpellsAsn : List ℕ → PlainNumber → Type 0
SpellsAsn text n = (n.space ≡ Asn) × (text ≡ decimal n.value) × (n.value ≤ top_of Asn)

-- an AS number as `AS` and plain decimal, or an address
abbrev pub SpellsNumberOf : Space → List ℕ → ℕ → Type 0
SpellsNumberOf Asn text value = (text ≡ codes "AS" ++ decimal value) × (value ≤ top_of Asn)
SpellsNumberOf Ipv4 text value = SpellsAddressOf Ipv4 text value
SpellsNumberOf Ipv6 text value = SpellsAddressOf Ipv6 text value

abbrev pub SpellsNumber : List ℕ → PlainNumber → Type 0
SpellsNumber text n = SpellsNumberOf n.space text n.value

-- An AS number is written as `AS` and decimal, an IPv4 address as its four octets with dots between them, and an IPv6
-- address as its eight groups in lower-case hex without leading zeros, with `::` for the longest run of two or more zero
-- groups, the first of equal runs (RFC 5952 4).
abbrev pub text_of : Space → ℕ → List ℕ
text_of Asn value = codes "AS" ++ decimal value
text_of Ipv4 value = ipv4_text (to_be_bytes w32 value)
text_of Ipv6 value = hex_groups_text (groups_of value)

abbrev pub number_text : PlainNumber → List ℕ
number_text n = text_of n.space n.value
