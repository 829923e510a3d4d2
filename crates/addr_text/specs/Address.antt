-- Which texts spell which addresses.
use Rattle.std.specs.Prelude.{◌≡◌, ℕ, List}
use Rattle.std.specs.Int.{w32, w128, to_be_bytes, from_be_bytes}
use Rattle.std.specs.Net.Addr.{octets_of, segments_of}
use Rattle.std.specs.Net.Grammar.{IsDotted, IsColonHex}
use Rattle.num_range.specs.declared.space.Space.{Space}
use Rattle.num_range.specs.declared.space.Space.TheVariants.{Asn, Ipv4, Ipv6}
use Rattle.num_range.specs.Number.{PlainNumber}

-- four decimal octets without leading zeros, dots between them, the most significant first (RFC 3986 3.2.2)
abbrev pub SpellsIpv4 : List ℕ → ℕ → Type 0
SpellsIpv4 text value = (octets : List ℕ) × IsDotted text octets × (value ≡ from_be_bytes w32 octets)

-- eight groups of hex digits, the most significant first, or fewer and one `::` for the zero groups that are left out,
-- where four dotted octets may stand for the last two groups (RFC 4291 2.2)
abbrev pub SpellsIpv6 : List ℕ → ℕ → Type 0
SpellsIpv6 text value =
    (groups : List ℕ) × IsColonHex text groups × (value ≡ from_be_bytes w128 (octets_of groups))

-- an address of the space; an AS number is none
abbrev pub SpellsAddressOf : Space → List ℕ → ℕ → Type 0
SpellsAddressOf Asn text value = ⊥
SpellsAddressOf Ipv4 text value = SpellsIpv4 text value
SpellsAddressOf Ipv6 text value = SpellsIpv6 text value

abbrev pub SpellsAddress : List ℕ → PlainNumber → Type 0
SpellsAddress text n = SpellsAddressOf n.space text n.value

-- an IPv6 address's eight groups of 16 bits, the most significant first
abbrev pub groups_of : ℕ → List ℕ
groups_of value = segments_of (to_be_bytes w128 value)
