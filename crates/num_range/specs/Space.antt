-- The three spaces of numbers: how wide they are, and their greatest numbers.
use Rattle.std.specs.Prelude.{ℕ, ◌-◌, ◌^◌, Bool, ◌==◌}
use Rattle.num_range.specs.declared.space.Space.{Space}
use Rattle.num_range.specs.declared.space.Space.TheVariants.{Asn, Ipv4, Ipv6}

-- the bits of a number: four bytes of an AS number (RFC 6793 3) and of an IPv4 address, sixteen of IPv6 (RFC 4291 2)
abbrev pub width_of : Space → ℕ
width_of Asn = 32
width_of Ipv4 = 32
width_of Ipv6 = 128

-- the greatest number
abbrev pub top_of : Space → ℕ
top_of Asn = 2 ^ 32 - 1
top_of Ipv4 = 2 ^ 32 - 1
top_of Ipv6 = 2 ^ 128 - 1

-- the place of a space in the order of the three
abbrev pub space_rank : Space → ℕ
space_rank Asn = 0
space_rank Ipv4 = 1
space_rank Ipv6 = 2

abbrev pub same_space : Space → Space → Bool
same_space a b = space_rank a == space_rank b
