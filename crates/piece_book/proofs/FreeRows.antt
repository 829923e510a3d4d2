-- Ranges and how large an aligned block each has room for.
use Rattle.std.proofs.Common.{◌≡◌, ℕ, ◌+◌, ◌-◌, ◌^◌, refl}
use Rattle.num_range.specs.declared.space.Space.TheVariants.{Asn, Ipv4, Ipv6}
use Rattle.num_range.specs.Range.{PlainRange}
use Rattle.piece_book.specs.Free.{greatest_to, block_class}

-- numbers of 192.0.2.0/24 (RFC 5737)
abbrev documentation : ℕ → ℕ → PlainRange
documentation first last = record { space = Ipv4; first = 3221225984 + first; last = 3221225984 + last }

abbrev as_numbers : ℕ → ℕ → PlainRange
as_numbers first last = record { space = Asn; first = first; last = last }

whole : block_class Ipv4 (documentation 0 255) ≡ 8
unfolding greatest_to
whole = refl

one_address : block_class Ipv4 (documentation 17 17) ≡ 0
unfolding greatest_to
one_address = refl

half_aligned : block_class Ipv4 (documentation 17 31) ≡ 3
unfolding greatest_to
half_aligned = refl

-- 254 addresses, of which neither 128 nor the first 64 are aligned and free
inner : block_class Ipv4 (documentation 1 254) ≡ 6
unfolding greatest_to
inner = refl

-- 2000::/3 (RFC 4291 2.4)
unicast : block_class Ipv6 (record { space = Ipv6; first = 2 ^ 125; last = 2 ^ 126 - 1 }) ≡ 125
unfolding greatest_to
unicast = refl

-- 64496 to 64511 and 4200000000 to 4294967294 (RFC 5398, RFC 6996)
few : block_class Asn (as_numbers 64496 64511) ≡ 16
few = refl

many : block_class Asn (as_numbers 4200000000 4294967294) ≡ 1024
many = refl
