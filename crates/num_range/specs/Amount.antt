-- How many numbers are asked for at once: a prefix length of addresses (RFC 4632 3.1), or a count of AS numbers.
use Rattle.std.specs.Prelude.{ℕ, Bool, ◌&&◌, nat_le}
use Rattle.num_range.specs.declared.space.Space.{Space}
use Rattle.num_range.specs.declared.space.Space.TheVariants.{Asn, Ipv4, Ipv6}
use Rattle.num_range.specs.Block.{block_size}

-- how many numbers an amount asks for
abbrev pub amount_size : Space → ℕ → ℕ
amount_size Asn amount = amount
amount_size Ipv4 amount = block_size Ipv4 amount
amount_size Ipv6 amount = block_size Ipv6 amount

-- the amounts that can be asked for: no more of IPv6 than all of global unicast, 2000::/3 (RFC 4291 2.4)
abbrev pub has_size : Space → ℕ → Bool
has_size Asn amount = nat_le 1 amount && nat_le amount 1024
has_size Ipv4 amount = nat_le amount 32
has_size Ipv6 amount = nat_le 3 amount && nat_le amount 128

-- where a block of so many numbers may start: at the multiples of its size (RFC 4632 3.1), or of AS numbers anywhere
abbrev pub alignment : Space → ℕ → ℕ
alignment Asn size = 1
alignment Ipv4 size = size
alignment Ipv6 size = size
