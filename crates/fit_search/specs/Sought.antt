-- The sizes that blocks are looked for in.
use Rattle.std.specs.Prelude.{◌≡◌, ℕ, ◌^◌, ◌≤◌}
use Rattle.num_range.specs.declared.space.Space.{Space}
use Rattle.num_range.specs.declared.space.Space.TheVariants.{Asn, Ipv4, Ipv6}
use Rattle.piece_book.specs.Free.{IsBlockSize}

-- of AS numbers one to all of them, of addresses a power of two up to all of global unicast (RFC 4291 2.4)
abbrev pub IsSought : Space → ℕ → Type 0
IsSought Asn size = (1 ≤ size) × (size ≤ 2 ^ 32)
IsSought Ipv4 size = IsBlockSize Ipv4 size
IsSought Ipv6 size = IsBlockSize Ipv6 size
