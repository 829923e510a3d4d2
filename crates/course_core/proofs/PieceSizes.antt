-- No piece has more numbers than global unicast has.
use Rattle.std.proofs.Common.{ℕ, ◌≤◌, ◌^◌, arith}
use Rattle.num_range.specs.declared.space.Space.{Space}
use Rattle.num_range.specs.declared.space.Space.TheVariants.{Asn, Ipv4, Ipv6}
use Rattle.num_range.specs.Space.{top_of}
use Rattle.num_range.specs.Range.{size_of}
use Rattle.reg_entry.specs.declared.piece.Piece.{Piece}
use Rattle.plain_register.specs.FoundPiece.{IsFoundIn}

pub size_bound : (space : Space) (x : ℕ) (p : Piece) → IsFoundIn space 0 x p → size_of p.range ≤ 2 ^ 126
size_bound Asn x p found = let within : p.range.last ≤ top_of Asn = found.of_space.within in omega arith
size_bound Ipv4 x p found = let within : p.range.last ≤ top_of Ipv4 = found.of_space.within in omega arith
size_bound Ipv6 x p found = let pooled = found.of_space.pooled found.of_space.of_space in omega (arith, pooled.1)
