-- A range of the pool has fewer numbers than can be counted.
use Rattle.std.proofs.Common.{◌≡◌, ℕ, ◌+◌, ◌-◌, ◌≤◌, ◌<◌, ◌^◌, refl, arith}
use Rattle.num_range.specs.declared.space.Space.{Space}
use Rattle.num_range.specs.declared.space.Space.TheVariants.{Asn, Ipv4, Ipv6}
use Rattle.num_range.specs.Space.{top_of}
use Rattle.num_range.specs.Range.{PlainRange, IsRange, size_of}
use Rattle.reg_entry.specs.Pieces.{IsPoolRange}

few : (s : Space) (first last : ℕ) → first ≤ last → last ≤ top_of s → (s ≡ Ipv6 → (2 ^ 125 ≤ first) × (last < 2 ^ 126)) → (last - first) + 1 < 2 ^ 128
few Asn first last order top pool = omega arith
few Ipv4 first last order top pool = omega arith
few Ipv6 first last order top pool = let bound = (pool refl).1 in omega arith

pub size_fits : (r : PlainRange) → IsRange r → IsPoolRange r → size_of r < 2 ^ 128
size_fits r range pool = few r.space r.first r.last range.0 range.1 pool
