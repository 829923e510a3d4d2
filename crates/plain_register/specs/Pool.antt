-- The pool on vectors as contracts see it: the pieces of the three spaces, and how many there may be in all.
use Rattle.std.specs.Prelude.{ℕ, ◌+◌, ◌*◌, ◌^◌, ◌≤◌}
use Rattle.reg_entry.specs.Partition.{Partition, piece_count}

pub record PlainPool : Type 0 where
  pub partition : Partition
  pub room : ℕ

-- each vector, and the one for parts, has room for two parts of each piece and one piece more
pub record IsReserved (pool : PlainPool) (asn ipv4 ipv6 parts : ℕ) : Type 0 where
  pub within : piece_count pool.partition ≤ pool.room
  pub at_most : pool.room ≤ 2 ^ 30
  pub asn_room : 2 * pool.room + 1 ≤ asn
  pub ipv4_room : 2 * pool.room + 1 ≤ ipv4
  pub ipv6_room : 2 * pool.room + 1 ≤ ipv6
  pub parts_room : 2 * pool.room + 1 ≤ parts
