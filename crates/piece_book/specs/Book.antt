-- A book of pieces as contracts see it: the pieces of the three spaces, and how many there may be in all.
use Rattle.std.specs.Prelude.{ℕ}
use Rattle.reg_entry.specs.Partition.{Partition}

pub record PlainBook : Type 0 where
  pub partition : Partition
  pub room : ℕ
