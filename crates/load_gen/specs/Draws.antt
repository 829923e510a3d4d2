-- The draws of a seed, one after the other.
use Rattle.std.specs.Prelude.{ℕ}

-- the seed, and how many draws were given
pub record PlainDraws : Type 0 where
  pub seed : ℕ
  pub given : ℕ
