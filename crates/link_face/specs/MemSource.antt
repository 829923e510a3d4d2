-- As what contracts see a `MemSource`.
use Rattle.std.specs.Prelude.{ℕ, List}

pub record MemSourceState : Type 0 where
  pub taken : List ℕ
  pub left : List ℕ
