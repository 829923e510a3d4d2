-- As what contracts see a `MemSink`.
use Rattle.std.specs.Prelude.{ℕ, List}

-- what was written, and how often memory was refused
pub record MemSinkState : Type 0 where
  pub written : List ℕ
  pub faults : ℕ
