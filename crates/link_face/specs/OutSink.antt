-- As what contracts see an `OutSink`.
use Rattle.std.specs.Prelude.{ℕ, List, Option}

-- what the writer holds, where it tells that, and the count of faults
pub record OutSinkState : Type 0 where
  pub contents : Option (List ℕ)
  pub faults : ℕ
