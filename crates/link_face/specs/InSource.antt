-- As what contracts see an `InSource`.
use Rattle.std.specs.Prelude.{ℕ, List, Bool, Option}

-- what the reader has left, where it tells that, the budget, whether the end was told, and the count of faults
pub record InSourceState : Type 0 where
  pub left : Option (List ℕ)
  pub budget : ℕ
  pub has_ended : Bool
  pub faults : ℕ
