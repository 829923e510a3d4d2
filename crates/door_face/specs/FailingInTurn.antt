-- As what contracts see a `FailingInTurn`.
use Rattle.std.specs.Prelude.{ℕ}
use Rattle.link_face.specs.FaultPlan.{PlanState}

-- which duties come back, by their numbers over all calls, and in how many calls some did
pub record FailingInTurnState : Type 0 where
  pub plan : PlanState
  pub faults : ℕ
