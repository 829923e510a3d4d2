-- As what contracts see a `FailingSource`.
use Rattle.std.specs.Prelude.{ℕ}
use Rattle.link_face.specs.FaultPlan.{PlanState}
use Rattle.link_face.specs.MemSource.{MemSourceState}

pub record FailingSourceState : Type 0 where
  pub source : MemSourceState
  pub plan : PlanState
  pub faults : ℕ
