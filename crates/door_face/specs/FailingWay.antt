-- As what contracts see a `FailingWay`.
use Rattle.std.specs.Prelude.{ℕ}
use Rattle.link_face.specs.FaultPlan.{PlanState}
use Rattle.door_face.specs.MemWay.{MemWayState}

pub record FailingWayState : Type 0 where
  pub way : MemWayState
  pub plan : PlanState
  pub faults : ℕ
