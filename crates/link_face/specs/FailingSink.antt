-- As what contracts see a `FailingSink`.
use Rattle.std.specs.Prelude.{ℕ}
use Rattle.link_face.specs.FaultPlan.{PlanState}
use Rattle.link_face.specs.MemSink.{MemSinkState}

-- the sink behind it, the plan, how many bytes a planned fault lets through, and the count of all faults
pub record FailingSinkState : Type 0 where
  pub sink : MemSinkState
  pub plan : PlanState
  pub passes : ℕ
  pub faults : ℕ
