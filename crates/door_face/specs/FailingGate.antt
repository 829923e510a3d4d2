-- As what contracts see a `FailingGate`.
use Rattle.std.specs.Prelude.{ℕ, List}
use Rattle.link_face.specs.FaultPlan.{PlanState}
use Rattle.door_face.specs.MemGate.{MemGateState}

-- the gate behind it, which of its calls fail, which accepts of each way fail, and the count of all faults
pub record FailingGateState : Type 0 where
  pub gate : MemGateState
  pub plan : PlanState
  pub accepts : List ℕ
  pub faults : ℕ
