use Rattle.std.proofs.Common.{arith}
use Rattle.std.proofs.lemmas.Grind.{common_steps}
use Rattle.door_face.proofs.mem_gate.MemGate.add.Goals as goal

pub invariant_of-self-in-Http : goal.invariant_of-self-in-Http
invariant_of-self-in-Http g c = grind (arith, common_steps)

pub invariant_of-self-in-Line : goal.invariant_of-self-in-Line
invariant_of-self-in-Line g c = grind (arith, common_steps)
