use Rattle.std.proofs.Common.{arith}
use Rattle.std.proofs.lemmas.Grind.{common_steps}
use Rattle.door_face.proofs.mem_way.MemWayWay.done.Goals as goal

pub returns-clause-returned : goal.returns-clause-returned
returns-clause-returned g c = grind (arith, common_steps)
