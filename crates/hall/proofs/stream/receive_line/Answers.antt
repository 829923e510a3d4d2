use Rattle.std.proofs.Common.{arith}
use Rattle.std.proofs.lemmas.Grind.{common_steps}
use Rattle.hall.proofs.stream.receive_line.Goals as goal

pub receive-requires : goal.receive-requires
receive-requires c = grind (arith, common_steps)

pub pieces-preserved : goal.pieces-preserved
pieces-preserved g c = grind (arith, common_steps)
