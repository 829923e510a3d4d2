use Rattle.std.proofs.Common.{arith}
use Rattle.std.proofs.lemmas.Grind.{common_steps}
use Rattle.reg_entry.proofs.handle.is_handle.Goals as goal

pub returns-then-rest-le23 : goal.returns-then-rest-le23
returns-then-rest-le23 c = grind (arith, common_steps)
