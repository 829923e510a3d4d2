use Rattle.std.proofs.Common.{arith}
use Rattle.std.proofs.lemmas.Grind.{common_steps}
use Rattle.reverse_zone.proofs.apex.read_nibbles.Goals as goal

pub returns : goal.returns
returns c = grind (arith, common_steps)
