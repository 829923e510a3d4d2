use Rattle.std.proofs.Common.{arith}
use Rattle.std.proofs.lemmas.Grind.{common_steps}
use Rattle.reverse_zone.proofs.labels.append_labels.Goals as goal

pub loop-label-preserved : goal.loop-label-preserved
loop-label-preserved g c = grind (arith, common_steps)

pub loop-label-smaller : goal.loop-label-smaller
loop-label-smaller c = grind (arith, common_steps)

pub returns-after-loop-label : goal.returns-after-loop-label
returns-after-loop-label g c = grind (arith, common_steps)
