use Rattle.std.proofs.Common.{arith}
use Rattle.std.proofs.lemmas.Grind.{common_steps}
use Rattle.reverse_zone.proofs.labels.shared_labels.Goals as goal

pub label_at-requires : goal.label_at-requires
label_at-requires c = grind (arith, common_steps)

pub loop-place-preserved : goal.loop-place-preserved
loop-place-preserved g c = grind (arith, common_steps)

pub shares_label-requires : goal.shares_label-requires
shares_label-requires c = grind (arith, common_steps)
