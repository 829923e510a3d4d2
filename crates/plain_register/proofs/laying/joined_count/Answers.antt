use Rattle.std.proofs.Common.{arith}
use Rattle.std.proofs.lemmas.Grind.{elements, common_steps}
use Rattle.plain_register.proofs.laying.joined_count.Goals as goal

pub loop-piece-init : goal.loop-piece-init
loop-piece-init c = grind (arith, elements)

pub joined_pair-last-requires-clause-space : goal.joined_pair-last-requires-clause-space
joined_pair-last-requires-clause-space c = grind (arith, common_steps)

pub loop-piece-preserved : goal.loop-piece-preserved
loop-piece-preserved c = grind (arith, common_steps)

pub returns-clause-count : goal.returns-clause-count
returns-clause-count c = grind (arith, common_steps)
