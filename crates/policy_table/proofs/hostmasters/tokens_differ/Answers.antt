use Rattle.std.proofs.Common.{arith}
use Rattle.std.proofs.lemmas.Grind.{common_steps}
use Rattle.policy_table.proofs.hostmasters.tokens_differ.Goals as goal

pub returns-then-has_token : goal.returns-then-has_token
returns-then-has_token c = grind (arith, common_steps)

pub loop-place-preserved : goal.loop-place-preserved
loop-place-preserved c = grind (arith, common_steps)
