use Rattle.std.proofs.Common.{arith}
use Rattle.std.proofs.lemmas.Grind.{common_steps}
use Rattle.desk_book.proofs.locked.settle_for.Goals as goal

pub loop-preserved : goal.loop-preserved
loop-preserved g c = grind (arith, common_steps)

pub loop-smaller : goal.loop-smaller
loop-smaller g c = grind (arith, common_steps)

pub returns-then-entries : goal.returns-then-entries
returns-then-entries g c = grind (arith, common_steps)

pub loop-init : goal.loop-init
loop-init g c = grind (arith, common_steps)

pub returns-in-Err-clause-shut : goal.returns-in-Err-clause-shut
returns-in-Err-clause-shut g c = grind (arith, common_steps)

pub returns-in-Err-learn-clause-entries : goal.returns-in-Err-learn-clause-entries
returns-in-Err-learn-clause-entries g c = grind (arith, common_steps)

pub returns-in-Err-learn-clause-seen : goal.returns-in-Err-learn-clause-seen
returns-in-Err-learn-clause-seen g c = grind (arith, common_steps)

pub returns-in-Err-learn-clause-shut : goal.returns-in-Err-learn-clause-shut
returns-in-Err-learn-clause-shut g c = grind (arith, common_steps)

pub returns-in-Err-learn-clause-open : goal.returns-in-Err-learn-clause-open
returns-in-Err-learn-clause-open g c = grind (arith, common_steps)
