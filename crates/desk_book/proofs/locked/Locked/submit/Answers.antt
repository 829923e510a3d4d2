use Rattle.std.proofs.Common.{arith, rules}
use Rattle.std.proofs.lemmas.Grind.{common_steps}
use Rattle.desk_book.proofs.locked.Locked.submit.Goals as goal

pub returns-in-Ok-learn-clause-answer : goal.returns-in-Ok-learn-clause-answer
returns-in-Ok-learn-clause-answer g c = search rules

pub returns-in-Err-learn : goal.returns-in-Err-learn
returns-in-Err-learn g c = grind (arith, common_steps)

pub returns-in-Err : goal.returns-in-Err
returns-in-Err g c = grind (arith, common_steps)

pub returns-in-Err-submit : goal.returns-in-Err-submit
returns-in-Err-submit g c = grind (arith, common_steps)

pub learn-requires : goal.learn-requires
learn-requires g c = grind (arith, common_steps)

pub returns-in-Ok-learn-clause-entries : goal.returns-in-Ok-learn-clause-entries
returns-in-Ok-learn-clause-entries g c = grind (arith, common_steps)

pub returns-in-Ok-learn-clause-published : goal.returns-in-Ok-learn-clause-published
returns-in-Ok-learn-clause-published g c = grind (arith, common_steps)

pub returns-in-Ok-learn-clause-seen : goal.returns-in-Ok-learn-clause-seen
returns-in-Ok-learn-clause-seen g c = grind (arith, common_steps)

pub returns-in-Ok-learn-clause-shut : goal.returns-in-Ok-learn-clause-shut
returns-in-Ok-learn-clause-shut g c = grind (arith, common_steps)

pub returns-in-Ok-learn-clause-open : goal.returns-in-Ok-learn-clause-open
returns-in-Ok-learn-clause-open g c = grind (arith, common_steps)
