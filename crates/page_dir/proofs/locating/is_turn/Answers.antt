use Rattle.std.proofs.Common.{arith}
use Rattle.std.proofs.lemmas.Grind.{common_steps, elements, moves}
use Rattle.page_dir.proofs.locating.is_turn.Goals as goal

pub returns-then-rows-count-clause-turn : goal.returns-then-rows-count-clause-turn
returns-then-rows-count-clause-turn g c = grind (arith, common_steps)

pub returns-then-count-rows-clause-turn : goal.returns-then-count-rows-clause-turn
returns-then-count-rows-clause-turn g c = grind (arith, elements)

pub returns-then-count-rows-clause-counted : goal.returns-then-count-rows-clause-counted
returns-then-count-rows-clause-counted g c = grind (arith, moves)

pub returns-then-count-rows-clause-few : goal.returns-then-count-rows-clause-few
returns-then-count-rows-clause-few g c = grind (arith, elements)

pub returns-clause-turn : goal.returns-clause-turn
returns-clause-turn g c = grind (arith, elements)

pub returns-clause-counted : goal.returns-clause-counted
returns-clause-counted g c = grind (arith, elements)

pub returns-clause-few : goal.returns-clause-few
returns-clause-few g c = grind (arith, moves)
