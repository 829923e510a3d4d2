use Rattle.std.proofs.Common.{arith}
use Rattle.std.proofs.lemmas.Grind.{common_steps, moves}
use Rattle.page_dir.proofs.walk.PageWalkIterator.next.Goals as goal

pub returns-then-self-len-clause-steps : goal.returns-then-self-len-clause-steps
returns-then-self-len-clause-steps g c = grind (arith, common_steps)

pub offset_bounds-page-self-inside : goal.offset_bounds-page-self-inside
offset_bounds-page-self-inside g c = grind (arith, moves)

pub bounds-page-self-inside : goal.bounds-page-self-inside
bounds-page-self-inside g c = grind (arith, moves)

pub overflow_add-self : goal.overflow_add-self
overflow_add-self g c = grind (arith, moves)

pub invariant_of-self : goal.invariant_of-self
invariant_of-self g c = grind (arith, moves)

pub invariant_of-self-else-self-page : goal.invariant_of-self-else-self-page
invariant_of-self-else-self-page g c = grind (arith, moves)

pub returns-clause-steps : goal.returns-clause-steps
returns-clause-steps g c = grind (arith, common_steps)

pub returns-clause-goes : goal.returns-clause-goes
returns-clause-goes g c = grind (arith, common_steps)
