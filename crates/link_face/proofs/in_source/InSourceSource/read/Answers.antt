use Rattle.std.proofs.Common.{rules, arith}
use Rattle.std.proofs.lemmas.Grind.{common_steps}
use Rattle.link_face.proofs.in_source.InSourceSource.read.Goals as goal

pub returns-in-Ok-clause-budget : goal.returns-in-Ok-clause-budget
returns-in-Ok-clause-budget g c = search rules

pub invariant_of-self : goal.invariant_of-self
invariant_of-self g c = search rules

pub slice_bounds-read_uninterrupted-end-then-self-gt0 :
    goal.slice_bounds-read_uninterrupted-end-then-self-gt0
slice_bounds-read_uninterrupted-end-then-self-gt0 g c = grind (arith, common_steps)

pub returns-in-Ok-clause-count : goal.returns-in-Ok-clause-count
returns-in-Ok-clause-count g c = grind (arith, common_steps)

pub returns-in-Ok-clause-left : goal.returns-in-Ok-clause-left
returns-in-Ok-clause-left g c = grind (arith, common_steps)

pub returns-in-Ok-clause-for_good : goal.returns-in-Ok-clause-for_good
returns-in-Ok-clause-for_good g c = grind (arith, common_steps)
