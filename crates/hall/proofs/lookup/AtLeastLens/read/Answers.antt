use Rattle.std.proofs.Common.{rules}
use Rattle.hall.proofs.lookup.AtLeastLens.read.Goals as goal

pub returns-then-entries-self-clause-answer : goal.returns-then-entries-self-clause-answer
returns-then-entries-self-clause-answer g c = search rules
