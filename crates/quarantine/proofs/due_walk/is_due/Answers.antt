use Rattle.std.proofs.Common.{rules}
use Rattle.quarantine.proofs.due_walk.is_due.Goals as goal

pub returns-then-eq : goal.returns-then-eq
returns-then-eq c = search rules
