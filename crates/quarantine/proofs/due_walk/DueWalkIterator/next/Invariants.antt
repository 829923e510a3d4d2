use Rattle.std.proofs.Common.{◌≡◌, length}
use Rattle.std.specs.List.{filter}
use Rattle.quarantine.specs.Due.{is_due}
use Rattle.quarantine.proofs.due_walk.DueWalkIterator.next.Given as goal

abbrev pub invariant-pieces : goal.invariant-pieces
invariant-pieces l = filter (is_due l.self-inside.day) l.self-inside.pieces ≡ l.fn.self

abbrev pub decreases-pieces : goal.decreases-pieces
decreases-pieces l = length l.self-inside.pieces
