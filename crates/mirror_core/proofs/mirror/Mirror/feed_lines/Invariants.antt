use Rattle.std.proofs.Common.{length}
use Rattle.mirror_core.proofs.Feeding.{HasFed}
use Rattle.mirror_core.proofs.mirror.Mirror.feed_lines.Given as goal

abbrev pub invariant-lines : goal.invariant-lines
invariant-lines l = HasFed l.fn.self l.bytes l.self l.left

abbrev pub decreases-lines : goal.decreases-lines
decreases-lines l = length l.left
