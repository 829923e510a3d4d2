use Rattle.std.proofs.Common.{◌≡◌, length}
use Rattle.op_feed.specs.PieceChanges.{piece_of_range}
use Rattle.op_feed.proofs.changes.piece_of_range.Given as goal

abbrev pub invariant-loop-left : goal.invariant-loop-left
invariant-loop-left l = piece_of_range l.left l.range ≡ piece_of_range l.fn.pieces l.range

abbrev pub decreases-loop-left : goal.decreases-loop-left
decreases-loop-left l = length l.left
