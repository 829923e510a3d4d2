use Rattle.std.proofs.Common.{◌≡◌, ◌+◌}
use Rattle.reg_entry.specs.Sums.{status_sum}
use Rattle.piece_book.proofs.sums.status_sum.Given as goal

abbrev pub invariant-loop-piece : goal.invariant-loop-piece
invariant-loop-piece l =
    (goal.iterator-loop-piece).can_next l.piece-iterator
    × (goal.iterator-loop-piece).is_finite l.piece-iterator
    × (l.sum + status_sum l.piece-iterator l.status ≡ status_sum l.fn.pieces l.status)
