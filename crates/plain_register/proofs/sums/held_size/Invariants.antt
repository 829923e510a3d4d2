use Rattle.std.proofs.Common.{◌≡◌, ◌+◌, ℕ, drop, filter}
use Rattle.reg_entry.specs.Pieces.{size_sum}
use Rattle.reg_entry.specs.Sums.{is_held_by}
use Rattle.plain_register.proofs.sums.held_size.Given as goal

abbrev pub invariant-loop-piece : goal.invariant-loop-piece
invariant-loop-piece l =
    ◌≡◌ {A = ℕ} (l.sum + size_sum (filter (is_held_by l.holder) (drop l.piece-index l.pieces))) (size_sum (filter (is_held_by l.holder) l.pieces))
