use Rattle.std.proofs.Common.{◌≡◌, drop, filter}
use Rattle.reg_entry.specs.Sums.{is_allocated_to, lies_in_one}
use Rattle.plain_register.proofs.sums.lies_in_allocated.Given as goal

abbrev pub invariant-loop-piece : goal.invariant-loop-piece
invariant-loop-piece l =
    lies_in_one (filter (is_allocated_to l.holder) (drop l.piece-index l.pieces)) l.range ≡ lies_in_one (filter (is_allocated_to l.holder) l.pieces) l.range
