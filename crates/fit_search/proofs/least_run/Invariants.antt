use Rattle.std.proofs.Common.{◌≡◌}
use Rattle.num_range.specs.declared.space.Space.TheVariants.{Asn}
use Rattle.reg_entry.specs.Blocks.{least_block}
use Rattle.fit_search.proofs.least_run.Given as goal

abbrev pub invariant-loop-piece : goal.invariant-loop-piece
invariant-loop-piece l =
    (goal.iterator-loop-piece).can_next l.piece-iterator ×
    (goal.iterator-loop-piece).is_finite l.piece-iterator ×
    (least_block l.piece-iterator Asn l.size ≡ least_block l.fn.pieces Asn l.size)
