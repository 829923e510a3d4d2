use Rattle.num_range.specs.Cover.{reverse_cuts}
use Rattle.num_range.specs.Range.{PlainRange}
use Rattle.reverse_zone.specs.Apex.{apex_range}
use Rattle.reverse_zone.specs.Part.{part_inside}
use Rattle.reverse_zone.specs.Zone.{cut_lines}
use Rattle.reverse_zone.proofs.Appended.{IsAppended}
use Rattle.reverse_zone.proofs.zone.append_cuts.Given as goal

abbrev pub invariant-loop-cut : goal.invariant-loop-cut
invariant-loop-cut l =
    IsAppended (λ (cut : PlainRange). cut_lines (cut, l.servers)) l.fn.body l.body l.cut-iterator (reverse_cuts (part_inside l.range (apex_range l.fn.apex)))
