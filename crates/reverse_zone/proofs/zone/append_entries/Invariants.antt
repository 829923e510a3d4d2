use Rattle.std.proofs.Common.{◌≡◌, true}
use Rattle.std.specs.List.{AllByRecursion}
use Rattle.num_range.specs.Range.{ranges_meet}
use Rattle.sub_book.specs.Book.{ranges_meeting}
use Rattle.reverse_zone.specs.Apex.{apex_range}
use Rattle.reverse_zone.proofs.Appended.{IsAppended}
use Rattle.reverse_zone.proofs.ZoneLines.{entry_lines}
use Rattle.reverse_zone.proofs.zone.append_entries.Given as goal

abbrev pub invariant-loop-range : goal.invariant-loop-range
invariant-loop-range l = record {
  text : IsAppended (entry_lines l.apex) l.fn.body l.body l.range-iterator (ranges_meeting l.reverses.ranges (apex_range l.apex));
  met : AllByRecursion (λ p. ranges_meet p.0 (apex_range l.apex) ≡ true) l.range-iterator;
}
