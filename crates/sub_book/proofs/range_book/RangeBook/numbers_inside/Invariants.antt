use Rattle.sub_book.proofs.Counted.{IsSummed}
use Rattle.sub_book.proofs.range_book.RangeBook.numbers_inside.Given as goal

abbrev pub invariant-loop-range : goal.invariant-loop-range
invariant-loop-range g l = IsSummed l.r l.self.ranges l.range-iterator l.numbers
