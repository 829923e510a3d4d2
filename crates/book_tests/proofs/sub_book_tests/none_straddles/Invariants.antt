use Rattle.sub_book.specs.Book.{NoneStraddles}
use Rattle.book_tests.proofs.sub_book_tests.none_straddles.Given as goal

abbrev pub invariant-loop-range : goal.invariant-loop-range
invariant-loop-range l = NoneStraddles l.range-iterator l.r → NoneStraddles l.book.ranges l.r
