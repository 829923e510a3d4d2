use Rattle.desk_book.specs.Book.{first_pass}
use Rattle.desk_tests.proofs.desk_book_tests.are_answered_over_new_book.Goals as goal

pub are_answered_at_desk-requires-clause-one : goal.are_answered_at_desk-requires-clause-one
are_answered_at_desk-requires-clause-one g c = (c.in-Some.ensures (first_pass c.in-Ok.book) c.in-Ok.ensures.passes).0.0

pub are_answered_at_desk-requires-clause-two : goal.are_answered_at_desk-requires-clause-two
are_answered_at_desk-requires-clause-two g c = (c.in-Some.ensures (first_pass c.in-Ok.book) c.in-Ok.ensures.passes).0.1
