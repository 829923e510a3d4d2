use Rattle.desk_book.specs.Book.{first_pass}
use Rattle.desk_tests.proofs.desk_book_tests.are_shared_over_new_book.Goals as goal

pub are_shared_at_desk-requires-clause-first : goal.are_shared_at_desk-requires-clause-first
are_shared_at_desk-requires-clause-first g c κs lives = (c.in-Some-Some.ensures (first_pass c.in-Ok.book) c.in-Ok.ensures.passes).0.0

pub are_shared_at_desk-requires-clause-second : goal.are_shared_at_desk-requires-clause-second
are_shared_at_desk-requires-clause-second g c κs lives = (c.in-Some-Some.ensures (first_pass c.in-Ok.book) c.in-Ok.ensures.passes).0.1

pub are_shared_at_desk-requires-clause-third : goal.are_shared_at_desk-requires-clause-third
are_shared_at_desk-requires-clause-third g c κs lives =
    let submitting = c.in-Some-Some.ensures (first_pass c.in-Ok.book) c.in-Ok.ensures.passes in
    (c.in-Some-Some.ensures' (first_pass c.in-Ok.book) submitting.1).0.0

pub are_shared_at_desk-requires-clause-fourth : goal.are_shared_at_desk-requires-clause-fourth
are_shared_at_desk-requires-clause-fourth g c κs lives =
    let submitting = c.in-Some-Some.ensures (first_pass c.in-Ok.book) c.in-Ok.ensures.passes in
    (c.in-Some-Some.ensures' (first_pass c.in-Ok.book) submitting.1).0.1
