use Rattle.desk_tests.proofs.desk_book_tests.are_shared_over_new_book.Given as goal

-- the snapshots are those of the book that was opened
abbrev pub ghosts-are_shared_at_desk : goal.ghosts-are_shared_at_desk
ghosts-are_shared_at_desk g a = record { book = a.book.book; rooms = a.book.rooms }
