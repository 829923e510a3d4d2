use Rattle.desk_tests.proofs.hall_tests.desks.goes_well_from_the_start.Given as goal

-- the snapshots are those of the book that was opened
abbrev pub ghosts-goes_well : goal.ghosts-goes_well
ghosts-goes_well g a = record { book = a.book.book; rooms = a.book.rooms }
