use Rattle.piece_book.proofs.space_book.SpaceBook.last_begun.Given as goal

abbrev pub ghosts-found : goal.ghosts-found
ghosts-found a = record { name = a.blank.name; parts = a.blank.parts }
