use Rattle.book_tests.proofs.page_dir_tests.finds_alike.Given as goal

abbrev pub ghosts-found : goal.ghosts-found
ghosts-found g a = record { name = a.blank.name; parts = a.blank.parts }
