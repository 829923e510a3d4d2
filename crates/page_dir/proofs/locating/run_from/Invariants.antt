use Rattle.page_dir.proofs.locating.run_from.Given as goal

abbrev pub ghosts-place_of : goal.ghosts-place_of
ghosts-place_of g a = record { name = a.blank.name; parts = a.blank.parts }
