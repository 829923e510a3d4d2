use Rattle.page_dir.proofs.locating.page_near.Given as goal

abbrev pub ghosts-pages_up_to : goal.ghosts-pages_up_to
ghosts-pages_up_to g a = record { name = a.blank.name; parts = a.blank.parts }
