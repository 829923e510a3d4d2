use Rattle.desk_text.proofs.shown_text.write_none.Goals as goal

pub returns-clause-text : goal.returns-clause-text
returns-clause-text c = cc
