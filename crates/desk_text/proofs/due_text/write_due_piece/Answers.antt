use Rattle.desk_text.proofs.due_text.write_due_piece.Goals as goal

pub returns-clause-text : goal.returns-clause-text
returns-clause-text c = cc
