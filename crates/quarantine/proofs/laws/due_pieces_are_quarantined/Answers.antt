use Rattle.quarantine.proofs.Members.{due_was, due_ended, ended_due}
use Rattle.quarantine.proofs.laws.due_pieces_are_quarantined.Goals as goal

pub returns-clause-pooled : goal.returns-clause-pooled
returns-clause-pooled c = due_was

pub returns-clause-ended : goal.returns-clause-ended
returns-clause-ended c = due_ended

pub returns-clause-all : goal.returns-clause-all
returns-clause-all c = ended_due
