use Rattle.registry_main.proofs.held_replies.write_held.Goals as goal

pub returns-clause-empty : goal.returns-clause-empty
returns-clause-empty g c = cc
