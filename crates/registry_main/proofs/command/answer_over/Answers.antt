use Rattle.registry_main.proofs.Written.{kept_begins}
use Rattle.registry_main.proofs.command.answer_over.Goals as goal

pub returns-in-Ok-clause-front : goal.returns-in-Ok-clause-front
returns-in-Ok-clause-front g c = kept_begins _ _ c.in-Ok.ensures.ok
