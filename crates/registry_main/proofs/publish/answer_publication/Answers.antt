use Rattle.registry_main.proofs.Written.{kept_begins}
use Rattle.registry_main.proofs.publish.answer_publication.Goals as goal

pub returns-in-Ok-clause-published : goal.returns-in-Ok-clause-published
returns-in-Ok-clause-published g c = (
  c.day.result,
  c.day.ensures,
  record { front = kept_begins _ _ c.in-Ok.ensures.ok; done = λ _. (c.in-Ok.ensures.ok, c.in-Ok.ensures.end) },
)
