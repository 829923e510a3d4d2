use Rattle.snapshot_laws.proofs.Steps.{look_is_event, publication_is_event}
use Rattle.snapshot_laws.proofs.laws.steps_are_events.Goals as goal

pub returns : goal.returns
returns c = record { look = look_is_event; telling = look_is_event; publication = publication_is_event }
