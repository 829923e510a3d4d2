use Rattle.snapshot_laws.proofs.Steps.{publication_keeps, look_keeps}
use Rattle.snapshot_laws.proofs.laws.steps_keep_the_rule.Goals as goal

pub returns : goal.returns
returns c = record { publication = publication_keeps; look = look_keeps }
