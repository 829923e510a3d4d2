use Rattle.reg_laws.proofs.Playing.{changes_lead}
use Rattle.reg_laws.proofs.objects.changes_lead_to_objects.Goals as goal

pub returns : goal.returns
returns c = changes_lead
