use Rattle.reg_laws.proofs.Leading.{next_changes_lead, next_changes_give}
use Rattle.reg_laws.proofs.objects.next_changes_lead_to_objects.Goals as goal

pub returns : goal.returns
returns c = record { keys = next_changes_lead; list = next_changes_give }
