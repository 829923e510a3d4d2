use Rattle.reg_laws.proofs.Leading.{operations_lead, operations_give}
use Rattle.reg_laws.proofs.objects.operations_lead_to_objects.Goals as goal

pub returns : goal.returns
returns c = record { keys = operations_lead; list = operations_give }
