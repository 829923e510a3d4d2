use Rattle.reg_laws.proofs.UseFacts.{use_painted, use_assigned, use_returned, use_kept}
use Rattle.reg_laws.proofs.usage.next_entries_change_use.Goals as goal

pub returns : goal.returns
returns c = record { painted = use_painted; assigned = use_assigned; returned = use_returned; same = use_kept }
