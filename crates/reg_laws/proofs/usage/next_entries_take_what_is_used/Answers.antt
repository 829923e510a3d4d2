use Rattle.reg_laws.proofs.UseFacts.{use_there, returned_there}
use Rattle.reg_laws.proofs.usage.next_entries_take_what_is_used.Goals as goal

pub returns : goal.returns
returns c = record { painted = use_there; returned = returned_there }
