use Rattle.reg_laws.proofs.HoldingFacts.{takes_held, takes_allocated}
use Rattle.reg_laws.proofs.holdings.next_entries_take_what_is_held.Goals as goal

pub returns : goal.returns
returns c = record { held = takes_held; allocated = takes_allocated }
