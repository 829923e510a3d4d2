use Rattle.reg_laws.proofs.HoldingFacts.{next_held, next_allocated, same_held, same_allocated}
use Rattle.reg_laws.proofs.holdings.next_entries_change_holdings.Goals as goal

pub returns : goal.returns
returns c = record { held = next_held; allocated = next_allocated; same_held = same_held; same_allocated = same_allocated }
