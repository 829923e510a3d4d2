use Rattle.reg_laws.proofs.HoldingFacts.{held_below, allocated_within, nobody_holds}
use Rattle.reg_laws.proofs.holdings.holdings_are_bounded.Goals as goal

pub returns : goal.returns
returns c = record { bound = held_below; part = allocated_within; nobody = nobody_holds }
