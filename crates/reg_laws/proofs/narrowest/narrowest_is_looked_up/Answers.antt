use Rattle.reg_laws.proofs.LookedUp.{narrowest_looked_up}
use Rattle.reg_laws.proofs.narrowest.narrowest_is_looked_up.Goals as goal

pub returns : goal.returns
returns c = narrowest_looked_up
