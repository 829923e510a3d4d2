use Rattle.reg_laws.proofs.Narrowing.{narrowest_least}
use Rattle.reg_laws.proofs.narrowest.narrowest_is_least.Goals as goal

pub returns : goal.returns
returns c = narrowest_least
