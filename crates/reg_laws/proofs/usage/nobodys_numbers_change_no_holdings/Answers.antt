use Rattle.reg_laws.proofs.Nobodys.{nobody_gains, nobody_is_allocated, nobody_uses}
use Rattle.reg_laws.proofs.usage.nobodys_numbers_change_no_holdings.Goals as goal

pub returns : goal.returns
returns c = record { held = nobody_gains; allocated = nobody_is_allocated; used = nobody_uses }
