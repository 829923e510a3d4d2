use Rattle.reg_laws.proofs.UseFacts.{used_within}
use Rattle.reg_laws.proofs.usage.use_is_bounded.Goals as goal

pub returns : goal.returns
returns c = record { part = used_within }
