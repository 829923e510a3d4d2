use Rattle.reg_laws.proofs.RisingKeys.{whole_rises}
use Rattle.reg_laws.proofs.objects.whole_registers_rise_by_key.Goals as goal

pub returns : goal.returns
returns c = whole_rises
