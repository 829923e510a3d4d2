use Rattle.reg_laws.proofs.RisingKeys.{whole_is_distinct}
use Rattle.reg_laws.proofs.objects.whole_registers_have_distinct_keys.Goals as goal

pub returns : goal.returns
returns c = whole_is_distinct
