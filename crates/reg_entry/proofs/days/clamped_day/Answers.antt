use Rattle.std.proofs.Common.{rules}
use Rattle.reg_entry.proofs.days.clamped_day.Goals as goal

pub returns : goal.returns
returns c = search rules
