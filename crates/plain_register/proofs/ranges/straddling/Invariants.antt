use Rattle.std.proofs.Common.{◌≡◌, drop}
use Rattle.reg_entry.specs.Decision.{straddling}
use Rattle.plain_register.proofs.ranges.straddling.Given as goal

abbrev pub invariant-loop-p : goal.invariant-loop-p
invariant-loop-p g l = straddling (drop l.p-index l.ranges) l.at ≡ straddling l.ranges l.at
