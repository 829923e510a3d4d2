use Rattle.std.proofs.Common.{◌≡◌, drop}
use Rattle.reg_entry.specs.Ranges.{value_of_range}
use Rattle.plain_register.proofs.ranges.value_of_range.Given as goal

abbrev pub invariant-loop-p : goal.invariant-loop-p
invariant-loop-p g l = value_of_range (drop l.p-index l.ranges) l.range ≡ value_of_range l.ranges l.range
