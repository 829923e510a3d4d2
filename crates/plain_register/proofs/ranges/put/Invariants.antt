use Rattle.std.proofs.Common.{◌≡◌, ◌++◌, take, drop}
use Rattle.reg_entry.specs.Ranges.{with_range}
use Rattle.plain_register.proofs.ranges.put.Given as goal

abbrev pub invariant-loop-i : goal.invariant-loop-i
invariant-loop-i g l =
    (l.ranges ≡ l.initial.ranges)
    × (take l.i l.ranges.items ++ with_range (drop l.i l.ranges.items) l.range l.value ≡ with_range l.ranges.items l.range l.value)
