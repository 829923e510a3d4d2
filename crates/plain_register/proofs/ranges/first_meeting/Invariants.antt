use Rattle.std.proofs.Common.{◌≡◌, drop}
use Rattle.reg_entry.specs.Ranges.{first_meeting}
use Rattle.plain_register.proofs.ranges.first_meeting.Given as goal

abbrev pub invariant-loop-p : goal.invariant-loop-p
invariant-loop-p g l = first_meeting (drop l.p-index l.ranges) l.range ≡ first_meeting l.ranges l.range
