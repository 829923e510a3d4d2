use Rattle.std.proofs.Common.{◌≡◌, not, drop, filter}
use Rattle.num_range.specs.Range.{same_range}
use Rattle.reg_entry.specs.Ranges.{first_meeting}
use Rattle.plain_register.proofs.ranges.first_meeting_other.Given as goal

abbrev pub invariant-loop-p : goal.invariant-loop-p
invariant-loop-p g l =
    first_meeting (filter (λ p. not (same_range p.0 l.range)) (drop l.p-index l.ranges)) l.range
    ≡ first_meeting (filter (λ p. not (same_range p.0 l.range)) l.ranges) l.range
