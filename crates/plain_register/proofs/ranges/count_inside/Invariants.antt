use Rattle.std.proofs.Common.{◌≡◌, ◌+◌, ◌≤◌, ℕ, length, drop}
use Rattle.reg_entry.specs.Ranges.{ranges_inside}
use Rattle.plain_register.proofs.ranges.count_inside.Given as goal

abbrev pub invariant-loop-p : goal.invariant-loop-p
invariant-loop-p g l =
    (l.count ≤ l.p-index) × ◌≡◌ {A = ℕ} (l.count + length (ranges_inside (drop l.p-index l.ranges) l.range)) (length (ranges_inside l.ranges l.range))
