use Rattle.std.proofs.Common.{◌≤◌, ◌*◌, ◌-◌, ◌^◌, length}
use Rattle.page_dir.specs.Searching.{FailsAt, IsWindow, PassesAt, power_bound, stands_before}
use Rattle.page_dir.proofs.locating.rows_by_halving.Given as goal

abbrev pub invariant-loop-window : goal.invariant-loop-window
invariant-loop-window g l = record {
  window : IsWindow (PassesAt (λ p. stands_before g.K.Ord.cmp l.side l.key p.0) l.rows) (FailsAt (λ p. stands_before g.K.Ord.cmp l.side l.key p.0) l.rows)
      (length l.rows) l.window.low l.window.left;
  counted : l.initial.steps ≤ l.steps;
  cost : 2 ^ (l.steps - l.initial.steps) * power_bound l.window.left ≤ power_bound (length l.rows);
}

abbrev pub decreases-loop-window : goal.decreases-loop-window
decreases-loop-window g l = l.window.left
