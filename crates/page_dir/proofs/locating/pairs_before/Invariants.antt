use Rattle.std.proofs.Common.{◌≤◌, ◌<◌, ◌-◌, ◌^◌, length}
use Rattle.page_dir.specs.Searching.{FailsAt, IsHalved, PassesAt, stands_before}
use Rattle.page_dir.proofs.locating.pairs_before.Given as goal

abbrev pub invariant-loop-low : goal.invariant-loop-low
invariant-loop-low g l = record {
  below : 0 < l.low → PassesAt (λ p. stands_before g.K.Ord.cmp l.side l.key p.0) l.page (l.low - 1);
  above : l.high < length l.page → FailsAt (λ p. stands_before g.K.Ord.cmp l.side l.key p.0) l.page l.high;
  order : l.low ≤ l.high;
  within : l.high ≤ length l.page;
  counted : l.initial.steps ≤ l.steps;
  halved : IsHalved (2 ^ (l.steps - l.initial.steps)) (l.high - l.low) (length l.page);
}

abbrev pub decreases-loop-low : goal.decreases-loop-low
decreases-loop-low g l = l.high - l.low
