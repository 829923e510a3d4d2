use Rattle.std.proofs.Common.{◌≡◌, ◌+◌, ◌-◌, ◌≤◌, length, vec_capacity}
use Rattle.page_dir.specs.Pages.{joined}
use Rattle.page_dir.specs.Spread.{AreTidy, pages_in}
use Rattle.page_dir.proofs.tidying.tidy.Given as goal

abbrev pub invariant-loop-i : goal.invariant-loop-i
invariant-loop-i g l = record {
  joined : joined (pages_in l.spread) ≡ joined (pages_in l.initial.spread);
  count : length (pages_in l.spread) + l.spread.spare ≡ length (pages_in l.initial.spread) + l.initial.spread.spare;
  tidy : AreTidy (pages_in l.spread) l.i l.until;
  carry : 64 ≤ vec_capacity l.carry;
}

abbrev pub decreases-loop-i : goal.decreases-loop-i
decreases-loop-i g l = length (pages_in l.spread) - l.i
