use Rattle.std.proofs.Common.{◌≡◌, ◌+◌, ◌-◌, ◌≤◌, length, take, drop}
use Rattle.page_dir.specs.Pages.{joined}
use Rattle.page_dir.specs.Spread.{AreTidy, pages_in}
use Rattle.page_dir.proofs.replacing.cut.Given as goal

abbrev pub invariant-loop-left : goal.invariant-loop-left
invariant-loop-left g l = record {
  there : l.i ≤ length (pages_in l.spread);
  front : take l.i (pages_in l.spread) ≡ take l.i (pages_in l.initial.spread);
  rest : drop l.left (joined (drop l.i (pages_in l.spread))) ≡ drop l.n (joined (drop l.i (pages_in l.initial.spread)));
  enough : l.left ≤ length (joined (drop l.i (pages_in l.spread)));
  count : length (pages_in l.spread) + l.spread.spare ≡ length (pages_in l.initial.spread) + l.initial.spread.spare;
  spare : l.initial.spread.spare ≤ l.spread.spare;
  tidy : AreTidy (pages_in l.spread) (l.i - 1) (l.i + 2);
}

abbrev pub decreases-loop-left : goal.decreases-loop-left
decreases-loop-left g l = length (pages_in l.spread) + l.left
