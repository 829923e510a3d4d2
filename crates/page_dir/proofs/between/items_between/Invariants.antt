use Rattle.std.proofs.Common.{◌≡◌, ◌+◌}
use Rattle.page_dir.specs.Spread.{pages_in, start}
use Rattle.page_dir.proofs.between.items_between.Given as goal

abbrev pub invariant-loop-i : goal.invariant-loop-i
invariant-loop-i g l = start (pages_in l.spread) l.first + l.count ≡ start (pages_in l.spread) l.i
