use Rattle.std.proofs.Common.{◌≡◌, ◌-◌, ◌≤◌, length, take}
use Rattle.page_dir.specs.Sorted.{rank}
use Rattle.page_dir.specs.Splices.{spliced}
use Rattle.page_dir.proofs.directory.PageDir.replace_run.Given as goal

abbrev pub invariant-loop-done : goal.invariant-loop-done
invariant-loop-done g l = record {
  pairs : l.self.pairs ≡ spliced (rank g.K.Ord.cmp l.fn.from l.fn.self.pairs) l.n (take l.done l.new) l.fn.self.pairs;
  room : l.self.room ≡ l.fn.self.room;
  within : l.done ≤ length l.new;
}

abbrev pub decreases-loop-done : goal.decreases-loop-done
decreases-loop-done g l = length l.new - l.done
