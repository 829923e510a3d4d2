use Rattle.std.proofs.Common.{◌≡◌, ◌+◌, ◌≤◌, drop, length}
use Rattle.page_dir.specs.Sorted.{rank}
use Rattle.book_tests.proofs.page_dir_tests.ends_below.Given as goal

abbrev pub invariant-loop : goal.invariant-loop
invariant-loop g l = record {
  rest : l.walk ≡ drop (rank g.K.Ord.cmp l.from l.dir.pairs + l.counter) l.dir.pairs;
  there : rank g.K.Ord.cmp l.from l.dir.pairs + l.counter ≤ length l.dir.pairs;
}
