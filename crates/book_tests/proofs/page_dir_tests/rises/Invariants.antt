use Rattle.std.proofs.Common.{take}
use Rattle.page_dir.specs.Sorted.{Rises}
use Rattle.book_tests.proofs.page_dir_tests.rises.Given as goal

abbrev pub invariant-loop-i : goal.invariant-loop-i
invariant-loop-i g l = Rises g.K.Ord.cmp (take l.i l.pairs)
