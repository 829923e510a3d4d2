use Rattle.std.proofs.Common.{◌∙◌, ◌-◌, get_or, ap, arith, sym}
use Rattle.book_tests.proofs.Checking.{less_from, next_rises}
use Rattle.book_tests.proofs.page_dir_tests.rises.Goals as goal

pub loop-i-preserved : goal.loop-i-preserved
loop-i-preserved g c =
    next_rises g.K.Ord.cmp g.met.K.Ord.total c.args.pairs.now c.loop-i.i c.index-pairs-i.result c.index-pairs-i-in-loop-i.result (omega arith) (omega arith)
    c.loop-i.invariant (sym c.cmp.ensures ∙ less_from c.cmp.result (sym c.if-not-is_lt.ensures))
