use Rattle.page_dir.specs.Sorted.{rank}
use Rattle.page_dir.proofs.Rising.{meets_from, rises-spliced}
use Rattle.book_tests.proofs.page_dir_tests.Listed.splice.Goals as goal

pub replace_run-requires-clause-rises : goal.replace_run-requires-clause-rises
replace_run-requires-clause-rises g c =
    let ps = c.self.inside.dir.pairs in
    let new = c.args.new.now in
    rises-spliced g.K.Ord.cmp g.met.K.Ord.total (rank g.K.Ord.cmp c.args.from.now ps) c.args.n new ps c.len.ensures.rises c.if-not-rises.ensures
    (meets_from g.K.Ord.cmp g.met.K.Ord.total c.args.from.now new ps c.if-not-begins_from.ensures) c.if-not-ends_below.ensures.meets
