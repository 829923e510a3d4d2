use Rattle.std.proofs.Common.{◌+◌, arith}
use Rattle.page_dir.specs.Spread.{pages_in}
use Rattle.page_dir.proofs.Starts.{page_counted, start-le-all}
use Rattle.page_dir.proofs.between.items_between.Goals as goal

pub loop-i-preserved : goal.loop-i-preserved
loop-i-preserved g c =
    page_counted (pages_in c.args.spread.now) c.page.result.now c.args.first c.loop-i.i c.loop-i.count (omega arith) c.page.ensures.items c.loop-i.invariant

pub overflow_add-count : goal.overflow_add-count
overflow_add-count g c =
    let next = page_counted (pages_in c.args.spread.now) c.page.result.now c.args.first c.loop-i.i c.loop-i.count (omega arith) c.page.ensures.items c.loop-i.invariant in
    let most = start-le-all (pages_in c.args.spread.now) (c.loop-i.i + 1) in
    omega (arith, next, most, c.requires.small)
