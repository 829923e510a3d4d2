use Rattle.std.proofs.Common.{◌∙◌}
use Rattle.sub_book.proofs.Counted.{none_summed}
use Rattle.sub_book.proofs.range_book.RangeBook.numbers_inside.Goals as goal

pub loop-range-init : goal.loop-range-init
loop-range-init g c =
    none_summed c.args.r.now c.args.self.now.ranges _ c.first-first.ensures.valid c.requires c.are_apart.ensures.apart
    (c.into_iter-range-iterator.ensures.into_iter_gives ∙ c.walk-range-items.ensures)
