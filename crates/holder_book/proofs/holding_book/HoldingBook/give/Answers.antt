use Rattle.std.proofs.Common.{sym, ◌∙◌}
use Rattle.reg_entry.specs.Holdings.{held_by_card}
use Rattle.holder_book.specs.HoldingBook.{held_in}
use Rattle.holder_book.proofs.Counting.{size_by_holder, fits_alone}
use Rattle.num_range.specs.Range.{size_of}
use Rattle.holder_book.proofs.holding_book.HoldingBook.give.Goals as goal

pub size-size-requires : goal.size-size-requires
size-size-requires c =
    fits_alone (held_in c.args.self.now c.in-Some.holder c.args.range.now.space)
    (held_by_card c.in-Some.holder c.args.range.now.space c.args.range.now c.args.card.now) (size_of c.args.range.now)
    (c.requires.held_fits c.in-Some.holder c.args.range.now.space)
    (size_by_holder c.args.card.now c.in-Some.holder c.args.range.now (sym c.holder_of.ensures ∙ c.in-Some.is))
