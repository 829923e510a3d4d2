use Rattle.std.proofs.Common.{sym, ◌∙◌, subst, ap, rules, ◌^◌, ◌<◌}
use Rattle.reg_entry.specs.Holdings.{held_by_card}
use Rattle.holder_book.specs.HoldingBook.{held_in}
use Rattle.holder_book.proofs.Counting.{size_by_holder, fits_below, loser_is_there}
use Rattle.num_range.specs.Range.{size_of}
use Rattle.holder_book.proofs.holding_book.HoldingBook.take.Goals as goal

pub size-size-requires : goal.size-size-requires
size-size-requires c =
    fits_below (held_in c.args.self.now c.in-Some.holder c.args.range.now.space)
    (held_by_card c.in-Some.holder c.args.range.now.space c.args.range.now c.args.card.now) (size_of c.args.range.now)
    (subst (λ n. n < 2 ^ 128) (c.numbers-numbers.ensures.held ∙ ap (held_in c.args.self.now c.in-Some.holder) c.space-space.ensures) (search rules))
    (c.requires.held c.in-Some.holder c.args.range.now.space)
    (size_by_holder c.args.card.now c.in-Some.holder c.args.range.now (sym c.holder_of.ensures ∙ c.in-Some.is))

pub put-requires : goal.put-requires
put-requires c =
    loser_is_there c.args.self.now c.args.card.now c.in-Some.holder c.args.range.now (sym c.holder_of.ensures ∙ c.in-Some.is)
    (c.requires.held c.in-Some.holder c.args.range.now.space)

pub returns-in-Some-clause-allocated : goal.returns-in-Some-clause-allocated
returns-in-Some-clause-allocated c = search rules
