use Rattle.std.proofs.Common.{◌≡◌, ◌-◌, ◌∙◌, ap, arith}
use Rattle.sub_book.specs.Book.{PlainRangeBook}
use Rattle.sub_book.specs.Order.{ended_below}
use Rattle.sub_book.proofs.LastOrder.{place_is}
use Rattle.sub_book.proofs.range_book.RangeBook.count_ending.Goals as goal

pub returns : goal.returns
returns g c =
    let pairs = c.self.inside.dir.pairs in
    let from = place_is c.args.from c.ending_at.result pairs c.ending_at.ensures in
    let until = place_is c.args.until c.ending_at-2.result pairs c.ending_at-2.ensures in
    let count = c.count_between.ensures in
    let here : c.count_between.result ≡ ended_below c.args.until pairs - ended_below c.args.from pairs = omega (arith, from, until, count) in
    here ∙ ap (λ (b : PlainRangeBook g.row.T.Denot). ended_below c.args.until b.ranges - ended_below c.args.from b.ranges) c.self.view_is
