use Rattle.std.proofs.Common.{ℕ, Some, sym, ◌∙◌, ap}
use Rattle.std.specs.List.{slice_get}
use Rattle.num_range.specs.Range.{PlainRange}
use Rattle.sub_book.specs.Book.{PlainRangeBook}
use Rattle.sub_book.specs.Order.{ended_below}
use Rattle.sub_book.proofs.LastOrder.{place_is}
use Rattle.sub_book.proofs.range_book.RangeBook.next_ending.Goals as goal

pub returns-clause-found : goal.returns-clause-found
returns-clause-found g c =
    let pairs = c.self.inside.dir.pairs in
    ap (λ (r : PlainRange). Some (r, c.in_ok-key.value)) c.range.ensures.range
    ∙ sym c.in_ok-key.was
    ∙ c.from.ensures
    ∙ ap (λ (i : ℕ). slice_get pairs i) (place_is c.args.n c.ending_at.result pairs c.ending_at.ensures)
    ∙ ap (λ (b : PlainRangeBook g.row.T.Denot). slice_get b.ranges (ended_below c.args.n b.ranges)) c.self.view_is
