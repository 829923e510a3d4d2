use Rattle.std.proofs.Common.{List, ℕ, sym, ◌∙◌, ap, subst, drop}
use Rattle.num_range.specs.Number.{PlainNumber}
use Rattle.num_range.specs.Range.{PlainRange, first_number}
use Rattle.sub_book.specs.Book.{PlainRangeBook, ranges_meeting}
use Rattle.sub_book.specs.Walk.{MeetFirst}
use Rattle.sub_book.proofs.LastOrder.{ending_at, place_is}
use Rattle.sub_book.proofs.Sought.{filter_past, meet_first_of, meeting, meets}
use Rattle.sub_book.proofs.range_book.RangeBook.walk.Goals as goal

pub over-requires : goal.over-requires
over-requires g c =
    let r = c.args.r.now in
    let pairs = c.self.inside.dir.pairs in
    let from = c.ending_at.ensures ∙ ap (λ (n : PlainNumber). ending_at n) c.first_number.ensures in
    subst (λ (ps : List (PlainRange × g.row.T.Denot)). MeetFirst r ps)
    (sym (c.walk_from.ensures ∙ ap (λ (i : ℕ). drop i pairs) (place_is (first_number r) _ pairs from)))
    (meet_first_of r pairs c.self.invariant.apart)

pub returns : goal.returns
returns g c =
    let r = c.args.r.now in
    let pairs = c.self.inside.dir.pairs in
    let from = c.ending_at.ensures ∙ ap (λ (n : PlainNumber). ending_at n) c.first_number.ensures in
    c.over.ensures
    ∙ ap (λ (ps : List (PlainRange × g.row.T.Denot)). ranges_meeting ps r) (c.walk_from.ensures ∙ ap (λ (i : ℕ). drop i pairs) (place_is (first_number r) _ pairs from))
    ∙ filter_past (first_number r) (meets r) pairs (meeting r)
    ∙ ap (λ (b : PlainRangeBook g.row.T.Denot). ranges_meeting b.ranges r) c.self.view_is
