use Rattle.std.proofs.Common.{Option, sym, ◌∙◌, ap}
use Rattle.std.specs.Option.{option_map}
use Rattle.num_range.specs.Range.{PlainRange}
use Rattle.sub_book.proofs.Sought.{straddled, passes, fails, is_absent}
use Rattle.sub_book.proofs.range_book.RangeBook.straddling.Goals as goal

pub returns-in_err-range : goal.returns-in_err-range
returns-in_err-range g c =
    c.from_residual.ensures
    ∙ sym (ap (λ (o : Option (PlainRange × g.row.T.Denot)). option_map (λ p. p.0) o)
    (is_absent (straddled c.args.at) c.args.self.now.ranges c.next_ending.ensures.apart (sym c.next_ending.ensures.found ∙ c.in_err-range.was)))

pub returns-then-straddles : goal.returns-then-straddles
returns-then-straddles g c =
    sym (ap (λ (o : Option (PlainRange × g.row.T.Denot)). option_map (λ p. p.0) o)
    (passes (straddled c.args.at) c.args.self.now.ranges (c.in_ok-range.range, c.in_ok-range.field-0-1) c.next_ending.ensures.apart
    (sym c.next_ending.ensures.found ∙ c.in_ok-range.was) (sym c.straddles.ensures ∙ c.if-straddles.true)))

pub returns-else-straddles : goal.returns-else-straddles
returns-else-straddles g c =
    sym (ap (λ (o : Option (PlainRange × g.row.T.Denot)). option_map (λ p. p.0) o)
    (fails (straddled c.args.at) c.args.self.now.ranges (c.in_ok-range.range, c.in_ok-range.field-0-1) c.next_ending.ensures.apart
    (sym c.next_ending.ensures.found ∙ c.in_ok-range.was) (sym c.straddles.ensures ∙ c.if-straddles.false)))
