use Rattle.std.proofs.Common.{Option, sym, ◌∙◌, ap}
use Rattle.std.specs.Option.{option_map}
use Rattle.num_range.specs.Range.{PlainRange}
use Rattle.sub_book.proofs.LastOrder.{same_is}
use Rattle.sub_book.proofs.Sought.{exact, passes, fails, is_absent}
use Rattle.sub_book.proofs.range_book.RangeBook.exact.Goals as goal

pub returns-in_err-range : goal.returns-in_err-range
returns-in_err-range g c =
    c.from_residual.ensures
    ∙ sym (ap (λ (o : Option (PlainRange × g.row.T.Denot)). option_map (λ p. p.1) o)
    (is_absent (exact c.args.r.now c.first_reaching.ensures.valid) c.args.self.now.ranges c.first_reaching.ensures.apart
    (sym c.first_reaching.ensures.found ∙ c.in_err-range.was)))

pub returns-then-eq : goal.returns-then-eq
returns-then-eq g c =
    sym (ap (λ (o : Option (PlainRange × g.row.T.Denot)). option_map (λ p. p.1) o)
    (passes (exact c.args.r.now c.first_reaching.ensures.valid) c.args.self.now.ranges (c.in_ok-range.range, c.in_ok-range.value) c.first_reaching.ensures.apart
    (sym c.first_reaching.ensures.found ∙ c.in_ok-range.was) (sym (same_is c.in_ok-range.range c.args.r.now) ∙ sym c.eq.ensures ∙ c.if-eq.true)))

pub returns-else-eq : goal.returns-else-eq
returns-else-eq g c =
    sym (ap (λ (o : Option (PlainRange × g.row.T.Denot)). option_map (λ p. p.1) o)
    (fails (exact c.args.r.now c.first_reaching.ensures.valid) c.args.self.now.ranges (c.in_ok-range.range, c.in_ok-range.value) c.first_reaching.ensures.apart
    (sym c.first_reaching.ensures.found ∙ c.in_ok-range.was) (sym (same_is c.in_ok-range.range c.args.r.now) ∙ sym c.eq.ensures ∙ c.if-eq.false)))
