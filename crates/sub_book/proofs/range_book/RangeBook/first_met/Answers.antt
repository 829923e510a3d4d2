use Rattle.std.proofs.Common.{sym, ◌∙◌}
use Rattle.sub_book.proofs.Sought.{meeting, passes, fails, is_absent}
use Rattle.sub_book.proofs.range_book.RangeBook.first_met.Goals as goal

pub returns-in_err-range : goal.returns-in_err-range
returns-in_err-range g c =
    c.from_residual.ensures
    ∙ sym (is_absent (meeting c.args.r.now) c.args.self.now.ranges c.first_reaching.ensures.apart (sym c.first_reaching.ensures.found ∙ c.in_err-range.was))

pub returns-then-meets : goal.returns-then-meets
returns-then-meets g c =
    sym (passes (meeting c.args.r.now) c.args.self.now.ranges (c.in_ok-range.range, c.in_ok-range.value) c.first_reaching.ensures.apart
    (sym c.first_reaching.ensures.found ∙ c.in_ok-range.was) (sym c.meets.ensures ∙ c.if-meets.true))

pub returns-else-meets : goal.returns-else-meets
returns-else-meets g c =
    sym (fails (meeting c.args.r.now) c.args.self.now.ranges (c.in_ok-range.range, c.in_ok-range.value) c.first_reaching.ensures.apart
    (sym c.first_reaching.ensures.found ∙ c.in_ok-range.was) (sym c.meets.ensures ∙ c.if-meets.false))
