use Rattle.std.proofs.Common.{sym, ◌∙◌}
use Rattle.sub_book.proofs.Sought.{enclosed, passes, fails, is_absent, only_one}
use Rattle.sub_book.proofs.range_book.RangeBook.enclosing.Goals as goal

pub returns-in_err-range : goal.returns-in_err-range
returns-in_err-range g c =
    let e = is_absent (enclosed c.args.r.now c.first_reaching.ensures.valid) c.args.self.now.ranges c.first_reaching.ensures.apart
    (sym c.first_reaching.ensures.found ∙ c.in_err-range.was) in
    record {
      range = c.from_residual.ensures ∙ sym e;
      only = only_one c.args.r.now c.args.self.now.ranges c.from_residual.result c.first_reaching.ensures.valid c.first_reaching.ensures.apart (c.from_residual.ensures ∙ sym e);
    }

pub returns-then-inside : goal.returns-then-inside
returns-then-inside g c =
    let e = passes (enclosed c.args.r.now c.first_reaching.ensures.valid) c.args.self.now.ranges (c.in_ok-range.range, c.in_ok-range.value) c.first_reaching.ensures.apart
    (sym c.first_reaching.ensures.found ∙ c.in_ok-range.was) (sym c.inside.ensures ∙ c.if-inside.true) in
    record {
      range = sym e;
      only = only_one c.args.r.now c.args.self.now.ranges _ c.first_reaching.ensures.valid c.first_reaching.ensures.apart (sym e);
    }

pub returns-else-inside : goal.returns-else-inside
returns-else-inside g c =
    let e = fails (enclosed c.args.r.now c.first_reaching.ensures.valid) c.args.self.now.ranges (c.in_ok-range.range, c.in_ok-range.value) c.first_reaching.ensures.apart
    (sym c.first_reaching.ensures.found ∙ c.in_ok-range.was) (sym c.inside.ensures ∙ c.if-inside.false) in
    record {
      range = sym e;
      only = only_one c.args.r.now c.args.self.now.ranges _ c.first_reaching.ensures.valid c.first_reaching.ensures.apart (sym e);
    }
