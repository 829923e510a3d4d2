use Rattle.std.proofs.Common.{◌≡◌, true, sym, ◌∙◌, ap, arith}
use Rattle.std.specs.List.{insert}
use Rattle.std.specs.Result.{is_ok}
use Rattle.num_range.specs.Range.{same_range, range_before}
use Rattle.reg_entry.specs.Ranges.{with_range}
use Rattle.plain_register.proofs.Places.{put_same, put_before, put_last}
use Rattle.plain_register.proofs.ranges.put.Goals as goal

pub returns-then-is_same-clause-items : goal.returns-then-is_same-clause-items
returns-then-is_same-clause-items g c =
    sym (put_same c.loop-i.ranges.items c.loop-i.i c.args.range.now c.args.value c.index.result.now (omega arith)
    (ap (λ p. same_range p.0 c.args.range.now) (sym c.index.ensures) ∙ sym c.is_same.ensures ∙ c.if-is_same.true))
    ∙ c.loop-i.invariant.1
    ∙ ap (λ v. with_range v.items c.args.range.now c.args.value) c.loop-i.invariant.0

pub returns-then-is_before-clause-items : goal.returns-then-is_before-clause-items
returns-then-is_before-clause-items g c =
    let ok : is_ok c.insert.result ≡ true = c.insert.ensures.succeeds (omega arith) in
    let items : c.insert.new.self.items ≡ insert c.loop-i.ranges.items c.loop-i.i (c.args.range.now, c.args.value) = rw ok at c.insert.ensures.items in
    items
    ∙ sym (put_before c.loop-i.ranges.items c.loop-i.i c.args.range.now c.args.value c.index.result.now (omega arith)
    (ap (λ p. same_range p.0 c.args.range.now) (sym c.index.ensures) ∙ sym c.is_same.ensures ∙ c.if-is_same.false)
    (ap (λ p. range_before c.args.range.now p.0) (sym c.index.ensures) ∙ sym c.is_before.ensures ∙ c.if-is_before.true))
    ∙ c.loop-i.invariant.1
    ∙ ap (λ v. with_range v.items c.args.range.now c.args.value) c.loop-i.invariant.0

pub returns-clause-items : goal.returns-clause-items
returns-clause-items g c =
    c.push_reserved.ensures.items
    ∙ sym (put_last c.loop-i.ranges.items c.loop-i.i c.args.range.now c.args.value (omega arith))
    ∙ c.loop-i.invariant.1
    ∙ ap (λ v. with_range v.items c.args.range.now c.args.value) c.loop-i.invariant.0
