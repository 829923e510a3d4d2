use Rattle.std.proofs.Common.{◌≡◌, ℕ, ◌+◌, ◌^◌, ◌≤◌, ◌∙◌, sym, ap, arith}
use Rattle.std.proofs.Math.Nat.{pow-le-pow_right}
use Rattle.num_range.specs.Range.{PlainRange}
use Rattle.reg_entry.specs.Blocks.{rounded_up}
use Rattle.piece_book.proofs.FreeClass.{exponent_fits, exponent_one_less}
use Rattle.piece_book.proofs.free.key.exponent_within.Goals as goal

-- the gap leads to the first multiple
rounded_from : (r : PlainRange) (e first size gap : ℕ) → first ≡ r.first → size ≡ 2 ^ e → first + gap ≡ rounded_up first size → r.first + gap ≡ rounded_up r.first (2 ^ e)
rounded_from r e first size gap same is sum =
    ap (λ n. n + gap) (sym same) ∙ sum ∙ ap (λ n. rounded_up n size) same ∙ ap (λ m. rounded_up r.first m) is

pub overflow_add-gap : goal.overflow_add-gap
overflow_add-gap c =
    let within : c.ilog2-exponent.result ≤ 127 = omega (arith, c.ilog2-exponent.ensures.bound) in
    let most : 2 ^ c.ilog2-exponent.result ≤ 2 ^ 127 = pow-le-pow_right (omega arith) within in
    omega arith

pub returns-then-gap-size : goal.returns-then-gap-size
returns-then-gap-size c =
    let r : PlainRange = c.args.range.now in
    let rounded = rounded_from r c.ilog2-exponent.result c.first.result c.power_of_two-size.result c.gap.result c.first.ensures.first c.power_of_two-size.ensures c.gap.ensures.gap in
    sym (exponent_fits r c.ilog2-exponent.result c.ilog2-exponent.ensures.bound c.first.ensures.valid.0 (omega arith) (omega arith))

pub returns-else-gap-size : goal.returns-else-gap-size
returns-else-gap-size c =
    let r : PlainRange = c.args.range.now in
    let rounded = rounded_from r c.ilog2-exponent.result c.first.result c.power_of_two-size.result c.gap.result c.first.ensures.first c.power_of_two-size.ensures c.gap.ensures.gap in
    sym (exponent_one_less r c.ilog2-exponent.result c.ilog2-exponent.ensures.bound c.first.ensures.valid.0 (omega arith) (omega arith) (omega arith))
