use Rattle.std.proofs.Common.{◌≡◌, ◌∙◌, ◌-◌, ◌^◌, true, decimal, sym, arith}
use Rattle.std.proofs.lemmas.Bool.{not-false}
use Rattle.std.proofs.lemmas.Slice.Eq.{bytes_eq-Decides}
use Rattle.std.specs.Str.{bytes_eq}
use Rattle.addr_text.proofs.Computed.{decimal_found}
use Rattle.addr_text.proofs.decimal.read_long_decimal.Goals as goal

pub returns : goal.returns
returns c =
    let same : bytes_eq c.as_bytes.result.now c.args.text.now ≡ true = not-false _ (sym c.ne.ensures ∙ c.if-ne.false) in
    let text : c.args.text.now ≡ decimal c.in_ok-number.number = sym ((bytes_eq-Decides c.as_bytes.result.now c.args.text.now).0 same) ∙ c.as_bytes.ensures.value ∙ c.format.ensures.text in
    sym (decimal_found (2 ^ 64 - 1) c.in_ok-number.number c.args.text.now text (omega arith) (omega arith))
