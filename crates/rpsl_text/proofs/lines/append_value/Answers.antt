use Rattle.std.proofs.Common.{◌≡◌, List, ℕ, OnOk, drop, ap, sym, subst, ◌∙◌}
use Rattle.std.specs.Option.{option_copied}
use Rattle.rpsl_text.proofs.Spaced.{continues}
use Rattle.rpsl_text.proofs.lines.append_value.Goals as goal

pub returns-in-Some-clause-value : goal.returns-in-Some-clause-value
returns-in-Some-clause-value c =
    let old : List ℕ = drop c.args.start c.args.bytes.now.items in
    subst (λ (t : List ℕ). OnOk c.append_word.result (drop c.args.start c.append_word.new.bytes.items ≡ t))
    (sym (continues old c.args.text.now c.in-Some.value.now (sym c.spaced_value.ensures ∙ ap option_copied c.in-Some.is))) c.append_word.ensures.value
