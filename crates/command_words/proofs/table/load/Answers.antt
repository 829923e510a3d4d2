use Rattle.std.proofs.Common.{◌∙◌, ◌||◌, ap₂}
use Rattle.std.proofs.lemmas.Result.{IfOk-weaker}
use Rattle.clap.specs.Simple.{with_rule}
use Rattle.command_words.proofs.table.load.Goals as goal

pub returns-clause-app : goal.returns-clause-app
returns-clause-app c =
    let seed = c.in_ok-arg.ensures.shape c.text.ensures.local ∙ ap₂ with_rule c.new.ensures.app c.text.ensures.rule in
    IfOk-weaker c.arg-2.result _ _ (λ made h. h.shape c.text-2.ensures.local ∙ ap₂ with_rule seed c.text-2.ensures.rule) c.arg-2.ensures

pub returns-clause-local : goal.returns-clause-local
returns-clause-local c =
    let seed = c.in_ok-arg.ensures.globals ∙ ap₂ ◌||◌ c.new.ensures.local c.text.ensures.local in
    IfOk-weaker c.arg-2.result _ _ (λ made h. h.globals ∙ ap₂ ◌||◌ seed c.text-2.ensures.local) c.arg-2.ensures
