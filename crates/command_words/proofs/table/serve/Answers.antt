use Rattle.std.proofs.Common.{◌∙◌, ◌||◌, ap₂}
use Rattle.std.proofs.lemmas.Result.{IfOk-weaker}
use Rattle.clap.specs.Simple.{with_rule}
use Rattle.command_words.proofs.table.serve.Goals as goal

pub returns-clause-app : goal.returns-clause-app
returns-clause-app c =
    let http = c.in_ok-arg.ensures.shape c.text.ensures.local ∙ ap₂ with_rule c.new.ensures.app c.text.ensures.rule in
    let line = c.in_ok-arg-2.ensures.shape c.text-2.ensures.local ∙ ap₂ with_rule http c.text-2.ensures.rule in
    IfOk-weaker c.arg-3.result _ _ (λ made h. h.shape c.text-3.ensures.local ∙ ap₂ with_rule line c.text-3.ensures.rule) c.arg-3.ensures

pub returns-clause-local : goal.returns-clause-local
returns-clause-local c =
    let http = c.in_ok-arg.ensures.globals ∙ ap₂ ◌||◌ c.new.ensures.local c.text.ensures.local in
    let line = c.in_ok-arg-2.ensures.globals ∙ ap₂ ◌||◌ http c.text-2.ensures.local in
    IfOk-weaker c.arg-3.result _ _ (λ made h. h.globals ∙ ap₂ ◌||◌ line c.text-3.ensures.local) c.arg-3.ensures
