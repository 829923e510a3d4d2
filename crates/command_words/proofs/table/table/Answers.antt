use Rattle.std.proofs.Common.{◌∙◌, ap, ap₂}
use Rattle.std.proofs.lemmas.Result.{IfOk-weaker}
use Rattle.clap.specs.Simple.{App, Shape, with_subcommand}
use Rattle.command_words.proofs.table.table.Goals as goal

abbrev top_of : App → Shape
top_of a = a.top

pub returns : goal.returns
returns c =
    let batch = c.in_ok-subcommand.ensures.shape c.new.ensures.local ∙ ap₂ with_subcommand c.program.ensures (ap top_of c.new.ensures.app) in
    let doors = c.in_ok-subcommand-2.ensures.shape c.in_ok-serve.ensures.local ∙ ap₂ with_subcommand batch (ap top_of c.in_ok-serve.ensures.app) in
    let stats = c.in_ok-subcommand-3.ensures.shape c.new-2.ensures.local ∙ ap₂ with_subcommand doors (ap top_of c.new-2.ensures.app) in
    let zones = c.in_ok-subcommand-4.ensures.shape c.new-3.ensures.local ∙ ap₂ with_subcommand stats (ap top_of c.new-3.ensures.app) in
    let mirror = c.in_ok-subcommand-5.ensures.shape c.new-4.ensures.local ∙ ap₂ with_subcommand zones (ap top_of c.new-4.ensures.app) in
    IfOk-weaker c.subcommand-6.result _ _
    (λ made h. h.shape c.in_ok-load.ensures.local ∙ ap₂ with_subcommand mirror (ap top_of c.in_ok-load.ensures.app)) c.subcommand-6.ensures
