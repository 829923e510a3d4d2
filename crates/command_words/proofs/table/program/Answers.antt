use Rattle.std.proofs.Common.{◌∙◌, true, ap}
use Rattle.clap.specs.Simple.{Shape, app_of_fields, on_top}
use Rattle.command_words.proofs.table.program.Goals as goal

pub returns : goal.returns
returns c =
    let named = ap (on_top (λ (s : Shape). record s { no_binary_name = true })) c.new.ensures.app in
    let plain = ap (on_top (λ (s : Shape). record s { disable_help_flag = true })) (ap app_of_fields c.no_binary_name.ensures ∙ named) in
    let alone = ap (on_top (λ (s : Shape). record s { disable_help_subcommand = true })) (ap app_of_fields c.disable_help_flag.ensures ∙ plain) in
    let wanting = ap (on_top (λ (s : Shape). record s { subcommand_required = true })) (ap app_of_fields c.disable_help_subcommand.ensures ∙ alone) in
    ap app_of_fields c.subcommand_required.ensures ∙ wanting
