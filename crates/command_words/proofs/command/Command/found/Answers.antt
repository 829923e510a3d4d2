use Rattle.std.proofs.Common.{◌∙◌, sym}
use Rattle.clap.specs.Simple.{subcommand_rows_of}
use Rattle.command_words.proofs.Found.{found_in_row, found_nothing, met_named}
use Rattle.command_words.proofs.command.Command.found.Goals as goal

pub returns-in-Some : goal.returns-in-Some
returns-in-Some c =
    let m = c.args.matches.now in
    c.read_row.ensures ∙ found_in_row (subcommand_rows_of m) _ _ (c.in-Some.ensures.name ∙ met_named m) c.in-Some.ensures.rows

pub returns-in-None : goal.returns-in-None
returns-in-None c =
    let m = c.args.matches.now in
    sym (found_nothing (subcommand_rows_of m) (c.in-None.ensures.name ∙ met_named m))
