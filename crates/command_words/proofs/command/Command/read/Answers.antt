use Rattle.std.proofs.Common.{◌≡◌, ◌∙◌, [], map, sym, ap, subst}
use Rattle.std.specs.String.{string_bytes}
use Rattle.clap.specs.Simple.{App, is_simple, subcommand_of}
use Rattle.clap.specs.Faults.{fault_of, is_simple_and_free}
use Rattle.clap.specs.Kinds.{HasKind}
use Rattle.clap.proofs.WalkLemmas.{list_any-map}
use Rattle.command_words.specs.Table.{begins_with_hyphen, command_met, table}
use Rattle.command_words.proofs.Commands.{option_is_none, refused_is_none, table_is_free, table_is_simple, taken_is_met, words_agree}
use Rattle.command_words.proofs.command.Command.read.Goals as goal

pub returns-then-has_option : goal.returns-then-has_option
returns-then-has_option c =
    sym (option_is_none (map string_bytes c.args.words.now)
    (sym (list_any-map begins_with_hyphen string_bytes c.args.words.now) ∙ sym c.has_option.ensures ∙ c.if-has_option.true))

pub returns-in-Ok : goal.returns-in-Ok
returns-in-Ok c =
    let words = map string_bytes c.args.words.now in
    let plain = sym (list_any-map begins_with_hyphen string_bytes c.args.words.now) ∙ sym c.has_option.ensures ∙ c.if-has_option.false in
    let table_is = c.in_ok-table.ensures in
    let taken : fault_of table words ≡ [] =
    ap (λ a. fault_of a words) (sym table_is) ∙ c.in-Ok.ensures.kinds (ap is_simple_and_free table_is ∙ table_is_free) in
    let found = (c.in-Ok.ensures.matches (ap is_simple table_is ∙ table_is_simple)).1 ∙ ap (λ a. subcommand_of a words) table_is in
    c.found.ensures ∙ ap command_met found ∙ taken_is_met words (words_agree words plain) taken

pub returns : goal.returns
returns c =
    let words = map string_bytes c.args.words.now in
    let plain = sym (list_any-map begins_with_hyphen string_bytes c.args.words.now) ∙ sym c.has_option.ensures ∙ c.if-has_option.false in
    let table_is = c.in_ok-table.ensures in
    let fails = subst (λ (a : App). HasKind (fault_of a words) c.in-Err.error) table_is (c.in-Err.ensures.kinds (ap is_simple_and_free table_is ∙ table_is_free)) in
    sym (refused_is_none words (words_agree words plain) c.in-Err.error fails (λ memory. c.in_default.not-OutOfMemory (c.kind.ensures ∙ memory)))

pub returns-in-OutOfMemory : goal.returns-in-OutOfMemory
returns-in-OutOfMemory c = cc
