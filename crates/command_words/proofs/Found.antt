-- What was found, by its two parts.
use Rattle.std.proofs.Common.{◌≡◌, List, [], true≢false, Option, Some, None, is_some, option_map, refl, sym, ap, ap₂}
use Rattle.std.specs.Prelude.{unwrap_or, Box}
use Rattle.std.specs.Box.{box_value}
use Rattle.clap.specs.Matches.{subcommand_name_of}
use Rattle.clap.specs.Walk.{Row, Text}
use Rattle.clap.specs.Simple.{subcommand_rows, subcommand_rows_of}
use Rattle.clap.specs.declared.parser.matches.ArgMatches.{ArgMatches}
use Rattle.clap.specs.declared.parser.matches.ArgMatches.TheViews.{out-ArgMatches, out-SubCommand}
use Rattle.clap.specs.declared.parser.matches.SubCommand.{SubCommand}
use Rattle.command_words.specs.Table.{command_in_row, command_met}

pub met_named : (m : ArgMatches) → subcommand_name_of m ≡ option_map (λ p. p.0) (subcommand_rows_of m)
met_named m = go (out-ArgMatches m).subcommand
  where
    go : {Z : Type 0} (o : Option (Box SubCommand Z)) → option_map (λ b. (out-SubCommand (box_value b)).name.now) o ≡ option_map (λ p. p.0) (subcommand_rows o)
    go None = refl
    go (Some b) = refl

pub found_in_row : (met : Option (Text × List Row)) (word : Text) (rows : List Row) → Some word ≡ option_map (λ p. p.0) met → Some rows ≡ option_map (λ p. p.1) met
    → command_in_row word rows ≡ command_met met
found_in_row None word rows e f = absurd (true≢false (ap is_some e))
found_in_row (Some p) word rows e f =
    ap₂ command_in_row (ap (λ (o : Option Text). unwrap_or o []) e) (ap (λ (o : Option (List Row)). unwrap_or o []) f)

pub found_nothing : (met : Option (Text × List Row)) → None ≡ option_map (λ p. p.0) met → command_met met ≡ None
found_nothing None e = refl
found_nothing (Some p) e = absurd (true≢false (sym (ap is_some e)))
