-- The table of commands as `clap` has it, and what is read of the row that it finds.
use Rattle.std.specs.Prelude.{◌==◌, Bool, true, false, if◌then◌else◌, List, [], ◌∷◌, map, Option, None, Some, codes}
use Rattle.std.specs.Option.{option_and_then}
use Rattle.std.specs.Str.{bytes_eq}
use Rattle.addr_text.specs.Reading.{◌>>=◌}
use Rattle.clap.specs.Walk.{Text, Rule, Row, first_of}
use Rattle.clap.specs.Simple.{Shape, App, new_rule, new_shape}
use Rattle.command_words.specs.declared.command.Command.{Command}
use Rattle.command_words.specs.declared.command.Command.TheVariants.{Batch, Publish, Mirror}
use Rattle.command_words.specs.declared.command.Publication.TheVariants.{Statistics, Zones}
use Rattle.command_words.specs.Command.{load_by, serve_by}

abbrev pub begins_with_hyphen : Text → Bool
begins_with_hyphen [] = false
begins_with_hyphen (b ∷ bs) = b == 45

-- a text that has to stand behind a command's word
abbrev pub text_rule : Text → Rule
text_rule name = record (new_rule name) { required = true }

-- a row: a command's word, and the names of its texts
abbrev pub row : Text → List Text → Shape
row word texts = record (new_shape word) { rules = map text_rule texts }

-- the row of the doors
abbrev pub serve_row : Shape
serve_row = row (codes "serve") (codes "HTTP" ∷ codes "LINE" ∷ codes "WORKERS" ∷ [])

-- the row of a load
abbrev pub load_row : Shape
load_row = row (codes "load") (codes "SEED" ∷ codes "N" ∷ [])

-- a command with no rows below it
abbrev pub only : Shape → App
only top = record { top = top; subs = [] }

abbrev pub table : App
table = record {
  top = record (new_shape (codes "registry_main")) {
    is_leaf = false;
    no_binary_name = true;
    disable_help_flag = true;
    disable_help_subcommand = true;
    subcommand_required = true;
  };
  subs = row (codes "batch") []
      ∷ serve_row
      ∷ row (codes "stats") []
      ∷ row (codes "zones") []
      ∷ row (codes "mirror") []
      ∷ load_row
      ∷ [];
}

-- the doors of the texts that were found
unfoldable pub serve_in : List Row → Option Command
serve_in rows = do
  http ← first_of (codes "HTTP") rows
  line ← first_of (codes "LINE") rows
  workers ← first_of (codes "WORKERS") rows
  serve_by http line workers

-- the load of the texts that were found
unfoldable pub load_in : List Row → Option Command
load_in rows = do
  seed ← first_of (codes "SEED") rows
  requests ← first_of (codes "N") rows
  load_by seed requests

-- the command of a row's word and the texts that were found behind it
abbrev pub command_in_row : Text → List Row → Option Command
command_in_row word rows =
    if bytes_eq word (codes "batch") then Some Batch
    else (if bytes_eq word (codes "serve") then serve_in rows
    else (if bytes_eq word (codes "stats") then Some (Publish Statistics)
    else (if bytes_eq word (codes "zones") then Some (Publish Zones)
    else (if bytes_eq word (codes "mirror") then Some Mirror
    else (if bytes_eq word (codes "load") then load_in rows
    else None)))))

-- the same of what `clap` found, where it found a row
abbrev pub command_met : Option (Text × List Row) → Option Command
command_met met = option_and_then (λ found. command_in_row found.0 found.1) met
