-- What the command `serve` writes, where the bytes are known, and which commands open doors or read a script.
use Rattle.std.specs.Prelude.{◌≡◌, ◌++◌, ℕ, Bool, true, false, List, Option, Some, codes, decimal}
use Rattle.std.specs.Io.KnownBytes.{Appends}
use Rattle.reg_entry.specs.Policy.{PlainPolicy}
use Rattle.command_words.specs.declared.command.Command.{Command}
use Rattle.command_words.specs.declared.command.Command.TheVariants.{Serve, Load}
use Rattle.serve_run.specs.Gate.{PlainGate}
use Rattle.serve_run.specs.Service.{IsServed}
use Rattle.registry_main.specs.declared.exit.Exit.{Exit}
use Rattle.registry_main.specs.declared.exit.Exit.TheVariants.{Done}
use Rattle.registry_main.specs.Batch.{IsFrontWritten}
use Rattle.registry_main.specs.Session.{rooms}

-- how many connections there were
abbrev pub service_text : ℕ → List ℕ
service_text count = codes "connections: " ++ (decimal count ++ codes "\n")

-- both doors were served, and how many connections there were was written, all of it where the run is done
pub record IsServedFor (policy : PlainPolicy) (is_day : ℕ → Type 0) (http line workers : ℕ) (old new : PlainGate) (before : Option (List ℕ))
    (result : Exit) (after : Option (List ℕ)) : Type 0 where
  pub count : ℕ
  pub served : IsServed rooms policy is_day http line workers old new count
  pub front : IsFrontWritten before (service_text count) after
  pub done : result ≡ Done → Appends before after (service_text count)

-- whether a command opens the doors
abbrev pub opens_doors : Option Command → Bool
opens_doors (Some (Serve http line workers)) = true
opens_doors command = false

-- whether a command reads the script: a service and a load read nothing of it
abbrev pub reads_script : Option Command → Bool
reads_script (Some (Serve http line workers)) = false
reads_script (Some (Load seed requests)) = false
reads_script command = true
