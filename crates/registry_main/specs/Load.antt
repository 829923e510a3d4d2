-- What the command `load` writes, where the bytes are known.
use Rattle.std.specs.Prelude.{◌≡◌, ℕ, List, Option}
use Rattle.std.specs.Io.KnownBytes.{Appends}
use Rattle.reg_entry.specs.Policy.{PlainPolicy}
use Rattle.policy_table.specs.Policy.{first_name}
use Rattle.load_gen.specs.Load.{load_text}
use Rattle.registry_main.specs.declared.exit.Exit.{Exit}
use Rattle.registry_main.specs.declared.exit.Exit.TheVariants.{Done}
use Rattle.registry_main.specs.Batch.{IsFrontWritten}
use Rattle.registry_main.specs.Session.{rooms}

-- the summary of the load was written, all of it where the run is done
pub record IsLoaded (policy : PlainPolicy) (seed requests : ℕ) (before : Option (List ℕ)) (result : Exit) (after : Option (List ℕ)) : Type 0 where
  pub front : IsFrontWritten before (load_text rooms policy (first_name policy.hostmasters) seed requests) after
  pub done : result ≡ Done → Appends before after (load_text rooms policy (first_name policy.hostmasters) seed requests)
