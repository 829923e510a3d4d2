-- What an end of the program is told by: the status of the process, and a line on standard error.
use Rattle.std.specs.Prelude.{ℕ, List, [], ◌++◌, codes, decimal}
use Rattle.mirror_core.specs.declared.fault.FeedFault.{FeedFault}
use Rattle.mirror_core.specs.declared.fault.FeedFault.TheVariants as feed_faults
use Rattle.policy_table.specs.declared.fault.PolicyFault.{PolicyFault}
use Rattle.policy_table.specs.declared.fault.PolicyFault.TheVariants.{TooLong, Text, Missing, Wrong, Bounds}
use Rattle.policy_table.specs.declared.fault.PolicyFault.TheVariants as faults
use Rattle.registry_main.specs.declared.exit.Exit.{Exit}
use Rattle.registry_main.specs.declared.exit.Exit.TheVariants.{Done, Usage, PolicyRefused, ReadFault, WriteFault, NoMemory, SpawnFault, FeedRefused}

abbrev pub exit_status : Exit → ℕ
exit_status Done = 0
exit_status Usage = 2
exit_status (PolicyRefused fault) = 3
exit_status ReadFault = 5
exit_status WriteFault = 6
exit_status NoMemory = 8
exit_status SpawnFault = 9
exit_status (FeedRefused fault) = 10

-- the fault, and the number of the first key that has it
abbrev pub policy_fault_text : PolicyFault → List ℕ
policy_fault_text TooLong = codes "too long"
policy_fault_text Text = codes "text"
policy_fault_text (Missing key) = codes "missing " ++ decimal key
policy_fault_text (Wrong key) = codes "wrong " ++ decimal key
policy_fault_text (Bounds key) = codes "bounds " ++ decimal key
policy_fault_text faults.NoMemory = codes "no memory"

-- the name of a feed's fault
abbrev pub feed_fault_text : FeedFault → List ℕ
feed_fault_text (feed_faults.Spelling place) = codes "Spelling"
feed_fault_text (feed_faults.Gap want got) = codes "Gap"
feed_fault_text (feed_faults.ForeignSource place) = codes "ForeignSource"
feed_fault_text (feed_faults.ClassOut place) = codes "ClassOut"
feed_fault_text (feed_faults.Announced place) = codes "Announced"
feed_fault_text feed_faults.NoMemory = codes "NoMemory"

abbrev pub fault_text : Exit → List ℕ
fault_text Done = []
fault_text Usage = codes "usage: registry_main batch | serve HTTP LINE WORKERS | stats | zones | mirror | load SEED N"
fault_text (PolicyRefused fault) = codes "policy: " ++ policy_fault_text fault
fault_text ReadFault = codes "read fault"
fault_text WriteFault = codes "write fault"
fault_text NoMemory = codes "no memory"
fault_text SpawnFault = codes "spawn fault"
fault_text (FeedRefused fault) = codes "feed: " ++ feed_fault_text fault
