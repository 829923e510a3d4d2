-- Why a look has no answer.
use Rattle.std.specs.Prelude.{Bool, true, false, Result, Ok, Err}
use Rattle.snapshot_pub.specs.declared.fault.LookFault.{LookFault}
use Rattle.snapshot_pub.specs.declared.fault.LookFault.TheVariants.{Shut, NoMemory}

abbrev pub is_shut_fault : LookFault → Bool
is_shut_fault Shut = true
is_shut_fault NoMemory = false

-- nothing could be read
abbrev pub is_shut : {A : Type 0} → Result A LookFault → Bool
is_shut (Ok answer) = false
is_shut (Err fault) = is_shut_fault fault
