-- What faults tell.
use Rattle.std.specs.Prelude.{ℕ, Bool, true, false, Option, Result, Ok, Err}
use Rattle.desk_book.specs.declared.fault.SubmitFault.{SubmitFault}
use Rattle.desk_book.specs.declared.fault.SubmitFault.TheVariants.{NoMemory as NoMemoryToSubmit}
use Rattle.desk_book.specs.declared.fault.DeskFault.{DeskFault}
use Rattle.desk_book.specs.declared.fault.DeskFault.TheVariants.{NoMemory, Shut}

-- the number of the entry that the request became in spite of the fault
abbrev pub entered_by_submit : SubmitFault → Option ℕ
entered_by_submit (NoMemoryToSubmit entered) = entered

abbrev pub entered_by : DeskFault → Option ℕ
entered_by (NoMemory entered) = entered
entered_by (Shut entered) = entered

abbrev pub is_shut_fault : DeskFault → Bool
is_shut_fault (NoMemory entered) = false
is_shut_fault (Shut entered) = true

-- the pass couldn't read
abbrev pub is_shut : {A : Type 0} → Result A DeskFault → Bool
is_shut (Ok answer) = false
is_shut (Err fault) = is_shut_fault fault
