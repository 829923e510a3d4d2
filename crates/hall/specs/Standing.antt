-- How far the register behind a connection has come, and what has failed there.
use Rattle.std.specs.Prelude.{◌≤◌, ℕ, List, ⊤, Bool, true, false}
use Rattle.reg_entry.specs.Entry.{PlainEntry}
use Rattle.link_face.specs.Faults.{HasRisen}
use Rattle.hall.specs.declared.backend.Fault.{Fault}
use Rattle.hall.specs.declared.backend.Fault.TheVariants.{NoMemory, Shut, DiskFailed}

-- the entries that have been seen, how often no snapshot could be read, and how often the disk has failed
pub record Standing : Type 0 where
  pub entries : List PlainEntry
  pub refusals : ℕ
  pub failures : ℕ

abbrev pub standing : List PlainEntry → ℕ → ℕ → Standing
standing entries refusals failures = record { entries = entries; refusals = refusals; failures = failures }

-- the same counts, over other entries
abbrev pub over : List PlainEntry → Standing → Standing
over entries s = record { entries = entries; refusals = s.refusals; failures = s.failures }

-- no count falls
pub record NoCountFalls (before after : Standing) : Type 0 where
  pub looks : before.refusals ≤ after.refusals
  pub disk : before.failures ≤ after.failures

-- the count that the fault raises, or that stands at its last value; want of memory is counted nowhere
abbrev pub HasRaised : Fault → Standing → Standing → Type 0
HasRaised NoMemory before after = ⊤
HasRaised Shut before after = HasRisen before.refusals after.refusals
HasRaised DiskFailed before after = HasRisen before.failures after.failures

abbrev pub IsCausedBetween : Fault → Standing → Standing → Type 0
IsCausedBetween fault before after = NoCountFalls before after × HasRaised fault before after

-- the code of the reply that tells of the fault (RFC 9110 15.6)
abbrev pub fault_code : Fault → ℕ
fault_code NoMemory = 503
fault_code Shut = 503
fault_code DiskFailed = 500

abbrev pub is_shut : Fault → Bool
is_shut NoMemory = false
is_shut Shut = true
is_shut DiskFailed = false
