-- How far a register behind a desk has come for a pass, and what it may meet there.
use Rattle.std.specs.Prelude.{ℕ, ⊤}
use mathlib.Core.List.{IsPrefix}
use Rattle.reg_entry.specs.declared.rooms.Rooms.{Rooms}
use Rattle.reg_entry.specs.Policy.{PlainPolicy}
use Rattle.snapshot_pub.specs.Pass.{PlainPass}
use Rattle.hall.specs.declared.backend.Fault.{Fault}
use Rattle.hall.specs.declared.backend.Fault.TheVariants.{NoMemory, Shut, DiskFailed}
use Rattle.hall.specs.Standing.{Standing, standing}
use Rattle.hall.specs.Turn.{Terms, terms}

-- the entries that the pass has seen, and how often it was shut; there is no disk
abbrev pub seen_by : PlainPass → Standing
seen_by pass = standing pass.entries pass.shuts 0

-- the faults of a desk without a disk
abbrev pub IsDeskFault : Fault → Type 0
IsDeskFault NoMemory = ⊤
IsDeskFault Shut = ⊤
IsDeskFault DiskFailed = ⊥

-- over a desk, to which others submit too
abbrev pub among_others : Rooms → PlainPolicy → (ℕ → Type 0) → Terms
among_others rooms policy is_day = terms rooms policy is_day (λ es fs. IsPrefix es fs) IsDeskFault
