-- What a mirror of the register's own stream holds.
use Rattle.std.specs.Prelude.{◌≡◌, ℕ, ◌≤◌, List, length, map, take, None, Result, Ok, Err}
use Rattle.reg_entry.specs.Op.{PlainOp}
use Rattle.reg_entry.specs.Operations.{objects_after}
use Rattle.mirror_core.specs.declared.fault.FeedFault.{FeedFault}
use Rattle.mirror_core.specs.declared.fault.FeedFault.TheVariants.{NoMemory}
use Rattle.mirror_core.specs.Mirror.{PlainMirror}
use Rattle.mirror_core.specs.Objects.{mirrored}

-- the mirror has no fault, and holds what playing the operations up to its serial gives, each object as it is read
pub record Follows (source : List ℕ) (ops : List PlainOp) (m : PlainMirror) : Type 0 where
  pub fault : m.fault ≡ None
  pub serial : m.serial ≤ length ops
  pub objects : m.objects ≡ map (mirrored source) (objects_after (take m.serial ops))

-- the same of a mirror with a fault or none
pub record HoldsOperations (source : List ℕ) (ops : List PlainOp) (m : PlainMirror) : Type 0 where
  pub serial : m.serial ≤ length ops
  pub objects : m.objects ≡ map (mirrored source) (objects_after (take m.serial ops))

-- the answer is that the bytes were fed, or that memory was wanting
abbrev pub IsFedOrNoMemory : Result (Unit {0}) FeedFault → Type 0
IsFedOrNoMemory (Ok _) = Unit {0}
IsFedOrNoMemory (Err NoMemory) = Unit {0}
IsFedOrNoMemory (Err fault) = ⊥
