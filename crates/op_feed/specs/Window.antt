-- The last operations of the change stream, as they are noted one by one.
use Rattle.std.specs.Prelude.{ℕ, ◌+◌, List, [], ◌∷◌, ◌++◌}
use Rattle.reg_entry.specs.declared.object.Object.{Object}
use Rattle.reg_entry.specs.declared.object.Act.{Act}
use Rattle.reg_entry.specs.Op.{PlainOp}
use Rattle.reg_entry.specs.Operations.{last_of}

-- the serial of the last operation, the last operations, and how many of them may be kept
pub record PlainOperations : Type 0 where
  pub serial : ℕ
  pub kept : List PlainOp
  pub window : ℕ

abbrev pub noted : PlainOperations → Act × Object → PlainOperations
noted ops c = record {
  serial = ops.serial + 1;
  kept = last_of ops.window (ops.kept ++ record { serial = ops.serial + 1; act = c.0; object = c.1 } ∷ []);
  window = ops.window;
}

abbrev pub all_noted : PlainOperations → List (Act × Object) → PlainOperations
all_noted ops [] = ops
all_noted ops (c ∷ cs) = all_noted (noted ops c) cs
