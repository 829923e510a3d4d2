-- The change stream: the operations of a list of entries, and the board, a register that keeps the last of them.
use Rattle.std.specs.Prelude.{ℕ, ◌+◌, ◌-◌, List, [], ◌∷◌, ◌++◌, drop, length, map}
use Rattle.reg_entry.specs.declared.object.Object.{Object}
use Rattle.reg_entry.specs.declared.object.Act.{Act}
use Rattle.reg_entry.specs.declared.rooms.Rooms.{Rooms}
use Rattle.reg_entry.specs.Entry.{PlainEntry}
use Rattle.reg_entry.specs.Op.{PlainOp}
use Rattle.reg_entry.specs.Register.{Register, empty_register, after_entry}
use Rattle.reg_entry.specs.Objects.{objects_of, changes_between, played}

-- what an entry changes in the objects of a register
abbrev pub changes_of : Register → PlainEntry → List (Act × Object)
changes_of r e = changes_between (objects_of r) (objects_of (after_entry r e))

-- the changes with serials behind the last one
abbrev pub numbered : ℕ → List (Act × Object) → List PlainOp
numbered last [] = []
numbered last (c ∷ cs) = record { serial = last + 1; act = c.0; object = c.1 } ∷ numbered (last + 1) cs

-- the operations of the entries that come after a register, with serials behind the last one
abbrev pub operations_from : Register → ℕ → List PlainEntry → List PlainOp
operations_from r last [] = []
operations_from r last (e ∷ es) =
    numbered last (changes_of r e) ++ operations_from (after_entry r e) (last + length (changes_of r e)) es

-- the operations of a list of entries; their serials count from 1
abbrev pub operations_of : Rooms → List PlainEntry → List PlainOp
operations_of rooms es = operations_from (empty_register rooms) 0 es

abbrev pub change_of : PlainOp → Act × Object
change_of op = (op.act, op.object)

-- the objects after a list of operations on none
abbrev pub objects_after : List PlainOp → List Object
objects_after ops = played [] (map change_of ops)

-- ---- the board

-- a register with the count of its operations so far, and the last of them
pub record PlainBoard : Type 0 where
  pub register : Register
  pub serial : ℕ
  pub kept : List PlainOp

abbrev pub empty_board : Rooms → PlainBoard
empty_board rooms = record { register = empty_register rooms; serial = 0; kept = [] }

-- the last so many of a list
abbrev pub last_of : {T : Type 0} → ℕ → List T → List T
last_of count xs = drop (length xs - count) xs

-- the board after one entry more
abbrev pub board_after_entry : PlainBoard → PlainEntry → PlainBoard
board_after_entry b e = record {
  register = after_entry b.register e;
  serial = b.serial + length (changes_of b.register e);
  kept = last_of b.register.rooms.window (b.kept ++ numbered b.serial (changes_of b.register e));
}

abbrev pub board_after_entries : PlainBoard → List PlainEntry → PlainBoard
board_after_entries b [] = b
board_after_entries b (e ∷ es) = board_after_entries (board_after_entry b e) es

-- the board of a list of entries
abbrev pub board_after : Rooms → List PlainEntry → PlainBoard
board_after rooms es = board_after_entries (empty_board rooms) es
