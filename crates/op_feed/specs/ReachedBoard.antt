-- The boards that legal lists of entries give, and the serials of the operations that a board keeps.
use Rattle.std.specs.Prelude.{◌≡◌, ℕ, ◌+◌, ◌-◌, List, [], ◌∷◌, length}
use Rattle.reg_entry.specs.Entry.{PlainEntry}
use Rattle.reg_entry.specs.Op.{PlainOp}
use Rattle.reg_entry.specs.Operations.{PlainBoard, board_after}
use Rattle.reg_entry.specs.Next.{IsLegal}

-- the board is that of the entries, each of which might come next after those before it
pub record IsBoardOf (b : PlainBoard) (es : List PlainEntry) : Type 0 where
  pub legal : IsLegal b.register.rooms es
  pub same : board_after b.register.rooms es ≡ b

-- the board is that of some legal list of entries
abbrev pub IsReachedBoard : PlainBoard → Type 0
IsReachedBoard b = (es : List PlainEntry) × IsBoardOf b es

-- the serial of the first operation that the board keeps, or the next one where it keeps none
abbrev pub first_kept : PlainBoard → ℕ
first_kept b = b.serial + 1 - length b.kept

-- the serials count up by one from this one
abbrev pub HaveSerialsFrom : ℕ → List PlainOp → Type 0
HaveSerialsFrom next [] = Unit {0}
HaveSerialsFrom next (op ∷ ops) = (op.serial ≡ next) × HaveSerialsFrom (next + 1) ops
