-- What a board notes of the pieces that change.
use Rattle.std.specs.Prelude.{ℕ, ◌<◌, List, IfSome, length}
use Rattle.std.specs.List.{AllByRecursion}
use Rattle.reg_entry.specs.declared.holder.Holder.{Holder}
use Rattle.reg_entry.specs.declared.piece.Piece.{Piece}
pub use Rattle.op_feed.specs.Window.{PlainOperations, noted, all_noted}

-- the holder of the piece is there, or it has none
abbrev pub HasHolder : List (Holder × ℕ) → Piece → Type 0
HasHolder hs p = IfSome p.card.holder (λ number. number < length hs)

abbrev pub HaveHolders : List (Holder × ℕ) → List Piece → Type 0
HaveHolders hs ps = AllByRecursion (HasHolder hs) ps
