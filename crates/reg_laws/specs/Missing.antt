-- The least number of a range that no piece holds.
use Rattle.std.specs.Prelude.{◌≡◌, ℕ, ◌<◌, ◌≤◌, List, Option, None, Some, IsSome}
use Rattle.reg_entry.specs.declared.piece.Piece.{Piece}
use Rattle.reg_entry.specs.Pieces.{piece_at}

-- the least number from the first to the last that no piece holds, or none where each lies in a piece
abbrev pub IsLeastMissing : List Piece → ℕ → ℕ → Option ℕ → Type 0
IsLeastMissing ps first last None = (x : ℕ) → first ≤ x → x ≤ last → IsSome (piece_at ps x)
IsLeastMissing ps first last (Some n) =
    (first ≤ n) × (n ≤ last) × (piece_at ps n ≡ None) × ((x : ℕ) → first ≤ x → x < n → IsSome (piece_at ps x))
