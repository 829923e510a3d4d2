-- The block that a delegation takes: the least aligned one whose numbers are all available.
use Rattle.std.specs.Prelude.{◌≡◌, ℕ, ◌+◌, ◌-◌, ◌*◌, ◌/◌, ◌%◌, ◌≤◌, Bool, true, false, ◌&&◌, ◌||◌, nat_le, if◌then◌else◌, List, [], ◌∷◌, Option, None, Some}
use Rattle.num_range.specs.declared.space.Space.{Space}
use Rattle.num_range.specs.Space.{top_of}
pub use Rattle.num_range.specs.Amount.{alignment}
use Rattle.reg_entry.specs.declared.piece.Piece.{Piece}
use Rattle.reg_entry.specs.Card.{is_available}
use Rattle.reg_entry.specs.Pieces.{piece_holds}

-- the number lies in an available piece
abbrev pub is_free : List Piece → ℕ → Bool
is_free [] n = false
is_free (p ∷ ps) n = (is_available p.card.status && piece_holds p n) || is_free ps n

-- the block is aligned and within its space, and each of its numbers is available
pub record IsFreeBlock (ps : List Piece) (space : Space) (size start : ℕ) : Type 0 where
  pub aligned : start % alignment space size ≡ 0
  pub within : start + (size - 1) ≤ top_of space
  pub free : (n : ℕ) → start ≤ n → n ≤ start + (size - 1) → is_free ps n ≡ true

-- the start of a free block before which there is none, or none where there is none at all
abbrev pub IsLeastBlock : List Piece → Space → ℕ → Option ℕ → Type 0
IsLeastBlock ps space size None = (start : ℕ) → IsFreeBlock ps space size start → ⊥
IsLeastBlock ps space size (Some least) =
    IsFreeBlock ps space size least × ((start : ℕ) → IsFreeBlock ps space size start → least ≤ start)

-- the least multiple that is no less than n
abbrev pub rounded_up : ℕ → ℕ → ℕ
rounded_up n multiple = (n + (multiple - 1)) / multiple * multiple

-- where an available piece has room for the block behind its first aligned number, that number; the first such piece's
abbrev pub least_block : List Piece → Space → ℕ → Option ℕ
least_block [] space size = None
least_block (p ∷ ps) space size =
    let start = rounded_up p.range.first (alignment space size) in
    if is_available p.card.status && nat_le (start + (size - 1)) p.range.last then Some start else least_block ps space size
