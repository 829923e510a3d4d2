-- Where a piece may be parted in two.
use Rattle.std.specs.Prelude.{◌≡◌, ℕ, ◌<◌, false, List, MatchOption}
use Rattle.reg_entry.specs.declared.piece.Piece.{Piece}
use Rattle.reg_entry.specs.Card.{is_available}
use Rattle.reg_entry.specs.Pieces.{piece_at}

-- the number lies in a piece that isn't available, and isn't its first
abbrev pub IsSplitPlace : List Piece → ℕ → Type 0
IsSplitPlace ps at = MatchOption (piece_at ps at) ⊥ (λ p. (is_available p.card.status ≡ false) × (p.range.first < at))
