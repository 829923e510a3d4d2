-- How pieces are split and joined, by which no number's card changes.
use Rattle.std.specs.Prelude.{◌≡◌, ℕ, ◌-◌, ◌<◌, Bool, false, ◌&&◌, ◌==◌, nat_lt, nat_le, if◌then◌else◌, List, [], ◌∷◌, Some}
use Rattle.std.specs.List.{flat_map}
use Rattle.reg_entry.specs.declared.piece.Piece.{Piece}
use Rattle.reg_entry.specs.Card.{is_available}
use Rattle.reg_entry.specs.Pieces.{piece_at, joined_pair}

-- the piece has the number, and another one before it
abbrev pub holds_past_first : Piece → ℕ → Bool
holds_past_first p at = nat_lt p.range.first at && nat_le at p.range.last

-- a piece's parts before a number and from it on
abbrev pub split_piece : ℕ → Piece → List Piece
split_piece at p =
    if holds_past_first p at
    then record { range = record { space = p.range.space; first = p.range.first; last = at - 1 }; card = p.card }
    ∷ record { range = record { space = p.range.space; first = at; last = p.range.last }; card = p.card } ∷ []
    else p ∷ []

-- the pieces after the one that holds the number was split before it
abbrev pub split_at_number : List Piece → ℕ → List Piece
split_at_number ps at = flat_map (split_piece at) ps

-- the pieces after p, with the one that begins at the number joined to the piece before it
abbrev pub joined_at_after : Piece → List Piece → ℕ → List Piece
joined_at_after p [] at = p ∷ []
joined_at_after p (q ∷ qs) at = if q.range.first == at then joined_pair p q ∷ qs else p ∷ joined_at_after q qs at

abbrev pub joined_at : List Piece → ℕ → List Piece
joined_at [] at = []
joined_at (p ∷ ps) at = joined_at_after p ps at

-- ---- where that is asked for: at numbers of pieces that aren't available

-- the piece that holds the number isn't available
abbrev pub IsFixedAt : List Piece → ℕ → Type 0
IsFixedAt ps at = (p : Piece) → piece_at ps at ≡ Some p → is_available p.card.status ≡ false

-- a piece begins at the number, and the piece of the number before has the same card, of numbers that aren't available
pub record CanJoinAt (ps : List Piece) (at : ℕ) : Type 0 where
  pub left : Piece
  pub right : Piece
  pub positive : 0 < at
  pub holds_before : piece_at ps (at - 1) ≡ Some left
  pub holds_at : piece_at ps at ≡ Some right
  pub begins : right.range.first ≡ at
  pub one_card : left.card ≡ right.card
  pub fixed : is_available right.card.status ≡ false
