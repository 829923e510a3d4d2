-- What the test on a piece's numbers tells, and which piece holds a number.
use Rattle.std.proofs.Common.{◌≡◌, ℕ, ◌+◌, ◌<◌, ◌≤◌, true, false, ◌&&◌, nat_le, List, [], ◌∷◌, None, Some, refl, ◌∙◌, arith}
use Rattle.std.proofs.lemmas.Bool.{and_parts, and_from, and_left, and_right, leb-true, le-leb, lt-leb, cond-true, cond-false}
use Rattle.reg_entry.specs.declared.piece.Piece.{Piece}
use Rattle.reg_entry.specs.Pieces.{piece_holds, piece_at, RisesFrom}

pub within_true : (first n last : ℕ) → (nat_le first n && nat_le n last) ≡ true → (first ≤ n) × (n ≤ last)
within_true first n last e =
    let both = and_parts (nat_le first n) (nat_le n last) e in
    (leb-true first n both.0, leb-true n last both.1)

pub within_from : (first n last : ℕ) → first ≤ n → n ≤ last → (nat_le first n && nat_le n last) ≡ true
within_from first n last h k = and_from (nat_le first n) (nat_le n last) (le-leb first n h) (le-leb n last k)

pub below_false : (first n last : ℕ) → n < first → (nat_le first n && nat_le n last) ≡ false
below_false first n last h = and_left (nat_le first n) (nat_le n last) (lt-leb first n h)

pub above_false : (first n last : ℕ) → last < n → (nat_le first n && nat_le n last) ≡ false
above_false first n last h = and_right (nat_le first n) (nat_le n last) (lt-leb n last h)

pub holds_true : (p : Piece) (n : ℕ) → piece_holds p n ≡ true → (p.range.first ≤ n) × (n ≤ p.range.last)
holds_true p n e = within_true p.range.first n p.range.last e

pub holds_from : (p : Piece) (n : ℕ) → p.range.first ≤ n → n ≤ p.range.last → piece_holds p n ≡ true
holds_from p n h k = within_from p.range.first n p.range.last h k

pub not_held_below : (p : Piece) (n : ℕ) → n < p.range.first → piece_holds p n ≡ false
not_held_below p n h = below_false p.range.first n p.range.last h

pub not_held_above : (p : Piece) (n : ℕ) → p.range.last < n → piece_holds p n ≡ false
not_held_above p n h = above_false p.range.first n p.range.last h

pub piece_at-first : (p : Piece) (ps : List Piece) (n : ℕ) → piece_holds p n ≡ true → piece_at (p ∷ ps) n ≡ Some p
piece_at-first p ps n e = cond-true (piece_holds p n) (Some p) (piece_at ps n) e

pub piece_at-rest : (p : Piece) (ps : List Piece) (n : ℕ) → piece_holds p n ≡ false → piece_at (p ∷ ps) n ≡ piece_at ps n
piece_at-rest p ps n e = cond-false (piece_holds p n) (Some p) (piece_at ps n) e

-- no piece holds a number below all pieces
pub piece_at-below : (low : ℕ) (ps : List Piece) (n : ℕ) → RisesFrom low ps → n < low → piece_at ps n ≡ None
piece_at-below low [] n rises h = refl
piece_at-below low (p ∷ ps) n rises h =
    piece_at-rest p ps n (not_held_below p n (omega arith)) ∙ piece_at-below (p.range.last + 1) ps n rises.2 (omega arith)
