-- The overlap of a range with the pieces is the least of its numbers that some piece holds.
use Rattle.std.proofs.Common.{◌≡◌, ℕ, ◌+◌, ◌≤◌, max, true, false, nat_le, inl, inr, List, [], ◌∷◌, Option, None, Some, refl, ap, ◌∙◌, arith}
use Rattle.std.specs.Option.{option_map, is_some}
use Rattle.std.proofs.lemmas.Bool.{cond_both, and_parts, and_from, both_ways, cases_Bool, le-leb, leb-true}
use Rattle.num_range.specs.declared.space.Space.{Space}
use Rattle.num_range.specs.Range.{PlainRange, IsRange}
use Rattle.reg_entry.specs.declared.piece.Piece.{Piece}
use Rattle.reg_entry.specs.Pieces.{piece_holds, piece_meets, piece_at, first_met, overlap, RisesFrom, ArePieces, IsLeastTaken}
use Rattle.reg_entry.proofs.Holding.{holds_true, holds_from, piece_at-first, piece_at-rest, piece_at-below}

pub meets_true : (r : PlainRange) (p : Piece) → piece_meets r p ≡ true → (p.range.first ≤ r.last) × (r.first ≤ p.range.last)
meets_true r p e =
    let both = and_parts (nat_le p.range.first r.last) (nat_le r.first p.range.last) e in
    (leb-true p.range.first r.last both.0, leb-true r.first p.range.last both.1)

pub meets_from : (r : PlainRange) (p : Piece) → p.range.first ≤ r.last → r.first ≤ p.range.last → piece_meets r p ≡ true
meets_from r p h k =
    and_from (nat_le p.range.first r.last) (nat_le r.first p.range.last) (le-leb p.range.first r.last h) (le-leb r.first p.range.last k)

-- a piece that doesn't meet the range holds none of its numbers
pub not_held_unmet : (r : PlainRange) (p : Piece) (n : ℕ) → piece_meets r p ≡ false → r.first ≤ n → n ≤ r.last → piece_holds p n ≡ false
not_held_unmet r p n e h k =
    elim (cases_Bool (piece_holds p n)) [
      | inl held ↦
          let inside = holds_true p n held in
          absurd (both_ways (piece_meets r p) e (meets_from r p (omega arith) (omega arith)))
      | inr f ↦ f
    ]

least_taken_in_rest : (ps qs : List Piece) (r : PlainRange) → ((n : ℕ) → r.first ≤ n → n ≤ r.last → piece_at qs n ≡ piece_at ps n)
    → (least : Option ℕ) → IsLeastTaken ps r least → IsLeastTaken qs r least
least_taken_in_rest ps qs r same None h = λ x k l. same x k l ∙ h x k l
least_taken_in_rest ps qs r same (Some n) h =
    (h.0, h.1, ap is_some (same n h.0 h.1) ∙ h.2, λ x k l. same x k (omega arith) ∙ h.3 x k l)

overlap_from : (low : ℕ) (ps : List Piece) (r : PlainRange) → RisesFrom low ps → r.first ≤ r.last → IsLeastTaken ps r (overlap ps r)
overlap_from low [] r rises h = λ x k l. refl
overlap_from low (p ∷ ps) r rises h =
    cond_both (piece_meets r p) (Some p) (first_met ps r) (λ o. IsLeastTaken (p ∷ ps) r (option_map (λ q. max r.first q.range.first) o))
    (λ e.
    let met = meets_true r p e in
    let n : ℕ = max r.first p.range.first in
    let held : piece_holds p n ≡ true = holds_from p n (omega arith) (omega arith) in (
      omega arith,
      omega arith,
      ap is_some (piece_at-first p ps n held),
      λ x k l. piece_at-below p.range.first (p ∷ ps) x (omega arith, rises.1, rises.2) (omega arith),
    ))
    (λ e.
    least_taken_in_rest ps (p ∷ ps) r (λ n k l. piece_at-rest p ps n (not_held_unmet r p n e k l)) (overlap ps r)
    (overlap_from (p.range.last + 1) ps r rises.2 h))

pub overlap_is_least : (space : Space) (ps : List Piece) (r : PlainRange) → ArePieces space ps → IsRange r → IsLeastTaken ps r (overlap ps r)
overlap_is_least space ps r h range = overlap_from 0 ps r h.rises range.0
