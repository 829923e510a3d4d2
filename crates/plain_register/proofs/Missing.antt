-- The least number that no piece holds.
use Rattle.std.proofs.Common.{◌≡◌, ℕ, ◌+◌, ◌<◌, ◌≤◌, nat_le, true, List, [], ◌∷◌, None, Some, ◌∙◌, ap, inl, inr, arith}
use Rattle.std.proofs.lemmas.Bool.{cases_Bool, cond-true, cond-false, lt-leb}
use Rattle.reg_entry.specs.declared.piece.Piece.{Piece}
use Rattle.reg_entry.specs.Pieces.{piece_holds}
use Rattle.reg_entry.specs.Decision.{least_missing}
use Rattle.reg_entry.proofs.Holding.{holds_true}

-- behind the last number none is missing
pub missing_past : (ps : List Piece) (x last : ℕ) → last < x → least_missing ps x last ≡ None
missing_past [] x last h = cond-false (nat_le x last) (Some x) None (lt-leb x last h)
missing_past (q ∷ qs) x last h =
    elim (cases_Bool (piece_holds q x)) [
      | inl t ↦
          let ends : x ≤ q.range.last = (holds_true q x t).1 in
          ap (λ y. least_missing qs y last) (cond-true (piece_holds q x) (q.range.last + 1) x t) ∙ missing_past qs (q.range.last + 1) last (omega arith)
      | inr f ↦ ap (λ y. least_missing qs y last) (cond-false (piece_holds q x) (q.range.last + 1) x f) ∙ missing_past qs x last h
    ]

-- a piece that holds the number holds all up to its last
pub missing_beyond : (ps qs : List Piece) (p : Piece) (x last : ℕ) → qs ≡ p ∷ ps → piece_holds p x ≡ true → last ≤ p.range.last
    → least_missing qs x last ≡ None
missing_beyond ps qs p x last e t h =
    ap (λ rs. least_missing rs x last) e
    ∙ ap (λ y. least_missing ps y last) (cond-true (piece_holds p x) (p.range.last + 1) x t)
    ∙ missing_past ps (p.range.last + 1) last (omega arith)
