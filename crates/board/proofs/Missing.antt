-- The least number that no piece holds, sought from piece to piece.
use Rattle.std.proofs.Common.{◌≡◌, ℕ, ◌+◌, ◌<◌, ◌≤◌, true, false, nat_le, List, [], ◌∷◌, None, Some, sym, ◌∙◌, ap, inl, inr, arith}
use Rattle.std.proofs.lemmas.Bool.{cases_Bool, cond-true, cond-false, le-leb, lt-leb}
use Rattle.std.proofs.lemmas.Option.{none-some, same_Some}
use Rattle.num_range.specs.declared.space.Space.{Space}
use Rattle.reg_entry.specs.declared.piece.Piece.{Piece}
use Rattle.reg_entry.specs.Pieces.{piece_holds, piece_at, RisesFrom, AllPiecesOf}
use Rattle.reg_entry.specs.Decision.{least_missing}
use Rattle.reg_entry.proofs.Holding.{holds_true, not_held_above, piece_at-first, piece_at-rest}
use Rattle.board.proofs.FoundPieces.{found_in}

here : (q : Piece) (qs : List Piece) (x last : ℕ) → piece_holds q x ≡ true → least_missing (q ∷ qs) x last ≡ least_missing qs (q.range.last + 1) last
here q qs x last t = ap (λ y. least_missing qs y last) (cond-true (piece_holds q x) (q.range.last + 1) x t)

past : (q : Piece) (qs : List Piece) (x last : ℕ) → piece_holds q x ≡ false → least_missing (q ∷ qs) x last ≡ least_missing qs x last
past q qs x last f = ap (λ y. least_missing qs y last) (cond-false (piece_holds q x) (q.range.last + 1) x f)

-- from a number that a piece holds the search goes on behind the piece
pub missing_behind : (space : Space) (low : ℕ) (ps : List Piece) (x last : ℕ) (p : Piece) → RisesFrom low ps → AllPiecesOf space ps
    → piece_at ps x ≡ Some p → least_missing ps x last ≡ least_missing ps (p.range.last + 1) last
missing_behind space low [] x last p rises each e = absurd (none-some p e)
missing_behind space low (q ∷ qs) x last p rises each e =
    elim (cases_Bool (piece_holds q x)) [
      | inl t ↦
          let same : q ≡ p = same_Some q p (sym (piece_at-first q qs x t) ∙ e) in
          here q qs x last t
          ∙ sym (past q qs (q.range.last + 1) last (not_held_above q (q.range.last + 1) (omega arith)))
          ∙ ap (λ (r : Piece). least_missing (q ∷ qs) (r.range.last + 1) last) same
      | inr f ↦
          let found : piece_at qs x ≡ Some p = sym (piece_at-rest q qs x f) ∙ e in
          let lies = found_in space (q.range.last + 1) qs x p rises.2 each.1 found in
          let begins : p.range.first ≤ x = lies.begins in
          let ends : x ≤ p.range.last = lies.ends in
          let above : q.range.last + 1 ≤ p.range.first = lies.above in
          past q qs x last f
          ∙ missing_behind space (q.range.last + 1) qs x last p rises.2 each.1 found
          ∙ sym (past q qs (p.range.last + 1) last (not_held_above q (p.range.last + 1) (omega arith)))
    ]

-- a number that no piece holds is the least
pub missing_here : (ps : List Piece) (x last : ℕ) → x ≤ last → piece_at ps x ≡ None → least_missing ps x last ≡ Some x
missing_here [] x last h e = cond-true (nat_le x last) (Some x) None (le-leb x last h)
missing_here (q ∷ qs) x last h e =
    elim (cases_Bool (piece_holds q x)) [
      | inl t ↦ absurd (none-some q (sym e ∙ piece_at-first q qs x t))
      | inr f ↦ past q qs x last f ∙ missing_here qs x last h (sym (piece_at-rest q qs x f) ∙ e)
    ]

-- behind the last number none is missing
pub missing_past : (ps : List Piece) (x last : ℕ) → last < x → least_missing ps x last ≡ None
missing_past [] x last h = cond-false (nat_le x last) (Some x) None (lt-leb x last h)
missing_past (q ∷ qs) x last h =
    elim (cases_Bool (piece_holds q x)) [
      | inl t ↦
          let ends : x ≤ q.range.last = (holds_true q x t).1 in
          here q qs x last t ∙ missing_past qs (q.range.last + 1) last (omega arith)
      | inr f ↦ past q qs x last f ∙ missing_past qs x last h
    ]

-- none is missing of numbers that one piece has
pub none_missing : (space : Space) (ps : List Piece) (x last : ℕ) (p : Piece) → RisesFrom 0 ps → AllPiecesOf space ps
    → piece_at ps x ≡ Some p → last ≤ p.range.last → least_missing ps x last ≡ None
none_missing space ps x last p rises each e h =
    missing_behind space 0 ps x last p rises each e ∙ missing_past ps (p.range.last + 1) last (omega arith)
