-- The piece that holds a number.
use Rattle.std.proofs.Common.{◌≡◌, ℕ, ◌+◌, ◌≤◌, List, [], ◌∷◌, Option, None, Some, IfSome, sym, ◌∙◌, subst, inl, inr, arith}
use Rattle.std.proofs.lemmas.Bool.{cases_Bool}
use Rattle.std.proofs.lemmas.Option.{none-some, same_Some}
use Rattle.num_range.specs.declared.space.Space.{Space}
use Rattle.reg_entry.specs.declared.piece.Piece.{Piece}
use Rattle.reg_entry.specs.Pieces.{piece_holds, piece_at, RisesFrom, AllPiecesOf}
use Rattle.plain_register.specs.FoundPiece.{IsFoundIn}
use Rattle.reg_entry.proofs.Holding.{holds_true, piece_at-first, piece_at-rest}

pub found_in : (space : Space) (low : ℕ) (ps : List Piece) (x : ℕ) (p : Piece) → RisesFrom low ps → AllPiecesOf space ps
    → piece_at ps x ≡ Some p → IsFoundIn space low x p
found_in space low [] x p rises each e = absurd (none-some p e)
found_in space low (q ∷ qs) x p rises each e =
    elim (cases_Bool (piece_holds q x)) [
      | inl t ↦
          let same : q ≡ p = same_Some q p (sym (piece_at-first q qs x t) ∙ e) in
          let h = holds_true q x t in
          subst (IsFoundIn space low x) same (record { begins = h.0; ends = h.1; above = rises.0; of_space = each.0 })
      | inr f ↦
          let rest = found_in space (q.range.last + 1) qs x p rises.2 each.1 (sym (piece_at-rest q qs x f) ∙ e) in
          let begins : p.range.first ≤ x = rest.begins in
          let ends : x ≤ p.range.last = rest.ends in
          let above : q.range.last + 1 ≤ p.range.first = rest.above in
          let order : q.range.first ≤ q.range.last = rises.1 in
          let least : low ≤ q.range.first = rises.0 in
          record { begins = begins; ends = ends; above = omega arith; of_space = rest.of_space }
    ]

-- said of the result of a look-up
pub found_if : (space : Space) (ps : List Piece) (x : ℕ) (o : Option Piece) → RisesFrom 0 ps → AllPiecesOf space ps
    → o ≡ piece_at ps x → IfSome o (IsFoundIn space 0 x)
found_if space ps x None rises each e = tt
found_if space ps x (Some p) rises each e = found_in space 0 ps x p rises each (sym e)
