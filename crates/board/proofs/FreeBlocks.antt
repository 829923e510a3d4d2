-- Whether one available piece has a run of numbers: the one that holds the first of them.
use Rattle.std.proofs.Common.{◌≡◌, ℕ, ◌+◌, ◌<◌, ◌≤◌, Bool, true, false, ◌&&◌, ◌||◌, nat_le, List, [], ◌∷◌, Option, None, Some, refl, sym, ◌∙◌, ap, inl, inr, arith}
use Rattle.std.proofs.lemmas.Bool.{cases_Bool, le-leb, true≢false}
use Rattle.std.proofs.lemmas.Option.{none-some}
use Rattle.std.specs.List.{list_any}
use Rattle.reg_entry.specs.declared.piece.Piece.{Piece}
use Rattle.reg_entry.specs.Card.{is_available}
use Rattle.reg_entry.specs.Pieces.{piece_holds, piece_at, RisesFrom}
use Rattle.reg_entry.specs.Next.{has_free}
use Rattle.board.specs.Free.{reaches_free}
use Rattle.reg_entry.proofs.Holding.{holds_true, not_held_below, piece_at-first, piece_at-rest}

unheld : (a b : Bool) → (a && false && b) ≡ false
unheld true b = refl
unheld false b = refl

held : (a b c d : Bool) → b ≡ true → c ≡ true → (a && b && (c && d)) ≡ (a && d)
held true true true d e f = refl
held true true false d e f = absurd (true≢false (sym f))
held true false c d e f = absurd (true≢false (sym e))
held false b c d e f = refl

or_false : (a b : Bool) → b ≡ false → (a || b) ≡ a
or_false true b e = refl
or_false false b e = e

none_above : (low first last : ℕ) (ps : List Piece) → RisesFrom low ps → first < low → list_any (has_free first last) ps ≡ false
none_above low first last [] rises h = refl
none_above low first last (q ∷ qs) rises h =
    let below : piece_holds q first ≡ false = not_held_below q first (omega arith) in
    let here : has_free first last q ≡ false =
    ap (λ (b : Bool). is_available q.card.status && b && piece_holds q last) below ∙ unheld (is_available q.card.status) (piece_holds q last) in
    ap (λ (b : Bool). b || list_any (has_free first last) qs) here ∙ none_above (q.range.last + 1) first last qs rises.2 (omega arith)

pub free_at : (low first last : ℕ) (ps : List Piece) (o : Option Piece) → RisesFrom low ps → first ≤ last → o ≡ piece_at ps first
    → reaches_free o last ≡ list_any (has_free first last) ps
free_at low first last [] None rises h e = refl
free_at low first last [] (Some p) rises h e = absurd (none-some p (sym e))
free_at low first last (q ∷ qs) o rises h e =
    elim (cases_Bool (piece_holds q first)) [
      | inl t ↦
          let begins : q.range.first ≤ first = (holds_true q first t).0 in
          let ends : first ≤ q.range.last = (holds_true q first t).1 in
          let is : o ≡ Some q = e ∙ piece_at-first q qs first t in
          let rest : list_any (has_free first last) qs ≡ false = none_above (q.range.last + 1) first last qs rises.2 (omega arith) in
          ap (λ (x : Option Piece). reaches_free x last) is
          ∙ sym (held (is_available q.card.status) (piece_holds q first) (nat_le q.range.first last) (nat_le last q.range.last) t (le-leb q.range.first last (omega arith)))
          ∙ sym (or_false (has_free first last q) (list_any (has_free first last) qs) rest)
      | inr f ↦
          let here : has_free first last q ≡ false =
          ap (λ (b : Bool). is_available q.card.status && b && piece_holds q last) f ∙ unheld (is_available q.card.status) (piece_holds q last) in
          free_at (q.range.last + 1) first last qs o rises.2 h (e ∙ piece_at-rest q qs first f)
          ∙ ap (λ (b : Bool). b || list_any (has_free first last) qs) (sym here)
    ]
