-- A number lies in one piece at most.
use Rattle.std.proofs.Common.{◌≡◌, ℕ, ◌+◌, ◌<◌, List, [], ◌∷◌, map, filter, option_to_list, inl, inr, refl, sym, ◌∙◌, ap, arith}
use Rattle.std.proofs.lemmas.Bool.{cases_Bool, cond-true, cond-false}
use Rattle.reg_entry.specs.declared.piece.Piece.{Piece}
use Rattle.reg_entry.specs.Pieces.{piece_holds, card_at, cards_at, RisesFrom}
use Rattle.reg_entry.proofs.Holding.{holds_true, not_held_below}
use Rattle.reg_entry.proofs.Lookups.{card_at-first, card_at-rest}

-- pieces above the number don't hold it
none_above : (low : ℕ) (ps : List Piece) (x : ℕ) → RisesFrom low ps → x < low → filter (λ p. piece_holds p x) ps ≡ []
none_above low [] x rises h = refl
none_above low (p ∷ ps) x rises h =
    cond-false (piece_holds p x) (p ∷ filter (λ q. piece_holds q x) ps) (filter (λ q. piece_holds q x) ps) (not_held_below p x (omega arith))
    ∙ none_above (p.range.last + 1) ps x rises.2 (omega arith)

pub cards_at-card_at : (low : ℕ) (ps : List Piece) (x : ℕ) → RisesFrom low ps → cards_at ps x ≡ option_to_list (card_at ps x)
cards_at-card_at low [] x rises = refl
cards_at-card_at low (p ∷ ps) x rises =
    let others : List Piece = filter (λ q. piece_holds q x) ps in
    elim (cases_Bool (piece_holds p x)) [
      | inl t ↦
          let inside = holds_true p x t in
          ap (map (λ q. q.card)) (cond-true (piece_holds p x) (p ∷ others) others t)
          ∙ ap (λ qs. p.card ∷ map (λ q. q.card) qs) (none_above (p.range.last + 1) ps x rises.2 (omega arith))
          ∙ sym (ap option_to_list (card_at-first p ps x t))
      | inr f ↦
          ap (map (λ q. q.card)) (cond-false (piece_holds p x) (p ∷ others) others f)
          ∙ cards_at-card_at (p.range.last + 1) ps x rises.2
          ∙ sym (ap option_to_list (card_at-rest p ps x f))
    ]
