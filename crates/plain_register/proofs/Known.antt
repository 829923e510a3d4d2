-- The holders of a whole register's cards are there.
use Rattle.std.proofs.Common.{◌≡◌, ℕ, ◌<◌, List, [], ◌∷◌, length, Option, None, Some, IfSome, sym, ◌∙◌, subst, inl, inr}
use Rattle.std.proofs.lemmas.Bool.{cases_Bool}
use Rattle.std.proofs.lemmas.Option.{none-some, same_Some}
use Rattle.reg_entry.specs.declared.card.Card.{Card}
use Rattle.reg_entry.specs.declared.piece.Piece.{Piece}
use Rattle.reg_entry.specs.Card.{is_delegated}
use Rattle.reg_entry.specs.Pieces.{piece_holds, piece_at}
use Rattle.num_range.specs.Number.{PlainNumber}
use Rattle.reg_entry.specs.Register.{Register, register_pieces, piece_of}
use Rattle.reg_entry.specs.Whole.{IsCardIn, HaveCardsIn, IsKnownHolder, IsWholeRegister}
use Rattle.reg_entry.proofs.Holding.{piece_at-first, piece_at-rest}

pub card_in : (r : Register) (ps : List Piece) (x : ℕ) (p : Piece) → HaveCardsIn r ps → piece_at ps x ≡ Some p → IsCardIn r p.card
card_in r [] x p each e = absurd (none-some p e)
card_in r (q ∷ qs) x p each e =
    elim (cases_Bool (piece_holds q x)) [
      | inl t ↦ subst (λ (s : Piece). IsCardIn r s.card) (same_Some q p (sym (piece_at-first q qs x t) ∙ e)) each.0
      | inr f ↦ card_in r qs x p each.1 (sym (piece_at-rest q qs x f) ∙ e)
    ]

some_number : (r : Register) (o : Option ℕ) → IsKnownHolder r o → IfSome o (λ number. number < length r.holders)
some_number r None h = tt
some_number r (Some number) h = h

pub card_holder : (r : Register) (c : Card) → IsCardIn r c → IfSome c.holder (λ number. number < length r.holders)
card_holder r c h =
    elim (cases_Bool (is_delegated c.status)) [
      | inl t ↦ some_number r c.holder (h.holder t)
      | inr f ↦ subst (λ (o : Option ℕ). IfSome o (λ number. number < length r.holders)) (sym (h.nobody f)) tt
    ]

-- said of the result of a look-up in one of the register's spaces
pub holder_known : (r : Register) (n : PlainNumber) (p : Piece) → IsWholeRegister r → piece_of r.pool n ≡ Some p
    → IfSome p.card.holder (λ number. number < length r.holders)
holder_known r n p whole e = card_holder r p.card (card_in r (register_pieces r n.space) n.value p (whole.cards n.space) e)
