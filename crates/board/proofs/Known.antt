-- The holders of a whole register's cards are there.
use Rattle.std.proofs.Common.{◌≡◌, ℕ, ◌<◌, true, nat_eq, refl, List, [], ◌∷◌, length, Option, None, Some, IfSome, sym, ◌∙◌, subst, inl, inr}
use Rattle.std.specs.Option.{option_eq, option_map}
use Rattle.std.proofs.lemmas.Bool.{cases_Bool, and_parts, eqb-true}
use Rattle.std.proofs.lemmas.Option.{none-some, same_Some}
use Rattle.reg_entry.specs.declared.card.Card.{Card}
use Rattle.reg_entry.specs.declared.piece.Piece.{Piece}
use Rattle.reg_entry.specs.Card.{is_delegated}
use Rattle.reg_entry.specs.Pieces.{piece_holds, piece_at}
use Rattle.num_range.specs.Number.{PlainNumber}
use Rattle.reg_entry.specs.Register.{Register, register_pieces, piece_of, card_of}
use Rattle.reg_entry.specs.Holdings.{gives_held}
use Rattle.board.specs.FoundPiece.{HasKnownHolder}
use Rattle.reg_entry.specs.Whole.{IsCardIn, HaveCardsIn, IsKnownHolder, IsWholeRegister}
use Rattle.reg_entry.proofs.Holding.{piece_at-first, piece_at-rest}

pub card_in : (r : Register) (ps : List Piece) (x : ℕ) (p : Piece) → HaveCardsIn r ps → piece_at ps x ≡ Some p → IsCardIn r p.card
card_in r [] x p each e = absurd (none-some p e)
card_in r (q ∷ qs) x p each e =
    elim (cases_Bool (piece_holds q x)) [
      | inl t ↦ subst (λ (s : Piece). IsCardIn r s.card) (same_Some q p (sym (piece_at-first q qs x t) ∙ e)) each.0
      | inr f ↦ card_in r qs x p each.1 (sym (piece_at-rest q qs x f) ∙ e)
    ]

some_number : (r : Register) (o : Option ℕ) → IsKnownHolder r o → IfSome o (λ number. number < length r.holders)
some_number r None h = tt
some_number r (Some number) h = h

pub card_holder : (r : Register) (c : Card) → IsCardIn r c → IfSome c.holder (λ number. number < length r.holders)
card_holder r c h =
    elim (cases_Bool (is_delegated c.status)) [
      | inl t ↦ some_number r c.holder (h.holder t)
      | inr f ↦ subst (λ (o : Option ℕ). IfSome o (λ number. number < length r.holders)) (sym (h.nobody f)) tt
    ]

holder_known : (r : Register) (n : PlainNumber) (p : Piece) → IsWholeRegister r → piece_of r.pool n ≡ Some p
    → IfSome p.card.holder (λ number. number < length r.holders)
holder_known r n p whole e = card_holder r p.card (card_in r (register_pieces r n.space) n.value p (whole.cards n.space) e)

-- said of the result of a look-up in one of the register's spaces
pub holder_if : (r : Register) (n : PlainNumber) (o : Option Piece) → IsWholeRegister r → o ≡ piece_of r.pool n → IfSome o (HasKnownHolder r)
holder_if r n None whole e = tt
holder_if r n (Some p) whole e = holder_known r n p whole (sym e)

-- ---- of the card of a number

holder_there : (r : Register) (holder : ℕ) (o : Option ℕ) → option_eq nat_eq o (Some holder) ≡ true → IsKnownHolder r o → holder < length r.holders
holder_there r holder None e h = absurd h
holder_there r holder (Some number) e h = subst (λ (n : ℕ). n < length r.holders) (eqb-true number holder e) h

known_at : (r : Register) (ps : List Piece) (x : ℕ) (o : Option Piece) → HaveCardsIn r ps → piece_at ps x ≡ o
    → IfSome (option_map (λ p. p.card) o) (λ c. (holder : ℕ) → gives_held holder c ≡ true → holder < length r.holders)
known_at r ps x None each e = tt
known_at r ps x (Some p) each e = λ holder gives.
    let both = and_parts (is_delegated p.card.status) (option_eq nat_eq p.card.holder (Some holder)) gives in
    holder_there r holder p.card.holder both.1 ((card_in r ps x p each e).holder both.0)

-- the holder to whom a number's card gives it is there
pub known_holders : (r : Register) (n : PlainNumber) (o : Option Card) (count : ℕ) → IsWholeRegister r → o ≡ card_of r.pool n → count ≡ length r.holders
    → IfSome o (λ c. (holder : ℕ) → gives_held holder c ≡ true → holder < count)
known_holders r n o count whole is same =
    subst (λ (m : ℕ). IfSome o (λ c. (holder : ℕ) → gives_held holder c ≡ true → holder < m)) (sym same)
    (subst (λ (x : Option Card). IfSome x (λ c. (holder : ℕ) → gives_held holder c ≡ true → holder < length r.holders)) (sym is)
    (known_at r (register_pieces r n.space) n.value (piece_at (register_pieces r n.space) n.value) (whole.cards n.space) refl))
