-- Holders are told apart by their handles, so that pieces of different holders have different objects.
use Rattle.std.proofs.Common.{◌≡◌, ℕ, zero, suc, ◌<◌, true, nat_eq, inl, inr, List, [], ◌∷◌, Option, None, Some, MatchOption, find, length, refl, sym, ◌∙◌, ap, subst, arith}
use Rattle.std.specs.Option.{option_eq}
use Rattle.std.specs.Str.{bytes_eq}
use Rattle.std.proofs.lemmas.Bool.{cond-true, cases_Bool, both_ways, eqb-true, eq-eqb, false_from_ne_true}
use Rattle.std.proofs.lemmas.Option.{none-some}
use Rattle.reg_entry.specs.declared.card.Card.{Card}
use Rattle.reg_entry.specs.declared.holder.Holder.{Holder}
use Rattle.reg_entry.specs.declared.piece.Piece.{Piece}
use Rattle.reg_entry.specs.Card.{is_delegated}
use Rattle.reg_entry.specs.Holders.{has_handle, handle_at, handle_of, HaveDistinctHandles}
use Rattle.reg_entry.specs.Register.{Register}
use Rattle.reg_entry.specs.Whole.{IsKnownHolder, IsCardIn, HaveCardsIn}
use Rattle.reg_laws.proofs.Accepting.{map_none}
use Rattle.reg_laws.proofs.HolderFacts.{find_rest}
use Rattle.reg_laws.proofs.Sameness.{bytes_eq-true, bytes_eq-refl}
use Rattle.op_feed.proofs.Local.{Each}

-- ---- no two holders have one handle

named_there : (hs : List (Holder × ℕ)) (j : ℕ) → j < length hs → find (has_handle (handle_at hs j)) hs ≡ None → ⊥
named_there [] j h e = omega arith
named_there (m ∷ hs) zero h e =
    none-some m (sym e ∙ cond-true (has_handle m.0.handle m) (Some m) (find (has_handle m.0.handle) hs) (bytes_eq-refl m.0.handle))
named_there (m ∷ hs) (suc j) h e = named_there hs j (omega arith) (find_rest (handle_at hs j) m hs e).1

first_differs : (m : Holder × ℕ) (hs : List (Holder × ℕ)) (j : ℕ) → HaveDistinctHandles (m ∷ hs) → j < length hs → m.0.handle ≡ handle_at hs j → ⊥
first_differs m hs j h l e =
    named_there hs j l (subst (λ handle. find (has_handle handle) hs ≡ None) e (map_none (λ x. x.0) (find (has_handle m.0.handle) hs) h.0))

pub one_number : (hs : List (Holder × ℕ)) (i j : ℕ) → HaveDistinctHandles hs → i < length hs → j < length hs → handle_at hs i ≡ handle_at hs j → i ≡ j
one_number [] i j h l k e = absurd (omega arith)
one_number (m ∷ hs) zero zero h l k e = refl
one_number (m ∷ hs) zero (suc j) h l k e = absurd (first_differs m hs j h (omega arith) e)
one_number (m ∷ hs) (suc i) zero h l k e = absurd (first_differs m hs i h (omega arith) (sym e))
one_number (m ∷ hs) (suc i) (suc j) h l k e = ap (λ n. suc n) (one_number hs i j h.1 (omega arith) (omega arith) e)

-- a holder that is there, or none
abbrev pub IsHolderIn : List (Holder × ℕ) → Option ℕ → Type 0
IsHolderIn hs holder = MatchOption holder (Unit {0}) (λ number. number < length hs)

pub same_holders : (hs : List (Holder × ℕ)) (a b : Option ℕ) → HaveDistinctHandles hs → IsHolderIn hs a → IsHolderIn hs b
    → option_eq bytes_eq (handle_of hs a) (handle_of hs b) ≡ option_eq nat_eq a b
same_holders hs None None h k l = refl
same_holders hs None (Some j) h k l = refl
same_holders hs (Some i) None h k l = refl
same_holders hs (Some i) (Some j) h k l =
    elim (cases_Bool (nat_eq i j)) [
      | inl t ↦ subst (λ n. bytes_eq (handle_at hs i) (handle_at hs n) ≡ true) (eqb-true i j t) (bytes_eq-refl (handle_at hs i)) ∙ sym t
      | inr f ↦
          false_from_ne_true (bytes_eq (handle_at hs i) (handle_at hs j)) (λ t.
          both_ways (nat_eq i j) f (eq-eqb i j (one_number hs i j h k l (bytes_eq-true (handle_at hs i) (handle_at hs j) t))))
          ∙ sym f
    ]

-- ---- the holders of cards

abbrev pub HasHolderIn : List (Holder × ℕ) → Piece → Type 0
HasHolderIn hs p = IsHolderIn hs p.card.holder

known : (r : Register) (holder : Option ℕ) → IsKnownHolder r holder → IsHolderIn r.holders holder
known r None h = tt
known r (Some number) h = h

card_holder : (r : Register) (c : Card) → IsCardIn r c → IsHolderIn r.holders c.holder
card_holder r c h =
    elim (cases_Bool (is_delegated c.status)) [
      | inl t ↦ known r c.holder (h.holder t)
      | inr f ↦ subst (IsHolderIn r.holders) (sym (h.nobody f)) tt
    ]

pub piece_holders : (r : Register) (ps : List Piece) → HaveCardsIn r ps → Each (HasHolderIn r.holders) ps
piece_holders r [] h = tt
piece_holders r (p ∷ ps) h = (card_holder r p.card h.0, piece_holders r ps h.1)
