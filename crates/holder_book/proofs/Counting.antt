-- What the holders hold, after one of them has more or less, and what a card gives its holder.
use Rattle.std.proofs.Common.{◌≡◌, ℕ, zero, suc, ◌+◌, ◌<◌, ◌≤◌, true, cond, ◌&&◌, nat_eq, List, [], ◌∷◌, Option, None, Some, length, get_or, slice_set, ◌^◌, inl, inr, refl, sym, ◌∙◌, ap, subst, arith}
use Rattle.std.specs.List.{slice_get}
use Rattle.std.specs.Option.{option_eq, option_map_or}
use Rattle.std.proofs.lemmas.Bool.{cond-true, cond-false, cases_Bool, cases_lt, and_from, eq-eqb, eqb-true, eqb-false}
use Rattle.std.proofs.lemmas.Option.{none-some, slice_get_past, slice_get_read}
use Rattle.num_range.specs.declared.space.Space.{Space}
use Rattle.num_range.specs.declared.space.Space.TheVariants.{Asn, Ipv4, Ipv6}
use Rattle.num_range.specs.Space.{same_space}
use Rattle.num_range.specs.Range.{PlainRange, size_of}
use Rattle.reg_entry.specs.declared.card.Card.{Card}
use Rattle.reg_entry.specs.Card.{is_delegated}
use Rattle.reg_entry.specs.Holdings.{held_by_card}
use Rattle.holder_book.specs.declared.holding_book.Held.{Held}
use Rattle.holder_book.specs.declared.holding_book.Holding.{Holding}
use Rattle.holder_book.specs.HoldingBook.{PlainHoldingBook, of_space, with_space, held_in, holder_of}

-- ---- a holder's numbers after they were put

-- one of the two numbers
abbrev pub count_of : (Held → ℕ) → List Holding → ℕ → Space → ℕ
count_of f hs n space = option_map_or (λ h. f (of_space h space)) (slice_get hs n) 0

put_here : (f : Held → ℕ) (hs : List Holding) (n : ℕ) (v : Holding) (t : Space) → n < length hs → count_of f (slice_set hs n v) n t ≡ f (of_space v t)
put_here f [] n v t h = absurd (omega arith)
put_here f (x ∷ hs) zero v t h = refl
put_here f (x ∷ hs) (suc n) v t h = put_here f hs n v t (omega arith)

put_elsewhere : (f : Held → ℕ) (hs : List Holding) (n m : ℕ) (v : Holding) (t : Space) → (n ≡ m → ⊥) → count_of f (slice_set hs n v) m t ≡ count_of f hs m t
put_elsewhere f [] n m v t h = refl
put_elsewhere f (x ∷ hs) zero zero v t h = absurd (h refl)
put_elsewhere f (x ∷ hs) zero (suc m) v t h = refl
put_elsewhere f (x ∷ hs) (suc n) zero v t h = refl
put_elsewhere f (x ∷ hs) (suc n) (suc m) v t h = put_elsewhere f hs n m v t (λ e. h (ap suc e))

of_with : (f : Held → ℕ) (x : Holding) (s t : Space) (new : Held) → f (of_space (with_space x s new) t) ≡ cond (same_space s t) (f new) (f (of_space x t))
of_with f x Asn Asn new = refl
of_with f x Asn Ipv4 new = refl
of_with f x Asn Ipv6 new = refl
of_with f x Ipv4 Asn new = refl
of_with f x Ipv4 Ipv4 new = refl
of_with f x Ipv4 Ipv6 new = refl
of_with f x Ipv6 Asn new = refl
of_with f x Ipv6 Ipv4 new = refl
of_with f x Ipv6 Ipv6 new = refl

pub after_put : (f : Held → ℕ) (hs : List Holding) (n m : ℕ) (x : Holding) (s t : Space) (new : Held) → slice_get hs n ≡ Some x → n < length hs
    → count_of f (slice_set hs n (with_space x s new)) m t ≡ cond (nat_eq n m && same_space s t) (f new) (count_of f hs m t)
after_put f hs n m x s t new is within =
    elim (cases_Bool (nat_eq n m)) [
      | inl e ↦
          let same : n ≡ m = eqb-true n m e in
          subst (λ k. count_of f (slice_set hs n (with_space x s new)) k t ≡ cond (nat_eq n m && same_space s t) (f new) (count_of f hs k t)) same
          (put_here f hs n (with_space x s new) t within
          ∙ of_with f x s t new
          ∙ ap (λ o. cond (same_space s t) (f new) (option_map_or (λ h. f (of_space h t)) o 0)) (sym is)
          ∙ ap (λ b. cond (b && same_space s t) (f new) (count_of f hs n t)) (sym e))
      | inr e ↦
          put_elsewhere f hs n m (with_space x s new) t (eqb-false n m e)
          ∙ ap (λ b. cond (b && same_space s t) (f new) (count_of f hs m t)) (sym e)
    ]

pub put_counts : (f : Held → ℕ) (b : PlainHoldingBook) (items : List Holding) (n m : ℕ) (x v : Holding) (s t : Space) (new : Held)
    → b.holdings ≡ items → x ≡ get_or items n x → n < length b.holdings → v ≡ with_space x s new
    → count_of f (slice_set items n v) m t ≡ cond (nat_eq n m && same_space s t) (f new) (count_of f b.holdings m t)
put_counts f b items n m x v s t new is read within made =
    let there : n < length items = subst (λ hs. n < length hs) is within in
    ap (λ y. count_of f (slice_set items n y) m t) made
    ∙ after_put f items n m x s t new (slice_get_read items (length items) n x refl there read) there
    ∙ ap (λ hs. cond (nat_eq n m && same_space s t) (f new) (count_of f hs m t)) (sym is)

-- ---- what a card gives

space_is_itself : (s : Space) → same_space s s ≡ true
space_is_itself Asn = refl
space_is_itself Ipv4 = refl
space_is_itself Ipv6 = refl

number_is_itself : (o : Option ℕ) (n : ℕ) → o ≡ Some n → option_eq nat_eq o (Some n) ≡ true
number_is_itself o n e = ap (λ x. option_eq nat_eq x (Some n)) e ∙ eq-eqb n n refl

pub held_by_someone : (c : Card) (n : ℕ) → holder_of c ≡ Some n → (is_delegated c.status ≡ true) × (c.holder ≡ Some n)
held_by_someone c n e =
    elim (cases_Bool (is_delegated c.status)) [
      | inl t ↦ (t, sym (cond-true (is_delegated c.status) c.holder None t) ∙ e)
      | inr f ↦ absurd (none-some n (sym (cond-false (is_delegated c.status) c.holder None f) ∙ e))
    ]

pub size_by_holder : (c : Card) (n : ℕ) (range : PlainRange) → holder_of c ≡ Some n → held_by_card n range.space range c ≡ size_of range
size_by_holder c n range e =
    let is = held_by_someone c n e in
    cond-true (same_space range.space range.space && (is_delegated c.status && option_eq nat_eq c.holder (Some n))) (size_of range) 0
    (and_from (same_space range.space range.space) (is_delegated c.status && option_eq nat_eq c.holder (Some n)) (space_is_itself range.space)
    (and_from (is_delegated c.status) (option_eq nat_eq c.holder (Some n)) is.0 (number_is_itself c.holder n is.1)))

-- who holds a number is there
pub holder_is_there : (b : PlainHoldingBook) (n : ℕ) (space : Space) → 0 < held_in b n space → n < length b.holdings
holder_is_there b n space h =
    elim (cases_lt n (length b.holdings)) [
      | inl lt ↦ lt
      | inr ge ↦
          let nothing : held_in b n space ≡ 0 = ap (λ o. option_map_or (λ x. (of_space x space).held) o 0) (slice_get_past b.holdings n ge) in
          absurd (omega arith)
    ]

pub fits_alone : (a b n : ℕ) → a + b < 2 ^ 128 → b ≡ n → n < 2 ^ 128
fits_alone a b n h e = omega arith

pub fits_below : (a b n : ℕ) → a < 2 ^ 128 → b ≤ a → b ≡ n → n < 2 ^ 128
fits_below a b n h l e = omega arith

-- who loses the numbers of a range is there
pub loser_is_there : (b : PlainHoldingBook) (c : Card) (n : ℕ) (range : PlainRange) → holder_of c ≡ Some n
    → held_by_card n range.space range c ≤ held_in b n range.space → n < length b.holdings
loser_is_there b c n range e h =
    holder_is_there b n range.space (some_there (held_by_card n range.space range c) (size_of range) (held_in b n range.space) h (size_by_holder c n range e) (omega arith))
  where
    some_there : (a m k : ℕ) → a ≤ k → a ≡ m → 0 < m → 0 < k
    some_there a m k h e f = omega arith
