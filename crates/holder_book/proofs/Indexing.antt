-- The holders' numbers under the numbers of their handles: what is found there, and how they follow the holders.
use Rattle.std.proofs.Common.{◌≡◌, ◌≢◌, ℕ, suc, zero, ◌+◌, ◌-◌, ◌≤◌, true, false, List, [], ◌∷◌, ◌++◌, None, Some, length, get_or, take, drop, refl, sym, ◌∙◌, ap, subst, inl, inr, arith}
use Rattle.std.specs.Prelude.{IsTrue}
use Rattle.std.specs.List.{All, AllByRecursion, insert, slice_get}
use Rattle.std.specs.FinMap.{nat_cmp-IsAntisymmetric}
use Rattle.std.specs.Option.{IfSome, option_map_or}
use Rattle.std.specs.Ordering.{is_le, is_lt, nat_cmp, ordering_reverse}
use Rattle.std.specs.declared.cmp.Ordering.{Ordering}
use Rattle.std.specs.declared.cmp.Ordering.TheVariants.{Less, Equal, Greater}
use Rattle.std.specs.Str.{bytes_eq}
use Rattle.std.proofs.lemmas.Bool.{cases_Bool, cases_lt, cond-true, cond-false, false_from_ne_true, false≢true}
use Rattle.std.proofs.lemmas.Cmp.{nat_cmp_total, tied_itself}
use Rattle.std.proofs.lemmas.Slice.Eq.{bytes_eq-Decides}
use Rattle.std.proofs.lemmas.List.{length_push}
use Rattle.std.proofs.lemmas.List.Edits.{length-insert, get_or-insert_below, get_or-insert_at, get_or-insert_above}
use Rattle.std.proofs.lemmas.Option.{none-some, get_or_from_slice_get, slice_get_within}
use Rattle.page_dir.specs.Sorted.{MeetsBelow, Rises, rank}
use Rattle.page_dir.specs.Splices.{spliced}
use Rattle.reg_entry.specs.declared.holder.Holder.{Holder}
use Rattle.reg_entry.specs.Handle.{is_handle}
use Rattle.reg_entry.specs.Holders.{holder_number, added_holder, edited_holder}
use Rattle.holder_book.specs.HandleKey.{handle_key}
use Rattle.holder_book.specs.Index.{IsHolderIndex}
use Rattle.holder_book.proofs.HandleKeys.{key_of_one}
use Rattle.holder_book.proofs.Places.{number_stays, still_no_number, number_of_new, number_after_editing}

abbrev Pair : Type 0
Pair = ℕ × ℕ

-- ---- the order

less_if : (o : Ordering) → is_lt o ≡ true → o ≡ Less
less_if Less t = refl
less_if Equal t = absurd (false≢true t)
less_if Greater t = absurd (false≢true t)

differ : (a b : ℕ) → is_lt (nat_cmp a b) ≡ true → a ≢ b
differ a b t e = false≢true (sym (ap is_lt (tied_itself nat_cmp_total b)) ∙ ap (λ n. is_lt (nat_cmp n b)) (sym e) ∙ t)

above : (a b : ℕ) (o : Ordering) → nat_cmp b a ≡ o → is_lt o ≡ false → b ≢ a → nat_cmp a b ≡ Less
above a b Less e f other = absurd (false≢true (sym f))
above a b Equal e f other = absurd (other (nat_cmp-IsAntisymmetric b a e))
above a b Greater e f other = nat_cmp_total.antisymm a b ∙ ap ordering_reverse e

first_behind : (n : ℕ) (ps : List Pair) → slice_get (drop n ps) 0 ≡ slice_get ps n
first_behind zero ps = refl
first_behind (suc n) [] = refl
first_behind (suc n) (p ∷ ps) = first_behind n ps

-- a key that isn't there is less than those from its place on
meets_behind : (key number i : ℕ) (ps : List Pair) → All (λ p. p.0 ≢ key) ps
    → ((p : Pair) → slice_get ps i ≡ Some p → is_lt (nat_cmp p.0 key) ≡ false) → MeetsBelow nat_cmp ((key, number) ∷ []) (drop (i + 0) ps)
meets_behind key number i ps absent least p q e f =
    let at : i + 0 ≡ i = omega arith in
    let there : slice_get ps i ≡ Some q = sym (ap (slice_get ps) at) ∙ sym (first_behind (i + 0) ps) ∙ f in
    let same : key ≡ p.0 = ap (λ o. option_map_or (λ (x : Pair). x.0) o key) e in
    let other = subst (λ (x : Pair). x.0 ≢ key) (get_or_from_slice_get ps i q q there) (absent i q (slice_get_within ps i q there)) in
    subst (λ k. nat_cmp k q.0 ≡ Less) same (above key q.0 (nat_cmp q.0 key) refl (least q there) other)

-- the keys rise with one more at its place, by the directory's laws
pub entered_rises : (key number : ℕ) (ps : List Pair)
    → ((at n : ℕ) (new qs : List Pair) → Rises nat_cmp qs → Rises nat_cmp new → MeetsBelow nat_cmp (take at qs) new
    → MeetsBelow nat_cmp new (drop (at + n) qs) → Rises nat_cmp (spliced at n new qs))
    → ((key : ℕ) (new qs : List Pair) → IfSome (slice_get new 0) (λ p. is_le (nat_cmp key p.0) ≡ true) → MeetsBelow nat_cmp (take (rank nat_cmp key qs) qs) new)
    → ((key : ℕ) (qs : List Pair) (p : Pair) → slice_get qs (rank nat_cmp key qs) ≡ Some p → is_lt (nat_cmp p.0 key) ≡ false)
    → Rises nat_cmp ps → All (λ p. p.0 ≢ key) ps → Rises nat_cmp (spliced (rank nat_cmp key ps) 0 ((key, number) ∷ []) ps)
entered_rises key number ps ends from least rises absent =
    ends (rank nat_cmp key ps) 0 ((key, number) ∷ []) ps rises (tt, tt)
    (from key ((key, number) ∷ []) ps (ap is_le (tied_itself nat_cmp_total key)))
    (meets_behind key number (rank nat_cmp key ps) ps absent (λ p e. least key ps p e))

-- ---- what is found

all_cons : (P : Pair → Type 0) (p : Pair) (ps : List Pair) → P p → All P ps → All P (p ∷ ps)
all_cons P p ps here rest zero d within = here
all_cons P p ps here rest (suc k) d within = rest k d (omega arith)

-- what comes after a key that isn't less than the one looked for is another
others_behind : (key : ℕ) (p : Pair) (ps : List Pair) → AllByRecursion (λ q. nat_cmp p.0 q.0 ≡ Less) ps → is_lt (nat_cmp p.0 key) ≡ false
    → All (λ q. q.0 ≢ key) ps
others_behind key p [] rises f k d within = absurd (omega arith)
others_behind key p (q ∷ ps) rises f k d within =
    all_cons (λ q. q.0 ≢ key) q ps
    (λ same. false≢true (sym f ∙ ap (λ n. is_lt (nat_cmp p.0 n)) (sym same) ∙ ap is_lt rises.0))
    (others_behind key p ps rises.1 f) k d within

-- where the first key that is at least the one looked for is another, all are
all_others : (key : ℕ) (ps : List Pair) → Rises nat_cmp ps
    → ((p : Pair) → slice_get ps (rank nat_cmp key ps) ≡ Some p → p.0 ≢ key) → All (λ p. p.0 ≢ key) ps
all_others key [] rises first k d within = absurd (omega arith)
all_others key (p ∷ ps) rises first k d within = elim (cases_Bool (is_lt (nat_cmp p.0 key))) [
  | inl t ↦
      let place : rank nat_cmp key (p ∷ ps) ≡ suc (rank nat_cmp key ps) =
      cond-true (is_lt (nat_cmp p.0 key)) (1 + rank nat_cmp key ps) 0 t ∙ omega arith in
      all_cons (λ q. q.0 ≢ key) p ps (differ p.0 key t)
      (all_others key ps rises.1 (λ q e. first q (ap (slice_get (p ∷ ps)) place ∙ e))) k d within
  | inr f ↦
      let place : rank nat_cmp key (p ∷ ps) ≡ 0 = cond-false (is_lt (nat_cmp p.0 key)) (1 + rank nat_cmp key ps) 0 f in
      all_cons (λ q. q.0 ≢ key) p ps (first p (ap (slice_get (p ∷ ps)) place)) (others_behind key p ps rises.0 f) k d within
]

pub none_found : (hs : List (Holder × ℕ)) (ps : List Pair) (handle : List ℕ) → IsHolderIndex hs ps → IsTrue (is_handle handle)
    → ((p : Pair) → slice_get ps (rank nat_cmp (handle_key handle) ps) ≡ Some p → p.0 ≢ handle_key handle) → holder_number hs handle ≡ None
none_found hs ps handle h form first = h.whole handle form (all_others (handle_key handle) ps h.rises first)

-- a handle's pair has its holder's number
pub known_at : (hs : List (Holder × ℕ)) (ps : List Pair) (i : ℕ) (p : Pair) (handle : List ℕ) → IsHolderIndex hs ps → IsTrue (is_handle handle)
    → slice_get ps i ≡ Some p → p.0 ≡ handle_key handle → holder_number hs handle ≡ Some p.1
known_at hs ps i p handle h form e =
    subst (λ (q : Pair). q.0 ≡ handle_key handle → holder_number hs handle ≡ Some q.1) (get_or_from_slice_get ps i p p e)
    (h.known i p (slice_get_within ps i p e) handle form)

-- ---- all pairs once one was put in

all_after : (P : Pair → Type 0) (ps : List Pair) (i : ℕ) (p : Pair) → i ≤ length ps → All P ps → P p → All P (insert ps i p)
all_after P ps i p l h here k d within =
    let long = length-insert ps i p l in
    elim (cases_lt k i) [
      | inl below ↦ subst P (sym (get_or-insert_below ps i p d k below l)) (h k d (omega arith))
      | inr from ↦ elim (cases_lt i k) [
        | inl over ↦
            let back : k - 1 + 1 ≡ k = omega arith in
            subst P (sym (get_or-insert_above ps i p d (k - 1) (omega arith) l) ∙ ap (λ n. get_or (insert ps i p) n d) back) (h (k - 1) d (omega arith))
        | inr most ↦
            let same : i ≡ k = omega arith in
            subst P (sym (get_or-insert_at ps i p d l) ∙ ap (λ n. get_or (insert ps i p) n d) same) here
      ]
    ]

all_before : (P : Pair → Type 0) (ps : List Pair) (i : ℕ) (p : Pair) → i ≤ length ps → All P (insert ps i p) → All P ps × P p
all_before P ps i p l h =
    let long = length-insert ps i p l in (
      (λ k d within. elim (cases_lt k i) [
        | inl below ↦ subst P (get_or-insert_below ps i p d k below l) (h k d (omega arith))
        | inr from ↦ subst P (get_or-insert_above ps i p d k from l) (h (k + 1) d (omega arith))
      ]),
      subst P (get_or-insert_at ps i p p l) (h i p (omega arith)),
    )

-- ---- how it follows the holders

-- there is no pair of a handle without a number
pub absent_from : (hs : List (Holder × ℕ)) (ps : List Pair) (handle : List ℕ) → IsHolderIndex hs ps → IsTrue (is_handle handle)
    → holder_number hs handle ≡ None → All (λ p. p.0 ≢ handle_key handle) ps
absent_from hs ps handle h form none k d within same =
    none-some (get_or ps k d).1 (sym none ∙ h.known k d within handle form same)

one_more : (i : ℕ) (p : Pair) (ps : List Pair) → spliced i 0 (p ∷ []) ps ≡ insert ps i p
one_more i p ps = let none : i + 0 ≡ i = omega arith in ap (λ n. take i ps ++ p ∷ drop n ps) none

pub index_after_adding : (hs : List (Holder × ℕ)) (ps : List Pair) (holder : Holder) (day i : ℕ) → IsHolderIndex hs ps → IsTrue (is_handle holder.handle)
    → holder_number hs holder.handle ≡ None → i ≤ length ps → Rises nat_cmp (spliced i 0 ((handle_key holder.handle, length hs) ∷ []) ps)
    → IsHolderIndex (added_holder hs holder day) (spliced i 0 ((handle_key holder.handle, length hs) ∷ []) ps)
index_after_adding hs ps holder day i h form none l rises =
    let new : Holder × ℕ = (holder, day) in
    let p : Pair = (handle_key holder.handle, length hs) in
    subst (IsHolderIndex (added_holder hs holder day)) (sym (one_more i p ps))
    record {
      rises = subst (Rises nat_cmp) (one_more i p ps) rises;
      known = all_after (λ q. (handle : List ℕ) → IsTrue (is_handle handle) → q.0 ≡ handle_key handle → holder_number (hs ++ new ∷ []) handle ≡ Some q.1) ps i p l
          (λ k d within handle its same. number_stays hs new handle (get_or ps k d).1 (h.known k d within handle its same))
          (λ handle its same.
          subst (λ bytes. holder_number (hs ++ new ∷ []) bytes ≡ Some (length hs)) (key_of_one holder.handle handle form its same) (number_of_new hs new none));
      whole = λ handle its all.
          let parts = all_before (λ q. q.0 ≢ handle_key handle) ps i p l all in
          still_no_number hs new handle (h.whole handle its parts.0)
          (false_from_ne_true (bytes_eq holder.handle handle) (λ t. parts.1 (ap handle_key ((bytes_eq-Decides holder.handle handle).0 t))));
      count = length-insert ps i p l ∙ ap (λ n. n + 1) h.count ∙ sym (length_push hs new);
    }

pub index_after_editing : (hs : List (Holder × ℕ)) (ps : List Pair) (holder : Holder) (day : ℕ) → IsHolderIndex hs ps
    → length (edited_holder hs holder day) ≡ length hs → IsHolderIndex (edited_holder hs holder day) ps
index_after_editing hs ps holder day h long = record {
  rises = h.rises;
  known = λ k d within handle its same. number_after_editing hs holder day handle ∙ h.known k d within handle its same;
  whole = λ handle its all. number_after_editing hs holder day handle ∙ h.whole handle its all;
  count = h.count ∙ sym long;
}
