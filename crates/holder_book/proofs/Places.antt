-- Where the first holder with a handle stands, once a holder was added or edited.
use Rattle.std.proofs.Common.{◌≡◌, ℕ, suc, zero, ◌+◌, ◌<◌, Bool, true, false, cond, List, [], ◌∷◌, ◌++◌, Option, None, Some, find, map, slice_set, length, refl, sym, ◌∙◌, ap, subst, inl, inr, arith}
use Rattle.std.specs.List.{position_from}
use Rattle.std.specs.Option.{option_map}
use Rattle.std.specs.Str.{bytes_eq}
use Rattle.std.proofs.lemmas.Bool.{cond_both, cond-true, cond-false, cases_Bool, both_ways, false_from_ne_true}
use Rattle.std.proofs.lemmas.Slice.Eq.{bytes_eq-Decides}
use Rattle.std.proofs.lemmas.Option.{none-some}
use Rattle.std.proofs.lemmas.Iterator.Adapters.{position_from-zero}
use Rattle.reg_entry.specs.declared.holder.Holder.{Holder}
use Rattle.reg_entry.specs.Holders.{has_handle, holder_number, holder_named, edited_holder, HaveDistinctHandles}

-- ---- the first place of a test, counted from i

abbrev Held : Type 0
Held = Holder × ℕ

first_is : (p : Held → Bool) (i : ℕ) (m : Held) (hs : List Held) → p m ≡ true → position_from p i (m ∷ hs) ≡ Some i
first_is p i m hs t = cond-true (p m) (Some i) (position_from p (i + 1) hs) t

later_is : (p : Held → Bool) (i : ℕ) (m : Held) (hs : List Held) → p m ≡ false → position_from p i (m ∷ hs) ≡ position_from p (i + 1) hs
later_is p i m hs f = cond-false (p m) (Some i) (position_from p (i + 1) hs) f

-- where there is none, the first isn't one, nor the later ones
none_parts : (p : Held → Bool) (i : ℕ) (m : Held) (hs : List Held) → position_from p i (m ∷ hs) ≡ None → (p m ≡ false) × (position_from p (i + 1) hs ≡ None)
none_parts p i m hs e = elim (cases_Bool (p m)) [
  | inl t ↦ absurd (none-some i (sym e ∙ first_is p i m hs t))
  | inr f ↦ (f, sym (later_is p i m hs f) ∙ e)
]

some_stays : (p : Held → Bool) (i n : ℕ) (new : Held) (hs : List Held) → position_from p i hs ≡ Some n → position_from p i (hs ++ new ∷ []) ≡ Some n
some_stays p i n new [] e = absurd (none-some n e)
some_stays p i n new (m ∷ hs) e = elim (cases_Bool (p m)) [
  | inl t ↦ first_is p i m (hs ++ new ∷ []) t ∙ sym (first_is p i m hs t) ∙ e
  | inr f ↦ later_is p i m (hs ++ new ∷ []) f ∙ some_stays p (i + 1) n new hs (sym (later_is p i m hs f) ∙ e)
]

none_stays : (p : Held → Bool) (i : ℕ) (new : Held) (hs : List Held) → position_from p i hs ≡ None → p new ≡ false → position_from p i (hs ++ new ∷ []) ≡ None
none_stays p i new [] e f = later_is p i new [] f
none_stays p i new (m ∷ hs) e f =
    let parts = none_parts p i m hs e in
    later_is p i m (hs ++ new ∷ []) parts.0 ∙ none_stays p (i + 1) new hs parts.1 f

new_is_last : (p : Held → Bool) (i : ℕ) (new : Held) (hs : List Held) → position_from p i hs ≡ None → p new ≡ true → position_from p i (hs ++ new ∷ []) ≡ Some (i + length hs)
new_is_last p i new [] e t = let at : i ≡ i + 0 = omega arith in first_is p i new [] t ∙ ap Some at
new_is_last p i new (m ∷ hs) e t =
    let parts = none_parts p i m hs e in
    let at : i + 1 + length hs ≡ i + length (m ∷ hs) = omega arith in
    later_is p i m (hs ++ new ∷ []) parts.0 ∙ new_is_last p (i + 1) new hs parts.1 t ∙ ap Some at

same_tests : (p : Held → Bool) (f : Held → Held) → ((m : Held) → p (f m) ≡ p m) → (i : ℕ) (hs : List Held) → position_from p i (map f hs) ≡ position_from p i hs
same_tests p f same i [] = refl
same_tests p f same i (m ∷ hs) =
    ap (λ b. cond b (Some i) (position_from p (i + 1) (map f hs))) (same m)
    ∙ ap (λ o. cond (p m) (Some i) o) (same_tests p f same (i + 1) hs)

found_none : (p : Held → Bool) (i : ℕ) (hs : List Held) → position_from p i hs ≡ None → find p hs ≡ None
found_none p i [] e = refl
found_none p i (m ∷ hs) e =
    let parts = none_parts p i m hs e in
    cond-false (p m) (Some m) (find p hs) parts.0 ∙ found_none p (i + 1) hs parts.1

-- the place is at i or after it
past : (p : Held → Bool) (i n : ℕ) (hs : List Held) → position_from p i hs ≡ Some n → (k : ℕ) × (n ≡ i + k) × (k < length hs)
past p i n [] e = absurd (none-some n e)
past p i n (m ∷ hs) e = elim (cases_Bool (p m)) [
  | inl t ↦ let same : i ≡ n = cc (sym (first_is p i m hs t) ∙ e) in (0, omega arith, omega arith)
  | inr f ↦ let rest = past p (i + 1) n hs (sym (later_is p i m hs f) ∙ e) in (suc rest.0, omega (arith, rest.1), omega (arith, rest.2))
]

-- ---- the number of a handle

number_is : (hs : List Held) (handle : List ℕ) → holder_number hs handle ≡ position_from (has_handle handle) 0 hs
number_is hs handle = position_from-zero (has_handle handle) hs

pub number_stays : (hs : List Held) (new : Held) (handle : List ℕ) (n : ℕ) → holder_number hs handle ≡ Some n → holder_number (hs ++ new ∷ []) handle ≡ Some n
number_stays hs new handle n e =
    number_is (hs ++ new ∷ []) handle ∙ some_stays (has_handle handle) 0 n new hs (sym (number_is hs handle) ∙ e)

pub still_no_number : (hs : List Held) (new : Held) (handle : List ℕ) → holder_number hs handle ≡ None → bytes_eq new.0.handle handle ≡ false
    → holder_number (hs ++ new ∷ []) handle ≡ None
still_no_number hs new handle e f =
    number_is (hs ++ new ∷ []) handle ∙ none_stays (has_handle handle) 0 new hs (sym (number_is hs handle) ∙ e) f

pub bytes_eq-refl : (a : List ℕ) → bytes_eq a a ≡ true
bytes_eq-refl a = (bytes_eq-Decides a a).1 refl

pub number_of_new : (hs : List Held) (new : Held) → holder_number hs new.0.handle ≡ None → holder_number (hs ++ new ∷ []) new.0.handle ≡ Some (length hs)
number_of_new hs new e =
    let at : 0 + length hs ≡ length hs = omega arith in
    number_is (hs ++ new ∷ []) new.0.handle
    ∙ new_is_last (has_handle new.0.handle) 0 new hs (sym (number_is hs new.0.handle) ∙ e) (bytes_eq-refl new.0.handle)
    ∙ ap Some at

pub number_within : (hs : List Held) (handle : List ℕ) (n : ℕ) → holder_number hs handle ≡ Some n → n < length hs
number_within hs handle n e = let at = past (has_handle handle) 0 n hs (sym (number_is hs handle) ∙ e) in omega (arith, at.1, at.2)

-- ---- distinct handles

find_parts : (handle : List ℕ) (m : Held) (hs : List Held) → find (has_handle handle) (m ∷ hs) ≡ None
    → (has_handle handle m ≡ false) × (find (has_handle handle) hs ≡ None)
find_parts handle m hs e = elim (cases_Bool (has_handle handle m)) [
  | inl t ↦ absurd (none-some m (sym e ∙ cond-true (has_handle handle m) (Some m) (find (has_handle handle) hs) t))
  | inr f ↦ (f, sym (cond-false (has_handle handle m) (Some m) (find (has_handle handle) hs) f) ∙ e)
]

find_in_more : (handle : List ℕ) (hs : List Held) (m : Held) → find (has_handle handle) hs ≡ None → has_handle handle m ≡ false
    → find (has_handle handle) (hs ++ m ∷ []) ≡ None
find_in_more handle [] m e f = cond-false (has_handle handle m) (Some m) None f
find_in_more handle (q ∷ hs) m e f =
    let parts = find_parts handle q hs e in
    cond-false (has_handle handle q) (Some q) (find (has_handle handle) (hs ++ m ∷ [])) parts.0 ∙ find_in_more handle hs m parts.1 f

none_of_map : (o : Option Held) → option_map (λ m. m.0) o ≡ None → o ≡ None
none_of_map None e = refl
none_of_map (Some m) e = absurd (none-some m.0 (sym e))

other_way : (a b : List ℕ) → bytes_eq a b ≡ false → bytes_eq b a ≡ false
other_way a b f =
    false_from_ne_true (bytes_eq b a) (λ t. both_ways (bytes_eq a b) f (ap (λ x. bytes_eq a x) ((bytes_eq-Decides b a).0 t) ∙ bytes_eq-refl a))

distinct_with : (hs : List Held) (m : Held) → find (has_handle m.0.handle) hs ≡ None → HaveDistinctHandles hs → HaveDistinctHandles (hs ++ m ∷ [])
distinct_with [] m e h = (refl, tt)
distinct_with (q ∷ hs) m e h =
    let parts = find_parts m.0.handle q hs e in (
      ap (option_map (λ x. x.0)) (find_in_more q.0.handle hs m (none_of_map (find (has_handle q.0.handle) hs) h.0) (other_way q.0.handle m.0.handle parts.0)),
      distinct_with hs m parts.1 h.1,
    )

pub distinct_after_adding : (hs : List Held) (m : Held) → holder_number hs m.0.handle ≡ None → HaveDistinctHandles hs → HaveDistinctHandles (hs ++ m ∷ [])
distinct_after_adding hs m e h = distinct_with hs m (found_none (has_handle m.0.handle) 0 hs (sym (number_is hs m.0.handle) ∙ e)) h

-- ---- a holder with other fields

abbrev pub edited : Holder → ℕ → Held → Held
edited holder day m = cond (has_handle holder.handle m) (holder, day) m

pub handle_of_edited : (holder : Holder) (day : ℕ) (m : Held) → (edited holder day m).0.handle ≡ m.0.handle
handle_of_edited holder day m =
    cond_both (has_handle holder.handle m) (holder, day) m (λ y. y.0.handle ≡ m.0.handle)
    (λ e. sym ((bytes_eq-Decides m.0.handle holder.handle).0 e))
    (λ e. refl)

pub number_after_editing : (hs : List Held) (holder : Holder) (day : ℕ) (handle : List ℕ) → holder_number (edited_holder hs holder day) handle ≡ holder_number hs handle
number_after_editing hs holder day handle =
    number_is (edited_holder hs holder day) handle
    ∙ same_tests (has_handle handle) (edited holder day) (λ m. ap (λ x. bytes_eq x handle) (handle_of_edited holder day m)) 0 hs
    ∙ sym (number_is hs handle)

find_in_edited : (handle : List ℕ) (holder : Holder) (day : ℕ) (hs : List Held) → find (has_handle handle) hs ≡ None
    → find (has_handle handle) (edited_holder hs holder day) ≡ None
find_in_edited handle holder day [] e = refl
find_in_edited handle holder day (m ∷ hs) e =
    let parts = find_parts handle m hs e in
    let q : Held = edited holder day m in
    cond-false (has_handle handle q) (Some q) (find (has_handle handle) (edited_holder hs holder day))
    (ap (λ x. bytes_eq x handle) (handle_of_edited holder day m) ∙ parts.0)
    ∙ find_in_edited handle holder day hs parts.1

pub distinct_after_editing : (holder : Holder) (day : ℕ) (hs : List Held) → HaveDistinctHandles hs → HaveDistinctHandles (edited_holder hs holder day)
distinct_after_editing holder day [] h = tt
distinct_after_editing holder day (m ∷ hs) h = (
  subst (λ handle. holder_named (edited_holder hs holder day) handle ≡ None) (sym (handle_of_edited holder day m))
      (ap (option_map (λ x. x.0)) (find_in_edited m.0.handle holder day hs (none_of_map (find (has_handle m.0.handle) hs) h.0))),
  distinct_after_editing holder day hs h.1,
)

untouched : (holder : Holder) (day : ℕ) (hs : List Held) → find (has_handle holder.handle) hs ≡ None → edited_holder hs holder day ≡ hs
untouched holder day [] e = refl
untouched holder day (m ∷ hs) e =
    let parts = find_parts holder.handle m hs e in
    ap (λ q. q ∷ edited_holder hs holder day) (cond-false (has_handle holder.handle m) (holder, day) m parts.0)
    ∙ ap (λ qs. m ∷ qs) (untouched holder day hs parts.1)

set_from : (holder : Holder) (day i k : ℕ) (hs : List Held) → HaveDistinctHandles hs → position_from (has_handle holder.handle) i hs ≡ Some (i + k)
    → slice_set hs k (holder, day) ≡ edited_holder hs holder day
set_from holder day i k [] h e = absurd (none-some (i + k) e)
set_from holder day i zero (m ∷ hs) h e = elim (cases_Bool (has_handle holder.handle m)) [
  | inl t ↦
      let same : m.0.handle ≡ holder.handle = (bytes_eq-Decides m.0.handle holder.handle).0 t in
      let none : find (has_handle holder.handle) hs ≡ None =
      subst (λ handle. find (has_handle handle) hs ≡ None) same (none_of_map (find (has_handle m.0.handle) hs) h.0) in
      sym (ap (λ q. q ∷ edited_holder hs holder day) (cond-true (has_handle holder.handle m) (holder, day) m t)
      ∙ ap (λ qs. (holder, day) ∷ qs) (untouched holder day hs none))
  | inr f ↦
      let at = past (has_handle holder.handle) (i + 1) (i + 0) hs (sym (later_is (has_handle holder.handle) i m hs f) ∙ e) in
      absurd (omega (arith, at.1))
]
set_from holder day i (suc k) (m ∷ hs) h e = elim (cases_Bool (has_handle holder.handle m)) [
  | inl t ↦
      let same : i ≡ i + suc k = cc (sym (first_is (has_handle holder.handle) i m hs t) ∙ e) in
      absurd (omega arith)
  | inr f ↦
      let on : i + suc k ≡ i + 1 + k = omega arith in
      ap (λ qs. m ∷ qs) (set_from holder day (i + 1) k hs h.1 (sym (later_is (has_handle holder.handle) i m hs f) ∙ e ∙ ap Some on))
      ∙ ap (λ q. q ∷ edited_holder hs holder day) (sym (cond-false (has_handle holder.handle m) (holder, day) m f))
]

pub edited_in_place : (hs : List Held) (holder : Holder) (day number : ℕ) → HaveDistinctHandles hs → holder_number hs holder.handle ≡ Some number
    → slice_set hs number (holder, day) ≡ edited_holder hs holder day
edited_in_place hs holder day number h e =
    let at : number ≡ 0 + number = omega arith in
    set_from holder day 0 number hs h (sym (number_is hs holder.handle) ∙ e ∙ ap Some at)
