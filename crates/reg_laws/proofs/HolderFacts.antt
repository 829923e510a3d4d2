-- The number that a handle has, and what a holder more or other fields of one keep.
use Rattle.std.proofs.Common.{◌≡◌, ℕ, ◌+◌, ◌<◌, ◌≤◌, Bool, true, false, cond, nat_lt, inl, inr, List, [], ◌∷◌, ◌++◌, None, Some, find, length, refl, sym, ◌∙◌, ap, subst, arith}
use Rattle.std.specs.Option.{is_some, option_map}
use Rattle.std.specs.List.{position_or_len}
use Rattle.std.specs.Str.{bytes_eq}
use Rattle.std.proofs.lemmas.Bool.{cond_both, cond-true, cond-false, cases_Bool, both_ways, ltb-true, ltb-false, false_from_ne_true}
use Rattle.std.proofs.lemmas.List.{length-map}
use Rattle.std.proofs.lemmas.List.Folds.{find_at}
use Rattle.std.proofs.lemmas.Option.{none-some, cond_some, slice_get_past}
use Rattle.reg_entry.specs.declared.holder.Holder.{Holder}
use Rattle.reg_entry.specs.Holders.{has_handle, holder_number, holder_named, added_holder, edited_holder, HaveDistinctHandles}
use Rattle.reg_entry.specs.Register.{Register}
use Rattle.reg_entry.specs.Whole.{IsDayIn, HaveDaysIn}
use Rattle.reg_laws.proofs.Sameness.{bytes_eq-true, bytes_eq-refl}
use Rattle.reg_laws.proofs.Accepting.{map_none}

-- ---- the number of a handle

abbrev place_of : List (Holder × ℕ) → List ℕ → ℕ
place_of hs handle = position_or_len (has_handle handle) hs

pub number_is_there : (hs : List (Holder × ℕ)) (handle : List ℕ) (number : ℕ) → holder_number hs handle ≡ Some number → number < length hs
number_is_there hs handle number e =
    let p = cond_some (nat_lt (place_of hs handle) (length hs)) (place_of hs handle) number e in
    subst (λ n. n < length hs) p.1 (ltb-true (place_of hs handle) (length hs) p.0)

-- no holder has a handle without a number
pub none_with_handle : (hs : List (Holder × ℕ)) (handle : List ℕ) → is_some (holder_number hs handle) ≡ false → find (has_handle handle) hs ≡ None
none_with_handle hs handle e =
    let k : ℕ = place_of hs handle in
    find_at (has_handle handle) hs ∙ slice_get_past hs k (ltb-false k (length hs) (past (nat_lt k (length hs)) k e))
  where
    past : (b : Bool) (k : ℕ) → is_some (cond b (Some k) None) ≡ false → b ≡ false
    past true k e = absurd (both_ways true e refl)
    past false k e = refl

-- ---- handles differ

pub find_rest : (handle : List ℕ) (m : Holder × ℕ) (hs : List (Holder × ℕ)) → find (has_handle handle) (m ∷ hs) ≡ None
    → (has_handle handle m ≡ false) × (find (has_handle handle) hs ≡ None)
find_rest handle m hs e =
    elim (cases_Bool (has_handle handle m)) [
      | inl t ↦ absurd (none-some m (sym e ∙ cond-true (has_handle handle m) (Some m) (find (has_handle handle) hs) t))
      | inr f ↦ (f, sym (cond-false (has_handle handle m) (Some m) (find (has_handle handle) hs) f) ∙ e)
    ]

find_in_more : (handle : List ℕ) (hs : List (Holder × ℕ)) (m : Holder × ℕ) → find (has_handle handle) hs ≡ None → has_handle handle m ≡ false
    → find (has_handle handle) (hs ++ m ∷ []) ≡ None
find_in_more handle [] m e f = cond-false (has_handle handle m) (Some m) None f
find_in_more handle (q ∷ hs) m e f =
    let p = find_rest handle q hs e in
    cond-false (has_handle handle q) (Some q) (find (has_handle handle) (hs ++ m ∷ [])) p.0 ∙ find_in_more handle hs m p.1 f

pub other_way : (a b : List ℕ) → bytes_eq a b ≡ false → bytes_eq b a ≡ false
other_way a b f =
    false_from_ne_true (bytes_eq b a) (λ t. both_ways (bytes_eq a b) f (ap (λ x. bytes_eq a x) (bytes_eq-true b a t) ∙ bytes_eq-refl a))

pub handles_after_adding : (hs : List (Holder × ℕ)) (m : Holder × ℕ) → find (has_handle m.0.handle) hs ≡ None → HaveDistinctHandles hs
    → HaveDistinctHandles (hs ++ m ∷ [])
handles_after_adding [] m e h = (refl, tt)
handles_after_adding (q ∷ hs) m e h =
    let p = find_rest m.0.handle q hs e in (
      ap (option_map (λ x. x.0)) (find_in_more q.0.handle hs m (map_none (λ x. x.0) (find (has_handle q.0.handle) hs) h.0) (other_way q.0.handle m.0.handle p.0)),
      handles_after_adding hs m p.1 h.1,
    )

-- the holder with other fields, where it is the one of this handle
abbrev pub edited : Holder → ℕ → Holder × ℕ → Holder × ℕ
edited holder day m = cond (has_handle holder.handle m) (holder, day) m

handle_of_edited : (holder : Holder) (day : ℕ) (m : Holder × ℕ) → (edited holder day m).0.handle ≡ m.0.handle
handle_of_edited holder day m =
    cond_both (has_handle holder.handle m) (holder, day) m (λ y. y.0.handle ≡ m.0.handle)
    (λ e. sym (bytes_eq-true m.0.handle holder.handle e))
    (λ e. refl)

find_in_edited : (handle : List ℕ) (holder : Holder) (day : ℕ) (hs : List (Holder × ℕ)) → find (has_handle handle) hs ≡ None
    → find (has_handle handle) (edited_holder hs holder day) ≡ None
find_in_edited handle holder day [] e = refl
find_in_edited handle holder day (m ∷ hs) e =
    let p = find_rest handle m hs e in
    let q : Holder × ℕ = edited holder day m in
    cond-false (has_handle handle q) (Some q) (find (has_handle handle) (edited_holder hs holder day))
    (ap (λ x. bytes_eq x handle) (handle_of_edited holder day m) ∙ p.0)
    ∙ find_in_edited handle holder day hs p.1

pub handles_after_editing : (holder : Holder) (day : ℕ) (hs : List (Holder × ℕ)) → HaveDistinctHandles hs
    → HaveDistinctHandles (edited_holder hs holder day)
handles_after_editing holder day [] h = tt
handles_after_editing holder day (m ∷ hs) h = (
  subst (λ handle. holder_named (edited_holder hs holder day) handle ≡ None) (sym (handle_of_edited holder day m))
      (ap (option_map (λ x. x.0)) (find_in_edited m.0.handle holder day hs (map_none (λ x. x.0) (find (has_handle m.0.handle) hs) h.0))),
  handles_after_editing holder day hs h.1,
)

-- ---- days, and how many there are

pub days_moved : (r s : Register) (hs : List (Holder × ℕ)) → r.last_day ≤ s.last_day → HaveDaysIn r hs → HaveDaysIn s hs
days_moved r s [] h days = tt
days_moved r s (m ∷ hs) h days = ((days.0.0, let d = days.0.1 in omega arith), days_moved r s hs h days.1)

pub days_after_adding : (r : Register) (hs : List (Holder × ℕ)) (holder : Holder) (day : ℕ) → HaveDaysIn r hs → IsDayIn r day
    → HaveDaysIn r (added_holder hs holder day)
days_after_adding r [] holder day h new = (new, tt)
days_after_adding r (m ∷ hs) holder day h new = (h.0, days_after_adding r hs holder day h.1 new)

pub days_after_editing : (r : Register) (hs : List (Holder × ℕ)) (holder : Holder) (day : ℕ) → HaveDaysIn r hs → IsDayIn r day
    → HaveDaysIn r (edited_holder hs holder day)
days_after_editing r [] holder day h new = tt
days_after_editing r (m ∷ hs) holder day h new =
    (cond_both (has_handle holder.handle m) (holder, day) m (λ y. IsDayIn r y.1) (λ e. new) (λ e. h.0), days_after_editing r hs holder day h.1 new)

pub length_added : (hs : List (Holder × ℕ)) (holder : Holder) (day : ℕ) → length (added_holder hs holder day) ≡ length hs + 1
length_added [] holder day = omega arith
length_added (m ∷ hs) holder day = let rest : length (added_holder hs holder day) ≡ length hs + 1 = length_added hs holder day in omega arith

pub length_edited : (hs : List (Holder × ℕ)) (holder : Holder) (day : ℕ) → length (edited_holder hs holder day) ≡ length hs
length_edited hs holder day = length-map hs (edited holder day)
