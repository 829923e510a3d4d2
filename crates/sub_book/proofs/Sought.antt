-- What is found among ranges apart: it is the first that ends at a number or above, or nothing is.
use Rattle.std.proofs.Common.{◌≡◌, ℕ, ◌+◌, ◌-◌, ◌≤◌, suc, Bool, true, false, ◌&&◌, ◌||◌, ◌==◌, cond, nat_lt, nat_le, List, [], ◌∷◌, drop, Option, None, Some, find, filter, inl, inr, refl, sym, ◌∙◌, ap, subst, arith}
use Rattle.std.proofs.lemmas.Bool.{and_parts, cases_Bool, cond-true, cond-false, false_from_ne_true, false≢true}
use Rattle.std.proofs.lemmas.Bool.Decides.{nat_tests}
use Rattle.std.specs.List.{AllByRecursion, slice_get}
use Rattle.std.specs.Option.{option_to_list}
use Rattle.num_range.specs.Number.{PlainNumber, number_before}
use Rattle.num_range.specs.Range.{PlainRange, IsRange, first_number, same_range, range_holds, lies_inside, ranges_meet}
use Rattle.num_range.specs.Space.{space_rank}
use Rattle.reg_entry.specs.Ranges.{IsBelow, AreApart}
use Rattle.sub_book.specs.Order.{ends_below, ended_below}
use Rattle.sub_book.specs.Walk.{MeetFirst}
use Rattle.sub_book.proofs.ApartLists.{AllAbove, Apart, apart_of}

-- no range that ends below the number passes, and where one passes, so does the first that ends at the number or above
pub record IsSought (n : PlainNumber) (test : PlainRange → Bool) : Type 0 where
  pub late : (p : PlainRange) → test p ≡ true → ends_below n p ≡ false
  pub first : (p q : PlainRange) → IsRange p → IsBelow p q → ends_below n p ≡ false → test q ≡ true → test p ≡ true

-- ---- the tests

abbrev pub meets : PlainRange → PlainRange → Bool
meets r p = ranges_meet p r

abbrev pub encloses : PlainRange → PlainRange → Bool
encloses r p = lies_inside r p

abbrev pub is_range : PlainRange → PlainRange → Bool
is_range r p = same_range p r

abbrev pub straddles : PlainNumber → PlainRange → Bool
straddles at p = range_holds p at && range_holds p (number_before at)

meets_late : (a s pf pl rf rl : ℕ) → ((a == s) && nat_le pf rl && nat_le rf pl) ≡ true → (nat_lt a s || ((a == s) && nat_lt pl rf)) ≡ false
meets_late a s pf pl rf rl h = grind (arith, nat_tests)

meets_first : (a b s pf pl qf ql rf rl : ℕ) → pf ≤ pl → (nat_lt a b || ((a == b) && nat_lt pl qf)) ≡ true → (nat_lt a s || ((a == s) && nat_lt pl rf)) ≡ false
    → ((b == s) && nat_le qf rl && nat_le rf ql) ≡ true → ((a == s) && nat_le pf rl && nat_le rf pl) ≡ true
meets_first a b s pf pl qf ql rf rl o h k e = grind (arith, nat_tests)

pub meeting : (r : PlainRange) → IsSought (first_number r) (meets r)
meeting r = record {
  late = λ p e. meets_late (space_rank p.space) (space_rank r.space) p.first p.last r.first r.last e;
  first = λ p q range below from e. meets_first (space_rank p.space) (space_rank q.space) (space_rank r.space) p.first p.last q.first q.last r.first r.last range.0 below from e;
}

encloses_late : (a s pf pl rf rl : ℕ) → rf ≤ rl → ((s == a) && nat_le pf rf && nat_le rl pl) ≡ true → (nat_lt a s || ((a == s) && nat_lt pl rf)) ≡ false
encloses_late a s pf pl rf rl o h = grind (arith, nat_tests)

encloses_first : (a b s pf pl qf ql rf rl : ℕ) → (nat_lt a b || ((a == b) && nat_lt pl qf)) ≡ true → (nat_lt a s || ((a == s) && nat_lt pl rf)) ≡ false
    → ((s == b) && nat_le qf rf && nat_le rl ql) ≡ true → ((s == a) && nat_le pf rf && nat_le rl pl) ≡ true
encloses_first a b s pf pl qf ql rf rl h k e = grind (arith, nat_tests)

pub enclosed : (r : PlainRange) → IsRange r → IsSought (first_number r) (encloses r)
enclosed r valid = record {
  late = λ p e. encloses_late (space_rank p.space) (space_rank r.space) p.first p.last r.first r.last valid.0 e;
  first = λ p q range below from e. encloses_first (space_rank p.space) (space_rank q.space) (space_rank r.space) p.first p.last q.first q.last r.first r.last below from e;
}

same_late : (a s pf pl rf rl : ℕ) → rf ≤ rl → ((a == s) && (pf == rf) && (pl == rl)) ≡ true → (nat_lt a s || ((a == s) && nat_lt pl rf)) ≡ false
same_late a s pf pl rf rl o h = grind (arith, nat_tests)

same_first : (a b s pf pl qf ql rf rl : ℕ) → (nat_lt a b || ((a == b) && nat_lt pl qf)) ≡ true → (nat_lt a s || ((a == s) && nat_lt pl rf)) ≡ false
    → ((b == s) && (qf == rf) && (ql == rl)) ≡ true → ((a == s) && (pf == rf) && (pl == rl)) ≡ true
same_first a b s pf pl qf ql rf rl h k e = grind (arith, nat_tests)

pub exact : (r : PlainRange) → IsRange r → IsSought (first_number r) (is_range r)
exact r valid = record {
  late = λ p e. same_late (space_rank p.space) (space_rank r.space) p.first p.last r.first r.last valid.0 e;
  first = λ p q range below from e. same_first (space_rank p.space) (space_rank q.space) (space_rank r.space) p.first p.last q.first q.last r.first r.last below from e;
}

straddles_late : (a s pf pl x y : ℕ) → (((a == s) && nat_le pf x && nat_le x pl) && ((a == s) && nat_le pf y && nat_le y pl)) ≡ true
    → (nat_lt a s || ((a == s) && nat_lt pl x)) ≡ false
straddles_late a s pf pl x y h = grind (arith, nat_tests)

holds_once : (a b s pf pl qf ql x : ℕ) → (nat_lt a b || ((a == b) && nat_lt pl qf)) ≡ true → (nat_lt a s || ((a == s) && nat_lt pl x)) ≡ false
    → ((b == s) && nat_le qf x && nat_le x ql) ≡ true → ⊥
holds_once a b s pf pl qf ql x h k e = grind (arith, nat_tests)

pub straddled : (at : PlainNumber) → IsSought at (straddles at)
straddled at = record {
  late = λ p e. straddles_late (space_rank p.space) (space_rank at.space) p.first p.last at.value (at.value - 1) e;
  first = λ p q range below from e.
      absurd (holds_once (space_rank p.space) (space_rank q.space) (space_rank at.space) p.first p.last q.first q.last at.value below from
      (and_parts (range_holds q at) (range_holds q (number_before at)) e).0);
}

-- ---- what is found

abbrev pub kept : {V : Type 0} → (PlainRange → Bool) → Option (PlainRange × V) → Option (PlainRange × V)
kept test None = None
kept test (Some p) = cond (test p.0) (Some p) None

pub none_behind : {V : Type 0} (n : PlainNumber) (test : PlainRange → Bool) (p : PlainRange) (ps : List (PlainRange × V)) → IsSought n test → IsRange p
    → AllAbove p ps → ends_below n p ≡ false → test p ≡ false → AllByRecursion (λ q. test q.0 ≡ false) ps
none_behind n test p [] s range above from e = tt
none_behind n test p (q ∷ ps) s range above from e =
    (false_from_ne_true (test q.0) (λ t. false≢true (sym e ∙ s.first p q.0 range above.0 from t)), none_behind n test p ps s range above.1 from e)

pub find_none : {V : Type 0} (test : PlainRange → Bool) (ps : List (PlainRange × V)) → AllByRecursion (λ q. test q.0 ≡ false) ps → find (λ p. test p.0) ps ≡ None
find_none test [] h = refl
find_none test (p ∷ ps) h = cond-false (test p.0) (Some p) (find (λ q. test q.0) ps) h.0 ∙ find_none test ps h.1

pub filter_none : {V : Type 0} (test : PlainRange → Bool) (ps : List (PlainRange × V)) → AllByRecursion (λ q. test q.0 ≡ false) ps → filter (λ p. test p.0) ps ≡ []
filter_none test [] h = refl
filter_none test (p ∷ ps) h = cond-false (test p.0) (p ∷ filter (λ q. test q.0) ps) (filter (λ q. test q.0) ps) h.0 ∙ filter_none test ps h.1

-- a range that ends below the number is one place more, and one that doesn't is the first
pub place_past : {V : Type 0} (n : PlainNumber) (p : PlainRange × V) (ps : List (PlainRange × V)) → ends_below n p.0 ≡ true → ended_below n (p ∷ ps) ≡ suc (ended_below n ps)
place_past n p ps e = cond-true (ends_below n p.0) (1 + ended_below n ps) 0 e ∙ omega arith

pub place_here : {V : Type 0} (n : PlainNumber) (p : PlainRange × V) (ps : List (PlainRange × V)) → ends_below n p.0 ≡ false → ended_below n (p ∷ ps) ≡ 0
place_here n p ps e = cond-false (ends_below n p.0) (1 + ended_below n ps) 0 e

pub fails_past : (n : PlainNumber) (test : PlainRange → Bool) (p : PlainRange) → IsSought n test → ends_below n p ≡ true → test p ≡ false
fails_past n test p s e = false_from_ne_true (test p) (λ t. false≢true (sym (s.late p t) ∙ e))

here : {V : Type 0} (n : PlainNumber) (test : PlainRange → Bool) (p : PlainRange × V) (ps : List (PlainRange × V)) → IsSought n test → IsRange p.0
    → AllAbove p.0 ps → ends_below n p.0 ≡ false → find (λ q. test q.0) (p ∷ ps) ≡ kept test (Some p)
here n test p ps s range above e = elim (cases_Bool (test p.0)) [
  | inl t ↦ cond-true (test p.0) (Some p) (find (λ q. test q.0) ps) t ∙ sym (cond-true (test p.0) (Some p) None t)
  | inr t ↦
      cond-false (test p.0) (Some p) (find (λ q. test q.0) ps) t
      ∙ find_none test ps (none_behind n test p.0 ps s range above e t)
      ∙ sym (cond-false (test p.0) (Some p) None t)
]

found : {V : Type 0} (n : PlainNumber) (test : PlainRange → Bool) (ps : List (PlainRange × V)) → IsSought n test → Apart ps
    → find (λ p. test p.0) ps ≡ kept test (slice_get ps (ended_below n ps))
found n test [] s h = refl
found n test (p ∷ ps) s h = elim (cases_Bool (ends_below n p.0)) [
  | inl e ↦
      cond-false (test p.0) (Some p) (find (λ q. test q.0) ps) (fails_past n test p.0 s e)
      ∙ found n test ps s h.2
      ∙ ap (λ (i : ℕ). kept test (slice_get (p ∷ ps) i)) (sym (place_past n p ps e))
  | inr e ↦
      here n test p ps s h.0 h.1 e ∙ ap (λ (i : ℕ). kept test (slice_get (p ∷ ps) i)) (sym (place_here n p ps e))
]

-- the next range that ends at the number or above passes, or fails, or there is none
pub passes : {V : Type 0} {n : PlainNumber} {test : PlainRange → Bool} (s : IsSought n test) (ps : List (PlainRange × V)) (p : PlainRange × V) → AreApart ps
    → slice_get ps (ended_below n ps) ≡ Some p → test p.0 ≡ true → find (λ q. test q.0) ps ≡ Some p
passes {V = V} {n = n} {test = test} s ps p h e t =
    found n test ps s (apart_of ps h) ∙ ap (λ (o : Option (PlainRange × V)). kept test o) e ∙ cond-true (test p.0) (Some p) None t

pub fails : {V : Type 0} {n : PlainNumber} {test : PlainRange → Bool} (s : IsSought n test) (ps : List (PlainRange × V)) (p : PlainRange × V) → AreApart ps
    → slice_get ps (ended_below n ps) ≡ Some p → test p.0 ≡ false → find (λ q. test q.0) ps ≡ None
fails {V = V} {n = n} {test = test} s ps p h e t =
    found n test ps s (apart_of ps h) ∙ ap (λ (o : Option (PlainRange × V)). kept test o) e ∙ cond-false (test p.0) (Some p) None t

pub is_absent : {V : Type 0} {n : PlainNumber} {test : PlainRange → Bool} (s : IsSought n test) (ps : List (PlainRange × V)) → AreApart ps
    → slice_get ps (ended_below n ps) ≡ None → find (λ q. test q.0) ps ≡ None
is_absent {V = V} {n = n} {test = test} s ps h e = found n test ps s (apart_of ps h) ∙ ap (λ (o : Option (PlainRange × V)). kept test o) e

-- ---- only one range encloses another

enclosed_once : (a b s pf pl qf ql rf rl : ℕ) → rf ≤ rl → (nat_lt a b || ((a == b) && nat_lt pl qf)) ≡ true → ((s == a) && nat_le pf rf && nat_le rl pl) ≡ true
    → ((s == b) && nat_le qf rf && nat_le rl ql) ≡ false
enclosed_once a b s pf pl qf ql rf rl o h e = grind (arith, nat_tests)

none_more : {V : Type 0} (r p : PlainRange) (ps : List (PlainRange × V)) → IsRange r → AllAbove p ps → encloses r p ≡ true → AllByRecursion (λ q. encloses r q.0 ≡ false) ps
none_more r p [] range above e = tt
none_more r p (q ∷ ps) range above e = (
  enclosed_once (space_rank p.space) (space_rank q.0.space) (space_rank r.space) p.first p.last q.0.first q.0.last r.first r.last range.0 above.0 e,
  none_more r p ps range above.1 e,
)

one_encloses : {V : Type 0} (r : PlainRange) (ps : List (PlainRange × V)) → IsRange r → Apart ps
    → filter (λ q. encloses r q.0) ps ≡ option_to_list (find (λ q. encloses r q.0) ps)
one_encloses {V} r [] range apart = refl
one_encloses {V} r (p ∷ ps) range apart = elim (cases_Bool (encloses r p.0)) [
  | inl e ↦
      cond-true (encloses r p.0) (p ∷ filter (λ q. encloses r q.0) ps) (filter (λ q. encloses r q.0) ps) e
      ∙ ap (λ (xs : List (PlainRange × V)). p ∷ xs) (filter_none (encloses r) ps (none_more r p.0 ps range apart.1 e))
      ∙ ap (λ (o : Option (PlainRange × V)). option_to_list o) (sym (cond-true (encloses r p.0) (Some p) (find (λ q. encloses r q.0) ps) e))
  | inr e ↦
      cond-false (encloses r p.0) (p ∷ filter (λ q. encloses r q.0) ps) (filter (λ q. encloses r q.0) ps) e
      ∙ one_encloses r ps range apart.2
      ∙ ap (λ (o : Option (PlainRange × V)). option_to_list o) (sym (cond-false (encloses r p.0) (Some p) (find (λ q. encloses r q.0) ps) e))
]

pub only_one : {V : Type 0} (r : PlainRange) (ps : List (PlainRange × V)) (o : Option (PlainRange × V)) → IsRange r → AreApart ps → o ≡ find (λ q. encloses r q.0) ps
    → filter (λ q. encloses r q.0) ps ≡ option_to_list o
only_one {V} r ps o range h e = one_encloses r ps range (apart_of ps h) ∙ ap (λ (p : Option (PlainRange × V)). option_to_list p) (sym e)

-- ---- those that meet a range

later_numbers : (a b s pl qf ql x : ℕ) → qf ≤ ql → (nat_lt a b || ((a == b) && nat_lt pl qf)) ≡ true → (nat_lt a s || ((a == s) && nat_lt pl x)) ≡ false
    → (nat_lt b s || ((b == s) && nat_lt ql x)) ≡ false
later_numbers a b s pl qf ql x o h k = grind (arith, nat_tests)

pub none_ends_below : {V : Type 0} (n : PlainNumber) (p : PlainRange) (ps : List (PlainRange × V)) → Apart ps → AllAbove p ps → ends_below n p ≡ false
    → AllByRecursion (λ q. ends_below n q.0 ≡ false) ps
none_ends_below n p [] apart above e = tt
none_ends_below n p (q ∷ ps) apart above e = (
  later_numbers (space_rank p.space) (space_rank q.0.space) (space_rank n.space) p.last q.0.first q.0.last n.value apart.0.0 above.0 e,
  none_ends_below n p ps apart.2 above.1 e,
)

pub filter_past : {V : Type 0} (n : PlainNumber) (test : PlainRange → Bool) (ps : List (PlainRange × V)) → IsSought n test
    → filter (λ p. test p.0) (drop (ended_below n ps) ps) ≡ filter (λ p. test p.0) ps
filter_past n test [] s = refl
filter_past n test (p ∷ ps) s = elim (cases_Bool (ends_below n p.0)) [
  | inl e ↦
      ap (λ (i : ℕ). filter (λ q. test q.0) (drop i (p ∷ ps))) (place_past n p ps e)
      ∙ filter_past n test ps s
      ∙ sym (cond-false (test p.0) (p ∷ filter (λ q. test q.0) ps) (filter (λ q. test q.0) ps) (fails_past n test p.0 s e))
  | inr e ↦ ap (λ (i : ℕ). filter (λ q. test q.0) (drop i (p ∷ ps))) (place_here n p ps e)
]

meet_first_from : {V : Type 0} (r : PlainRange) (ps : List (PlainRange × V)) → Apart ps → AllByRecursion (λ q. ends_below (first_number r) q.0 ≡ false) ps → MeetFirst r ps
meet_first_from r [] apart from = tt
meet_first_from r (p ∷ ps) apart from =
    (λ e. filter_none (meets r) ps (none_behind (first_number r) (meets r) p.0 ps (meeting r) apart.0 apart.1 from.0 e), meet_first_from r ps apart.2 from.1)

meet_first : {V : Type 0} (r : PlainRange) (ps : List (PlainRange × V)) → Apart ps → MeetFirst r (drop (ended_below (first_number r) ps) ps)
meet_first r [] apart = tt
meet_first r (p ∷ ps) apart = elim (cases_Bool (ends_below (first_number r) p.0)) [
  | inl e ↦ subst (λ (i : ℕ). MeetFirst r (drop i (p ∷ ps))) (sym (place_past (first_number r) p ps e)) (meet_first r ps apart.2)
  | inr e ↦
      subst (λ (i : ℕ). MeetFirst r (drop i (p ∷ ps))) (sym (place_here (first_number r) p ps e))
      (meet_first_from r (p ∷ ps) apart (e, none_ends_below (first_number r) p.0 ps apart.2 apart.1 e))
]

pub meet_first_of : {V : Type 0} (r : PlainRange) (ps : List (PlainRange × V)) → AreApart ps → MeetFirst r (drop (ended_below (first_number r) ps) ps)
meet_first_of r ps h = meet_first r ps (apart_of ps h)
