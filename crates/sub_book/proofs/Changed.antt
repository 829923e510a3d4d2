-- Each change of ranges apart is one splice, and leaves them apart.
use Rattle.std.proofs.Common.{◌≡◌, ℕ, ◌+◌, ◌<◌, ◌≤◌, suc, Bool, true, false, not, ◌&&◌, ◌||◌, ◌==◌, cond, nat_lt, nat_le, List, [], ◌∷◌, ◌++◌, length, take, drop, Option, None, Some, is_some, find, filter, ◌⊎◌, inl, inr, length-append, length-drop, length-take, refl, sym, ◌∙◌, ap, subst, arith}
use Rattle.std.proofs.lemmas.Bool.{cases_Bool, cond_both, cond-true, cond-false, false_from_ne_true, false≢true, not_from_true, not_from_false}
use Rattle.std.proofs.lemmas.Bool.Decides.{nat_tests}
use Rattle.std.proofs.lemmas.Option.{none-some}
use Rattle.std.specs.List.{AllByRecursion}
use Rattle.std.specs.Option.{option_map}
use Rattle.num_range.specs.Range.{PlainRange, IsRange, first_number, same_range, range_before, lies_inside}
use Rattle.num_range.specs.Space.{space_rank}
use Rattle.reg_entry.specs.Ranges.{IsBelow, AreApart, value_of_range, first_meeting, ranges_inside, with_range, without_range, without_inside}
use Rattle.page_dir.specs.Splices.{spliced}
use Rattle.sub_book.specs.Book.{NoneStraddles}
use Rattle.sub_book.specs.Order.{ends_below, ended_below}
use Rattle.sub_book.proofs.ApartLists.{AllAbove, Apart, all_above, apart_of, are_apart, are_apart_kept}
use Rattle.sub_book.proofs.Sought.{meets, is_range, meeting, exact, none_behind, find_none, filter_none, place_past, place_here, fails_past, none_ends_below}

-- ---- splices

spliced_more : {X : Type 0} (at n : ℕ) (new : List X) (x : X) (xs : List X) → spliced (suc at) n new (x ∷ xs) ≡ x ∷ spliced at n new xs
spliced_more at n new x xs =
    let e : suc at + n ≡ suc (at + n) = omega arith in
    ap (λ (m : ℕ). x ∷ (take at xs ++ (new ++ drop m (x ∷ xs)))) e

-- a splice behind a range that ends below the number
past : {V : Type 0} (r : PlainRange) (n : ℕ) (new : List (PlainRange × V)) (p : PlainRange × V) (ps : List (PlainRange × V)) → ends_below (first_number r) p.0 ≡ true
    → spliced (ended_below (first_number r) (p ∷ ps)) n new (p ∷ ps) ≡ p ∷ spliced (ended_below (first_number r) ps) n new ps
past r n new p ps e =
    ap (λ (at : ℕ). spliced at n new (p ∷ ps)) (place_past (first_number r) p ps e)
    ∙ spliced_more (ended_below (first_number r) ps) n new p ps

-- ---- whether a range is there

some_map : {X Y : Type 0} (f : X → Y) (o : Option X) → is_some (option_map f o) ≡ is_some o
some_map f None = refl
some_map f (Some x) = refl

none_map : {X Y : Type 0} (f : X → Y) (o : Option X) → o ≡ None → option_map f o ≡ None
none_map f None e = refl
none_map f (Some x) e = absurd (cc)

none_is : {X : Type 0} (o : Option X) → o ≡ None → is_some o ≡ false
none_is {X} o e = ap (λ (p : Option X). is_some p) e

none_from : {X : Type 0} (o : Option X) → is_some o ≡ false → o ≡ None
none_from None e = refl
none_from (Some x) e = absurd (false≢true (sym e))

some_not : {X : Type 0} (o : Option X) → o ≡ None → is_some o ≡ true → ⊥
some_not o e t = false≢true (sym (none_is o e) ∙ t)

pub within_place : {V : Type 0} (r : PlainRange) (ps : List (PlainRange × V)) → ended_below (first_number r) ps ≤ length ps
within_place r [] = omega arith
within_place r (p ∷ ps) = elim (cases_Bool (ends_below (first_number r) p.0)) [
  | inl e ↦ let one = place_past (first_number r) p ps e in let rest = within_place r ps in omega arith
  | inr e ↦ let none = place_here (first_number r) p ps e in omega arith
]

there_place : {V : Type 0} (r : PlainRange) (ps : List (PlainRange × V)) → IsRange r → is_some (find (λ p. is_range r p.0) ps) ≡ true
    → ended_below (first_number r) ps + 1 ≤ length ps
there_place r [] range t = absurd (false≢true t)
there_place {V} r (p ∷ ps) range t = elim (cases_Bool (ends_below (first_number r) p.0)) [
  | inl e ↦
      let one = place_past (first_number r) p ps e in
      let skips = cond-false (is_range r p.0) (Some p) (find (λ q. is_range r q.0) ps) (fails_past (first_number r) (is_range r) p.0 (exact r range) e) in
      let rest = there_place r ps range (sym (ap (λ (o : Option (PlainRange × V)). is_some o) skips) ∙ t) in
      omega arith
  | inr e ↦ let none = place_here (first_number r) p ps e in omega arith
]

-- ---- a range with its value

not_before_numbers : (a s pf pl rf rl : ℕ) → pf ≤ pl → (nat_lt a s || ((a == s) && nat_lt pl rf)) ≡ true
    → (nat_lt s a || ((s == a) && (nat_lt rf pf || ((rf == pf) && nat_lt rl pl)))) ≡ false
not_before_numbers a s pf pl rf rl o h = grind (arith, nat_tests)

before_numbers : (a s pf pl rf rl : ℕ) → pf ≤ pl → rf ≤ rl → (nat_lt a s || ((a == s) && nat_lt pl rf)) ≡ false
    → ((a == s) && nat_le pf rl && nat_le rf pl) ≡ false
    → (nat_lt s a || ((s == a) && (nat_lt rf pf || ((rf == pf) && nat_lt rl pl)))) ≡ true
before_numbers a s pf pl rf rl o k h m = grind (arith, nat_tests)

-- where the range isn't there, none meets it
abbrev pub IsFree : {V : Type 0} → PlainRange → List (PlainRange × V) → Type 0
IsFree r ps = find (λ p. is_range r p.0) ps ≡ None → find (λ p. meets r p.0) ps ≡ None

abbrev pub count_there : {V : Type 0} → PlainRange → List (PlainRange × V) → ℕ
count_there r ps = cond (is_some (find (λ p. is_range r p.0) ps)) 1 0

with_past : {V : Type 0} (r : PlainRange) (x : V) (p : PlainRange × V) (ps : List (PlainRange × V)) → IsRange r → IsRange p.0 → ends_below (first_number r) p.0 ≡ true
    → with_range (p ∷ ps) r x ≡ p ∷ with_range ps r x
with_past r x p ps range valid e =
    cond-false (same_range p.0 r) ((r, x) ∷ ps) (cond (range_before r p.0) ((r, x) ∷ p ∷ ps) (p ∷ with_range ps r x)) (fails_past (first_number r) (is_range r) p.0 (exact r range) e)
    ∙ cond-false (range_before r p.0) ((r, x) ∷ p ∷ ps) (p ∷ with_range ps r x)
    (not_before_numbers (space_rank p.0.space) (space_rank r.space) p.0.first p.0.last r.first r.last valid.0 e)

with_first : {V : Type 0} (r : PlainRange) (x : V) (p : PlainRange × V) (ps : List (PlainRange × V)) → same_range p.0 r ≡ true
    → with_range (p ∷ ps) r x ≡ (r, x) ∷ ps
with_first r x p ps t = cond-true (same_range p.0 r) ((r, x) ∷ ps) (cond (range_before r p.0) ((r, x) ∷ p ∷ ps) (p ∷ with_range ps r x)) t

with_before : {V : Type 0} (r : PlainRange) (x : V) (p : PlainRange × V) (ps : List (PlainRange × V)) → same_range p.0 r ≡ false → range_before r p.0 ≡ true
    → with_range (p ∷ ps) r x ≡ (r, x) ∷ p ∷ ps
with_before r x p ps f t =
    cond-false (same_range p.0 r) ((r, x) ∷ ps) (cond (range_before r p.0) ((r, x) ∷ p ∷ ps) (p ∷ with_range ps r x)) f
    ∙ cond-true (range_before r p.0) ((r, x) ∷ p ∷ ps) (p ∷ with_range ps r x) t

first_fails : {V : Type 0} (r : PlainRange) (p : PlainRange × V) (ps : List (PlainRange × V)) → find (λ q. meets r q.0) (p ∷ ps) ≡ None → meets r p.0 ≡ false
first_fails r p ps h = false_from_ne_true (meets r p.0) (λ t. none-some p (sym h ∙ cond-true (meets r p.0) (Some p) (find (λ q. meets r q.0) ps) t))

here : {V : Type 0} (r : PlainRange) (x : V) (p : PlainRange × V) (ps : List (PlainRange × V)) → IsRange r → Apart (p ∷ ps) → IsFree r (p ∷ ps)
    → ends_below (first_number r) p.0 ≡ false → with_range (p ∷ ps) r x ≡ spliced 0 (count_there r (p ∷ ps)) ((r, x) ∷ []) (p ∷ ps)
here {V} r x p ps range apart free e = elim (cases_Bool (same_range p.0 r)) [
  | inl t ↦
      let found : find (λ q. is_range r q.0) (p ∷ ps) ≡ Some p = cond-true (is_range r p.0) (Some p) (find (λ q. is_range r q.0) ps) t in
      with_first r x p ps t
      ∙ ap (λ (o : Option (PlainRange × V)). spliced 0 (cond (is_some o) 1 0) ((r, x) ∷ []) (p ∷ ps)) (sym found)
  | inr f ↦
      let none : find (λ q. is_range r q.0) (p ∷ ps) ≡ None =
      find_none (is_range r) (p ∷ ps) (f, none_behind (first_number r) (is_range r) p.0 ps (exact r range) apart.0 apart.1 e f) in
      let unmet : meets r p.0 ≡ false = first_fails r p ps (free none) in
      with_before r x p ps f (before_numbers (space_rank p.0.space) (space_rank r.space) p.0.first p.0.last r.first r.last apart.0.0 range.0 e unmet)
      ∙ ap (λ (o : Option (PlainRange × V)). spliced 0 (cond (is_some o) 1 0) ((r, x) ∷ []) (p ∷ ps)) (sym none)
]

with_is : {V : Type 0} (r : PlainRange) (x : V) (ps : List (PlainRange × V)) → IsRange r → Apart ps → IsFree r ps
    → with_range ps r x ≡ spliced (ended_below (first_number r) ps) (count_there r ps) ((r, x) ∷ []) ps
with_is r x [] range apart free = refl
with_is {V} r x (p ∷ ps) range apart free = elim (cases_Bool (ends_below (first_number r) p.0)) [
  | inl e ↦
      let same : find (λ q. is_range r q.0) (p ∷ ps) ≡ find (λ q. is_range r q.0) ps =
      cond-false (is_range r p.0) (Some p) (find (λ q. is_range r q.0) ps) (fails_past (first_number r) (is_range r) p.0 (exact r range) e) in
      let met : find (λ q. meets r q.0) (p ∷ ps) ≡ find (λ q. meets r q.0) ps =
      cond-false (meets r p.0) (Some p) (find (λ q. meets r q.0) ps) (fails_past (first_number r) (meets r) p.0 (meeting r) e) in
      with_past r x p ps range apart.0 e
      ∙ ap (λ (xs : List (PlainRange × V)). p ∷ xs) (with_is r x ps range apart.2 (λ f. sym met ∙ free (same ∙ f)))
      ∙ sym (past r (count_there r ps) ((r, x) ∷ []) p ps e)
      ∙ ap (λ (o : Option (PlainRange × V)). spliced (ended_below (first_number r) (p ∷ ps)) (cond (is_some o) 1 0) ((r, x) ∷ []) (p ∷ ps)) (sym same)
  | inr e ↦
      here r x p ps range apart free e
      ∙ ap (λ (at : ℕ). spliced at (count_there r (p ∷ ps)) ((r, x) ∷ []) (p ∷ ps)) (sym (place_here (first_number r) p ps e))
]

-- ---- without a range

once_numbers : (a b s pf pl qf ql rf rl : ℕ) → pf ≤ pl → (nat_lt a b || ((a == b) && nat_lt pl qf)) ≡ true → ((a == s) && (pf == rf) && (pl == rl)) ≡ true
    → ((b == s) && (qf == rf) && (ql == rl)) ≡ false
once_numbers a b s pf pl qf ql rf rl o h e = grind (arith, nat_tests)

none_same : {V : Type 0} (r p : PlainRange) (ps : List (PlainRange × V)) → IsRange p → AllAbove p ps → same_range p r ≡ true → AllByRecursion (λ q. same_range q.0 r ≡ false) ps
none_same r p [] valid above e = tt
none_same r p (q ∷ ps) valid above e =
    (once_numbers (space_rank p.space) (space_rank q.0.space) (space_rank r.space) p.first p.last q.0.first q.0.last r.first r.last valid.0 above.0 e, none_same r p ps valid above.1 e)

all_stay : {V : Type 0} (test : PlainRange → Bool) (ps : List (PlainRange × V)) → AllByRecursion (λ q. test q.0 ≡ false) ps → filter (λ q. not (test q.0)) ps ≡ ps
all_stay test [] h = refl
all_stay {V} test (p ∷ ps) h =
    cond-true (not (test p.0)) (p ∷ filter (λ q. not (test q.0)) ps) (filter (λ q. not (test q.0)) ps) (not_from_false (test p.0) h.0)
    ∙ ap (λ (xs : List (PlainRange × V)). p ∷ xs) (all_stay test ps h.1)

stays : {V : Type 0} (test : PlainRange → Bool) (p : PlainRange × V) (ps : List (PlainRange × V)) → test p.0 ≡ false
    → filter (λ q. not (test q.0)) (p ∷ ps) ≡ p ∷ filter (λ q. not (test q.0)) ps
stays test p ps f = cond-true (not (test p.0)) (p ∷ filter (λ q. not (test q.0)) ps) (filter (λ q. not (test q.0)) ps) (not_from_false (test p.0) f)

goes : {V : Type 0} (test : PlainRange → Bool) (p : PlainRange × V) (ps : List (PlainRange × V)) → test p.0 ≡ true
    → filter (λ q. not (test q.0)) (p ∷ ps) ≡ filter (λ q. not (test q.0)) ps
goes test p ps t = cond-false (not (test p.0)) (p ∷ filter (λ q. not (test q.0)) ps) (filter (λ q. not (test q.0)) ps) (not_from_true (test p.0) t)

without_is : {V : Type 0} (r : PlainRange) (ps : List (PlainRange × V)) → IsRange r → Apart ps → is_some (find (λ p. is_range r p.0) ps) ≡ true
    → without_range ps r ≡ spliced (ended_below (first_number r) ps) 1 [] ps
without_is r [] range apart there = absurd (false≢true there)
without_is {V} r (p ∷ ps) range apart there = elim (cases_Bool (ends_below (first_number r) p.0)) [
  | inl e ↦
      let other = fails_past (first_number r) (is_range r) p.0 (exact r range) e in
      let same : find (λ q. is_range r q.0) (p ∷ ps) ≡ find (λ q. is_range r q.0) ps = cond-false (is_range r p.0) (Some p) (find (λ q. is_range r q.0) ps) other in
      stays (is_range r) p ps other
      ∙ ap (λ (xs : List (PlainRange × V)). p ∷ xs) (without_is r ps range apart.2 (sym (ap (λ (o : Option (PlainRange × V)). is_some o) same) ∙ there))
      ∙ sym (past r 1 [] p ps e)
  | inr e ↦ elim (cases_Bool (same_range p.0 r)) [
    | inl t ↦
        goes (is_range r) p ps t
        ∙ all_stay (is_range r) ps (none_same r p.0 ps apart.0 apart.1 t)
        ∙ ap (λ (at : ℕ). spliced at 1 [] (p ∷ ps)) (sym (place_here (first_number r) p ps e))
    | inr f ↦
        let none : find (λ q. is_range r q.0) (p ∷ ps) ≡ None =
        find_none (is_range r) (p ∷ ps) (f, none_behind (first_number r) (is_range r) p.0 ps (exact r range) apart.0 apart.1 e f) in
        absurd (some_not (find (λ q. is_range r q.0) (p ∷ ps)) none there)
  ]
]

-- ---- without the ranges inside one

abbrev pub inside : PlainRange → PlainRange → Bool
inside r p = lies_inside p r

inside_numbers : (a s pf pl rf rl : ℕ) → pf ≤ pl → ((a == s) && nat_le rf pf && nat_le pl rl) ≡ true → ((a == s) && nat_le pf rl && nat_le rf pl) ≡ true
inside_numbers a s pf pl rf rl o h = grind (arith, nat_tests)

pub inside_meets : (r p : PlainRange) → IsRange p → inside r p ≡ true → meets r p ≡ true
inside_meets r p valid e = inside_numbers (space_rank p.space) (space_rank r.space) p.first p.last r.first r.last valid.0 e

pub outside : (r p : PlainRange) → IsRange p → meets r p ≡ false → inside r p ≡ false
outside r p valid f = false_from_ne_true (inside r p) (λ t. false≢true (sym f ∙ inside_meets r p valid t))

all_outside : {V : Type 0} (r : PlainRange) (ps : List (PlainRange × V)) → Apart ps → AllByRecursion (λ q. meets r q.0 ≡ false) ps → AllByRecursion (λ q. inside r q.0 ≡ false) ps
all_outside r [] apart h = tt
all_outside r (p ∷ ps) apart h = (outside r p.0 apart.0 h.0, all_outside r ps apart.2 h.1)

pub one_inside : {V : Type 0} (r : PlainRange) (p : PlainRange × V) (ps : List (PlainRange × V)) → inside r p.0 ≡ true → ranges_inside (p ∷ ps) r ≡ p ∷ ranges_inside ps r
one_inside r p ps t = cond-true (inside r p.0) (p ∷ ranges_inside ps r) (ranges_inside ps r) t

pub one_outside : {V : Type 0} (r : PlainRange) (p : PlainRange × V) (ps : List (PlainRange × V)) → inside r p.0 ≡ false → ranges_inside (p ∷ ps) r ≡ ranges_inside ps r
one_outside r p ps f = cond-false (inside r p.0) (p ∷ ranges_inside ps r) (ranges_inside ps r) f

-- of ranges none of which ends below, those inside stand first
dropped : {V : Type 0} (r : PlainRange) (ps : List (PlainRange × V)) → Apart ps → AllByRecursion (λ q. ends_below (first_number r) q.0 ≡ false) ps → NoneStraddles ps r
    → without_inside ps r ≡ drop (length (ranges_inside ps r)) ps
dropped r [] apart from none = refl
dropped {V} r (p ∷ ps) apart from none = elim (cases_Bool (inside r p.0)) [
  | inl t ↦
      goes (inside r) p ps t
      ∙ dropped r ps apart.2 from.1 none.1
      ∙ ap (λ (xs : List (PlainRange × V)). drop (length xs) (p ∷ ps)) (sym (one_inside r p ps t))
  | inr f ↦
      let unmet : meets r p.0 ≡ false = false_from_ne_true (meets r p.0) (λ t. false≢true (sym f ∙ none.0 t)) in
      let rest = all_outside r ps apart.2 (none_behind (first_number r) (meets r) p.0 ps (meeting r) apart.0 apart.1 from.0 unmet) in
      all_stay (inside r) (p ∷ ps) (f, rest)
      ∙ ap (λ (xs : List (PlainRange × V)). drop (length xs) (p ∷ ps)) (sym (filter_none (inside r) (p ∷ ps) (f, rest)))
]

without_inside_is : {V : Type 0} (r : PlainRange) (ps : List (PlainRange × V)) → Apart ps → NoneStraddles ps r
    → without_inside ps r ≡ spliced (ended_below (first_number r) ps) (length (ranges_inside ps r)) [] ps
without_inside_is r [] apart none = refl
without_inside_is {V} r (p ∷ ps) apart none = elim (cases_Bool (ends_below (first_number r) p.0)) [
  | inl e ↦
      let out = outside r p.0 apart.0 (fails_past (first_number r) (meets r) p.0 (meeting r) e) in
      stays (inside r) p ps out
      ∙ ap (λ (xs : List (PlainRange × V)). p ∷ xs) (without_inside_is r ps apart.2 none.1)
      ∙ sym (past r (length (ranges_inside ps r)) [] p ps e)
      ∙ ap (λ (xs : List (PlainRange × V)). spliced (ended_below (first_number r) (p ∷ ps)) (length xs) [] (p ∷ ps)) (sym (one_outside r p ps out))
  | inr e ↦
      let n : ℕ = length (ranges_inside (p ∷ ps) r) in
      let zero_more : n ≡ 0 + n = omega arith in
      dropped r (p ∷ ps) apart (e, none_ends_below (first_number r) p.0 ps apart.2 apart.1 e) none
      ∙ ap (λ (m : ℕ). drop m (p ∷ ps)) zero_more
      ∙ ap (λ (at : ℕ). spliced at n [] (p ∷ ps)) (sym (place_here (first_number r) p ps e))
]

fewer : {X : Type 0} (test : X → Bool) (xs : List X) → length (filter test xs) ≤ length xs
fewer test [] = omega arith
fewer test (x ∷ xs) =
    let rest = fewer test xs in
    cond_both (test x) (x ∷ filter test xs) (filter test xs) (λ ys. length ys ≤ suc (length xs)) (λ e. omega arith) (λ e. omega arith)

inside_place : {V : Type 0} (r : PlainRange) (ps : List (PlainRange × V)) → Apart ps → ended_below (first_number r) ps + length (ranges_inside ps r) ≤ length ps
inside_place r [] apart = omega arith
inside_place r (p ∷ ps) apart = elim (cases_Bool (ends_below (first_number r) p.0)) [
  | inl e ↦
      let out = outside r p.0 apart.0 (fails_past (first_number r) (meets r) p.0 (meeting r) e) in
      let one = place_past (first_number r) p ps e in
      let same = ap length (one_outside r p ps out) in
      let rest = inside_place r ps apart.2 in
      omega arith
  | inr e ↦
      let none = place_here (first_number r) p ps e in
      let few = fewer (λ q. inside r q.0) (p ∷ ps) in
      omega arith
]

-- ---- what a change leaves apart

below_numbers : (a b s pl qf ql rf rl : ℕ) → (nat_lt a b || ((a == b) && nat_lt pl qf)) ≡ true → ((b == s) && (qf == rf) && (ql == rl)) ≡ true
    → (nat_lt a s || ((a == s) && nat_lt pl rf)) ≡ true
below_numbers a b s pl qf ql rf rl h e = grind (arith, nat_tests)

above_numbers : (a b s pf pl qf rf rl : ℕ) → (nat_lt a b || ((a == b) && nat_lt pl qf)) ≡ true → ((a == s) && (pf == rf) && (pl == rl)) ≡ true
    → (nat_lt s b || ((s == b) && nat_lt rl qf)) ≡ true
above_numbers a b s pf pl qf rf rl h e = grind (arith, nat_tests)

-- a range that lies below or above doesn't meet
apart_below_numbers : (a s pf pl rf rl : ℕ) → (nat_lt a s || ((a == s) && nat_lt pl rf)) ≡ true → ((a == s) && nat_le pf rl && nat_le rf pl) ≡ false
apart_below_numbers a s pf pl rf rl h = grind (arith, nat_tests)

apart_above_numbers : (a s pf pl rf rl : ℕ) → (nat_lt s a || ((s == a) && nat_lt rl pf)) ≡ true → ((a == s) && nat_le pf rl && nat_le rf pl) ≡ false
apart_above_numbers a s pf pl rf rl h = grind (arith, nat_tests)

-- a range that doesn't meet lies below or above
lies_below_numbers : (a s pf pl rf rl : ℕ) → pf ≤ pl → rf ≤ rl → ((a == s) && nat_le pf rl && nat_le rf pl) ≡ false
    → (nat_lt s a || ((s == a) && (nat_lt rf pf || ((rf == pf) && nat_lt rl pl)))) ≡ false
    → (nat_lt a s || ((a == s) && nat_lt pl rf)) ≡ true
lies_below_numbers a s pf pl rf rl o k h m = grind (arith, nat_tests)

lies_above_numbers : (a s pf pl rf rl : ℕ) → pf ≤ pl → rf ≤ rl → ((a == s) && nat_le pf rl && nat_le rf pl) ≡ false
    → (nat_lt s a || ((s == a) && (nat_lt rf pf || ((rf == pf) && nat_lt rl pl)))) ≡ true
    → (nat_lt s a || ((s == a) && nat_lt rl pf)) ≡ true
lies_above_numbers a s pf pl rf rl o k h m = grind (arith, nat_tests)

all_above_same : {V : Type 0} (r p : PlainRange) (ps : List (PlainRange × V)) → same_range p r ≡ true → AllAbove p ps → AllAbove r ps
all_above_same r p [] e h = tt
all_above_same r p (q ∷ ps) e h =
    (above_numbers (space_rank p.space) (space_rank q.0.space) (space_rank r.space) p.first p.last q.0.first r.first r.last h.0 e, all_above_same r p ps e h.1)

below_there : {V : Type 0} (r p : PlainRange) (ps : List (PlainRange × V)) → AllAbove p ps → is_some (find (λ q. is_range r q.0) ps) ≡ true → IsBelow p r
below_there r p [] above there = absurd (false≢true there)
below_there {V} r p (q ∷ ps) above there = elim (cases_Bool (same_range q.0 r)) [
  | inl t ↦ below_numbers (space_rank p.space) (space_rank q.0.space) (space_rank r.space) p.last q.0.first q.0.last r.first r.last above.0 t
  | inr f ↦
      below_there r p ps above.1
      (sym (ap (λ (o : Option (PlainRange × V)). is_some o) (cond-false (is_range r q.0) (Some q) (find (λ s. is_range r s.0) ps) f)) ∙ there)
]

-- none meets the range but itself
abbrev OnlyMeetsItself : {V : Type 0} → PlainRange → List (PlainRange × V) → Type 0
OnlyMeetsItself r ps = AllByRecursion (λ q. same_range q.0 r ≡ false → meets r q.0 ≡ false) ps

none_meet : {V : Type 0} (r : PlainRange) (ps : List (PlainRange × V)) → find (λ q. meets r q.0) ps ≡ None → OnlyMeetsItself r ps
none_meet r [] e = tt
none_meet r (p ∷ ps) e =
    let unmet = first_fails r p ps e in
    (λ f. unmet, none_meet r ps (sym (cond-false (meets r p.0) (Some p) (find (λ q. meets r q.0) ps) unmet) ∙ e))

above_meet : {V : Type 0} (r : PlainRange) (ps : List (PlainRange × V)) → AllAbove r ps → OnlyMeetsItself r ps
above_meet r [] h = tt
above_meet r (q ∷ ps) h =
    (λ f. apart_above_numbers (space_rank q.0.space) (space_rank r.space) q.0.first q.0.last r.first r.last h.0, above_meet r ps h.1)

there_meet : {V : Type 0} (r : PlainRange) (ps : List (PlainRange × V)) → Apart ps → is_some (find (λ q. is_range r q.0) ps) ≡ true → OnlyMeetsItself r ps
there_meet r [] apart there = tt
there_meet {V} r (p ∷ ps) apart there = elim (cases_Bool (same_range p.0 r)) [
  | inl t ↦ (λ f. absurd (false≢true (sym f ∙ t)), above_meet r ps (all_above_same r p.0 ps t apart.1))
  | inr f ↦
      let rest = sym (ap (λ (o : Option (PlainRange × V)). is_some o) (cond-false (is_range r p.0) (Some p) (find (λ s. is_range r s.0) ps) f)) ∙ there in
      let below = below_there r p.0 ps apart.1 rest in
      (λ _. apart_below_numbers (space_rank p.0.space) (space_rank r.space) p.0.first p.0.last r.first r.last below, there_meet r ps apart.2 rest)
]

only_meets : {V : Type 0} (r : PlainRange) (ps : List (PlainRange × V)) → Apart ps → IsFree r ps → OnlyMeetsItself r ps
only_meets r ps apart free = elim (cases_Bool (is_some (find (λ q. is_range r q.0) ps))) [
  | inl t ↦ there_meet r ps apart t
  | inr f ↦ none_meet r ps (free (none_from (find (λ q. is_range r q.0) ps) f))
]

above_with : {V : Type 0} (p r : PlainRange) (x : V) (ps : List (PlainRange × V)) → AllAbove p ps → IsBelow p r → AllAbove p (with_range ps r x)
above_with p r x [] h b = (b, tt)
above_with p r x (q ∷ ps) h b =
    cond_both (same_range q.0 r) ((r, x) ∷ ps) (cond (range_before r q.0) ((r, x) ∷ q ∷ ps) (q ∷ with_range ps r x)) (AllAbove p) (λ _. (b, h.1))
    (λ _. cond_both (range_before r q.0) ((r, x) ∷ q ∷ ps) (q ∷ with_range ps r x) (AllAbove p) (λ _. (b, h)) (λ _. (h.0, above_with p r x ps h.1 b)))

apart_with : {V : Type 0} (r : PlainRange) (x : V) (ps : List (PlainRange × V)) → IsRange r → Apart ps → OnlyMeetsItself r ps → Apart (with_range ps r x)
apart_with r x [] range apart only = (range, tt, tt)
apart_with r x (p ∷ ps) range apart only =
    cond_both (same_range p.0 r) ((r, x) ∷ ps) (cond (range_before r p.0) ((r, x) ∷ p ∷ ps) (p ∷ with_range ps r x)) Apart
    (λ t. (range, all_above_same r p.0 ps t apart.1, apart.2))
    (λ f.
    cond_both (range_before r p.0) ((r, x) ∷ p ∷ ps) (p ∷ with_range ps r x) Apart
    (λ t.
    let above : IsBelow r p.0 = lies_above_numbers (space_rank p.0.space) (space_rank r.space) p.0.first p.0.last r.first r.last apart.0.0 range.0 (only.0 f) t in
    (range, (above, all_above r p.0 ps apart.0 above apart.1), apart))
    (λ g.
    let below : IsBelow p.0 r = lies_below_numbers (space_rank p.0.space) (space_rank r.space) p.0.first p.0.last r.first r.last apart.0.0 range.0 (only.0 f) g in
    (apart.0, above_with p.0 r x ps apart.1 below, apart_with r x ps range apart.2 only.1)))

-- ---- what a change asks of the splice

splice_length : {X : Type 0} (at n : ℕ) (new xs : List X) → at + n ≤ length xs → length (spliced at n new xs) + n ≡ length xs + length new
splice_length at n new xs h =
    let whole = length-append (take at xs) (new ++ drop (at + n) xs) in
    let back = length-append new (drop (at + n) xs) in
    let front = length-take at xs in
    let rest = length-drop (at + n) xs in
    omega arith

-- so many go, the list after is this, and it is apart and within the room
pub record IsChange {V : Type 0} (r : PlainRange) (gone : ℕ) (come ps after : List (PlainRange × V)) (most : ℕ) : Type 0 where
  pub there : ended_below (first_number r) ps + gone ≤ length ps
  pub apart : AreApart (spliced (ended_below (first_number r) ps) gone come ps)
  pub within : length (spliced (ended_below (first_number r) ps) gone come ps) ≤ most
  pub is : spliced (ended_below (first_number r) ps) gone come ps ≡ after

there_is : {V : Type 0} (r : PlainRange) (ps : List (PlainRange × V)) → is_some (find (λ p. is_range r p.0) ps) ≡ is_some (value_of_range ps r)
there_is r ps = sym (some_map (λ p. p.1) (find (λ p. is_range r p.0) ps))

count_cases : (b : Bool) (k : ℕ) → k ≡ cond b 1 0 → ((b ≡ false) × (k ≡ 0)) ⊎ ((b ≡ true) × (k ≡ 1))
count_cases true k e = inr (refl, e)
count_cases false k e = inl (refl, e)

pub put_change : {V : Type 0} (r : PlainRange) (x : V) (ps : List (PlainRange × V)) (gone room : ℕ) → IsRange r → AreApart ps → length ps ≤ room
    → (value_of_range ps r ≡ None → first_meeting ps r ≡ None) → (value_of_range ps r ≡ None → length ps < room)
    → gone ≡ cond (is_some (value_of_range ps r)) 1 0 → IsChange r gone ((r, x) ∷ []) ps (with_range ps r x) room
put_change {V} r x ps gone room range h within free fits e =
    let f : Option (PlainRange × V) = find (λ p. is_range r p.0) ps in
    let apart : Apart ps = apart_of ps h in
    let is_free : IsFree r ps = λ n. free (none_map (λ p. p.1) f n) in
    let counted : gone ≡ count_there r ps = e ∙ ap (λ (b : Bool). cond b 1 0) (sym (there_is r ps)) in
    let is : with_range ps r x ≡ spliced (ended_below (first_number r) ps) gone ((r, x) ∷ []) ps =
    with_is r x ps range apart is_free ∙ ap (λ (n : ℕ). spliced (ended_below (first_number r) ps) n ((r, x) ∷ []) ps) (sym counted) in
    let there : ended_below (first_number r) ps + gone ≤ length ps = elim (count_cases (is_some f) gone counted) [
      | inl c ↦ let place = within_place r ps in let none = c.1 in omega arith
      | inr c ↦ let place = there_place r ps range c.0 in let one = c.1 in omega arith
    ] in
    record {
      there = there;
      apart = subst (λ (xs : List (PlainRange × V)). AreApart xs) is (are_apart (with_range ps r x) (apart_with r x ps range apart (only_meets r ps apart is_free)));
      within = let long = splice_length (ended_below (first_number r) ps) gone ((r, x) ∷ []) ps there in elim (count_cases (is_some f) gone counted) [
        | inl c ↦ let none = c.1 in let more = fits (none_map (λ p. p.1) f (none_from f c.0)) in omega arith
        | inr c ↦ let one = c.1 in omega arith
      ];
      is = sym is;
    }

pub take_change : {V : Type 0} (r : PlainRange) (ps : List (PlainRange × V)) (room : ℕ) → IsRange r → AreApart ps → length ps ≤ room
    → is_some (value_of_range ps r) ≡ true → IsChange r 1 [] ps (without_range ps r) room
take_change {V} r ps room range h within t =
    let there = there_is r ps ∙ t in
    let is = without_is r ps range (apart_of ps h) there in
    let place = there_place r ps range there in
    record {
      there = place;
      apart = subst (λ (xs : List (PlainRange × V)). AreApart xs) is (are_apart_kept (λ p. not (same_range p.0 r)) ps h);
      within = let long = splice_length (ended_below (first_number r) ps) 1 [] ps place in omega arith;
      is = sym is;
    }

pub drop_change : {V : Type 0} (r : PlainRange) (ps : List (PlainRange × V)) (gone room : ℕ) → AreApart ps → length ps ≤ room → NoneStraddles ps r
    → gone ≡ length (ranges_inside ps r) → IsChange r gone [] ps (without_inside ps r) room
drop_change {V} r ps gone room h within none e =
    let apart : Apart ps = apart_of ps h in
    let is : without_inside ps r ≡ spliced (ended_below (first_number r) ps) gone [] ps =
    without_inside_is r ps apart none ∙ ap (λ (n : ℕ). spliced (ended_below (first_number r) ps) n [] ps) (sym e) in
    let place : ended_below (first_number r) ps + gone ≤ length ps = let all = inside_place r ps apart in omega arith in
    record {
      there = place;
      apart = subst (λ (xs : List (PlainRange × V)). AreApart xs) is (are_apart_kept (λ p. not (lies_inside p.0 r)) ps h);
      within = let long = splice_length (ended_below (first_number r) ps) gone [] ps place in omega arith;
      is = sym is;
    }
