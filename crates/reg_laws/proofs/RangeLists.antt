-- Lists of ranges with a value: what a change of the list keeps.
use Rattle.std.proofs.Common.{◌≡◌, ℕ, suc, ◌+◌, ◌<◌, ◌≤◌, Bool, true, false, cond, not, ◌&&◌, ◌||◌, ◌==◌, nat_lt, nat_le, ◌⊎◌, inl, inr, List, [], ◌∷◌, None, Some, filter, find, length, refl, sym, ◌∙◌, ap, subst, arith}
use Rattle.std.specs.Option.{is_some, option_map}
use Rattle.std.proofs.lemmas.Bool.{cond_both, cond-true, cond-false, cases_Bool, both_ways, or_cases, or_left, or_right, and_parts, and_from, ltb-true, eqb-true, lt-ltb, eq-eqb}
use Rattle.std.proofs.lemmas.Bool.Decides.{nat_tests}
use Rattle.std.proofs.lemmas.Option.{none-some}
use Rattle.num_range.specs.Range.{PlainRange, IsRange}
use Rattle.reg_entry.specs.Ranges.{space_rank, same_space, same_range, range_before, ranges_meet, IsBelow, value_of_range, with_range, AreApart}
use Rattle.reg_laws.proofs.Sameness.{same_range-true}

-- ---- facts of each, and tests that none passes

abbrev pub AllOf : {T : Type 0} → (PlainRange × T → Type 0) → List (PlainRange × T) → Type 0
AllOf P [] = Unit {0}
AllOf P (s ∷ ss) = P s × AllOf P ss

abbrev pub NoneIs : {T : Type 0} → (PlainRange × T → Bool) → List (PlainRange × T) → Type 0
NoneIs test [] = Unit {0}
NoneIs test (s ∷ ss) = (test s ≡ false) × NoneIs test ss

pub all_and : {T : Type 0} (P Q : PlainRange × T → Type 0) (ss : List (PlainRange × T)) → AllOf P ss → AllOf Q ss → AllOf (λ s. P s × Q s) ss
all_and P Q [] h k = tt
all_and P Q (s ∷ ss) h k = ((h.0, k.0), all_and P Q ss h.1 k.1)

pub all_moved : {T : Type 0} (P Q : PlainRange × T → Type 0) (test : PlainRange × T → Bool) (ss : List (PlainRange × T)) → NoneIs test ss
    → ((s : PlainRange × T) → test s ≡ false → P s → Q s) → AllOf P ss → AllOf Q ss
all_moved P Q test [] none f h = tt
all_moved P Q test (s ∷ ss) none f h = (f s none.0 h.0, all_moved P Q test ss none.1 f h.1)

pub none_at_all : {T : Type 0} (ss : List (PlainRange × T)) → NoneIs (λ s. false) ss
none_at_all [] = tt
none_at_all (s ∷ ss) = (refl, none_at_all ss)

pub none_found : {T : Type 0} (test : PlainRange × T → Bool) (ss : List (PlainRange × T)) → find test ss ≡ None → NoneIs test ss
none_found test [] e = tt
none_found test (s ∷ ss) e =
    elim (cases_Bool (test s)) [
      | inl t ↦ absurd (none-some s (sym e ∙ cond-true (test s) (Some s) (find test ss) t))
      | inr f ↦ (f, none_found test ss (sym (cond-false (test s) (Some s) (find test ss) f) ∙ e))
    ]

pub none_left : {T : Type 0} (test : PlainRange × T → Bool) (ss : List (PlainRange × T)) → length (filter test ss) ≡ 0 → NoneIs test ss
none_left test [] e = tt
none_left test (s ∷ ss) e =
    elim (cases_Bool (test s)) [
      | inl t ↦ absurd (let n : suc (length (filter test ss)) ≡ 0 = sym (ap length (cond-true (test s) (s ∷ filter test ss) (filter test ss) t)) ∙ e in omega arith)
      | inr f ↦ (f, none_left test ss (sym (ap length (cond-false (test s) (s ∷ filter test ss) (filter test ss) f)) ∙ e))
    ]

-- none of those that pass the first test passes the second
pub none_of_both : {T : Type 0} (one two : PlainRange × T → Bool) (ss : List (PlainRange × T)) → find two (filter one ss) ≡ None
    → NoneIs (λ s. one s && two s) ss
none_of_both one two [] e = tt
none_of_both one two (s ∷ ss) e =
    elim (cases_Bool (one s)) [
      | inl t ↦
          let h : find two (s ∷ filter one ss) ≡ None = sym (ap (find two) (cond-true (one s) (s ∷ filter one ss) (filter one ss) t)) ∙ e in
          elim (cases_Bool (two s)) [
            | inl u ↦ absurd (none-some s (sym h ∙ cond-true (two s) (Some s) (find two (filter one ss)) u))
            | inr g ↦ (right_false (one s) (two s) g, none_of_both one two ss (sym (cond-false (two s) (Some s) (find two (filter one ss)) g) ∙ h))
          ]
      | inr f ↦ (left_false (one s) (two s) f, none_of_both one two ss (sym (ap (find two) (cond-false (one s) (s ∷ filter one ss) (filter one ss) f)) ∙ e))
    ]
  where
    right_false : (a b : Bool) → b ≡ false → (a && b) ≡ false
    right_false true b h = h
    right_false false b h = refl

    left_false : (a b : Bool) → a ≡ false → (a && b) ≡ false
    left_false true b h = absurd (both_ways true h refl)
    left_false false b h = refl

pub all_with : {T : Type 0} (P : PlainRange × T → Type 0) (ss : List (PlainRange × T)) (r : PlainRange) (x : T) → AllOf P ss → P (r, x)
    → AllOf P (with_range ss r x)
all_with P [] r x h new = (new, tt)
all_with P (s ∷ ss) r x h new =
    cond_both (same_range s.0 r) ((r, x) ∷ ss) (cond (range_before r s.0) ((r, x) ∷ s ∷ ss) (s ∷ with_range ss r x)) (AllOf P)
    (λ e. (new, h.1))
    (λ e.
    cond_both (range_before r s.0) ((r, x) ∷ s ∷ ss) (s ∷ with_range ss r x) (AllOf P)
    (λ b. (new, h))
    (λ b. (h.0, all_with P ss r x h.1 new)))

pub all_filtered : {T : Type 0} (P Q : PlainRange × T → Type 0) (test : PlainRange × T → Bool) (ss : List (PlainRange × T))
    → ((s : PlainRange × T) → test s ≡ true → P s → Q s) → AllOf P ss → AllOf Q (filter test ss)
all_filtered P Q test [] f h = tt
all_filtered P Q test (s ∷ ss) f h =
    cond_both (test s) (s ∷ filter test ss) (filter test ss) (AllOf Q)
    (λ e. (f s e h.0, all_filtered P Q test ss f h.1))
    (λ e. all_filtered P Q test ss f h.1)

-- ---- ranges apart

pub below_cases : (r s : PlainRange) → IsBelow r s → (space_rank r.space < space_rank s.space) ⊎ ((space_rank r.space ≡ space_rank s.space) × (r.last < s.first))
below_cases r s h =
    elim (or_cases (nat_lt (space_rank r.space) (space_rank s.space)) (same_space r.space s.space && nat_lt r.last s.first) h) [
      | inl lt ↦ inl (ltb-true (space_rank r.space) (space_rank s.space) lt)
      | inr eq ↦
          let p = and_parts (same_space r.space s.space) (nat_lt r.last s.first) eq in
          inr (eqb-true (space_rank r.space) (space_rank s.space) p.0, ltb-true r.last s.first p.1)
    ]

pub below_rank : (r s : PlainRange) → space_rank r.space < space_rank s.space → IsBelow r s
below_rank r s h =
    or_left (nat_lt (space_rank r.space) (space_rank s.space)) (same_space r.space s.space && nat_lt r.last s.first) (lt-ltb (space_rank r.space) (space_rank s.space) h)

pub below_same : (r s : PlainRange) → space_rank r.space ≡ space_rank s.space → r.last < s.first → IsBelow r s
below_same r s e h =
    or_right (nat_lt (space_rank r.space) (space_rank s.space)) (same_space r.space s.space && nat_lt r.last s.first)
    (and_from (same_space r.space s.space) (nat_lt r.last s.first) (eq-eqb (space_rank r.space) (space_rank s.space) e) (lt-ltb r.last s.first h))

pub below_through : (q p s : PlainRange) → IsBelow q p → p.first ≤ p.last → IsBelow p s → IsBelow q s
below_through q p s h order k =
    elim (below_cases q p h) [
      | inl a ↦ elim (below_cases p s k) [
        | inl b ↦ below_rank q s (omega arith)
        | inr b ↦ below_rank q s (let e = b.0 in omega arith)
      ]
      | inr a ↦ elim (below_cases p s k) [
        | inl b ↦ below_rank q s (let e = a.0 in omega arith)
        | inr b ↦ below_same q s (a.0 ∙ b.0) (let x = a.1 in let y = b.1 in omega arith)
      ]
    ]

before_numbers : (a b rf rl pf pl : ℕ) → rf ≤ rl → pf ≤ pl
    → (nat_lt a b || ((a == b) && (nat_lt rf pf || ((rf == pf) && nat_lt rl pl)))) ≡ true
    → ((b == a) && nat_le pf rl && nat_le rf pl) ≡ false → (nat_lt a b || ((a == b) && nat_lt rl pf)) ≡ true
before_numbers a b rf rl pf pl h k e f = grind (arith, nat_tests)

behind_numbers : (a b rf rl pf pl : ℕ) → rf ≤ rl → pf ≤ pl
    → (nat_lt a b || ((a == b) && (nat_lt rf pf || ((rf == pf) && nat_lt rl pl)))) ≡ false
    → ((b == a) && (pf == rf) && (pl == rl)) ≡ false
    → ((b == a) && nat_le pf rl && nat_le rf pl) ≡ false → (nat_lt b a || ((b == a) && nat_lt pl rf)) ≡ true
behind_numbers a b rf rl pf pl h k e g f = grind (arith, nat_tests)

not_before_numbers : (a b rf rl pf pl : ℕ) → rf ≤ rl → pf ≤ pl → (nat_lt b a || ((b == a) && nat_lt pl rf)) ≡ true
    → (nat_lt a b || ((a == b) && (nat_lt rf pf || ((rf == pf) && nat_lt rl pl)))) ≡ false
not_before_numbers a b rf rl pf pl h k e = grind (arith, nat_tests)

below_of_before : (r p : PlainRange) → IsRange r → IsRange p → range_before r p ≡ true → ranges_meet p r ≡ false → IsBelow r p
below_of_before r p h k e f = before_numbers (space_rank r.space) (space_rank p.space) r.first r.last p.first p.last h.0 k.0 e f

below_of_behind : (r p : PlainRange) → IsRange r → IsRange p → range_before r p ≡ false → same_range p r ≡ false → ranges_meet p r ≡ false → IsBelow p r
below_of_behind r p h k e g f = behind_numbers (space_rank r.space) (space_rank p.space) r.first r.last p.first p.last h.0 k.0 e g f

not_before : (r p : PlainRange) → IsRange r → IsRange p → IsBelow p r → range_before r p ≡ false
not_before r p h k e = not_before_numbers (space_rank r.space) (space_rank p.space) r.first r.last p.first p.last h.0 k.0 e

-- the ranges rise, and lie behind this one
abbrev pub RisesAfter : {T : Type 0} → PlainRange → List (PlainRange × T) → Type 0
RisesAfter q [] = Unit {0}
RisesAfter q (p ∷ ps) = IsBelow q p.0 × IsRange p.0 × RisesAfter p.0 ps

pub apart_parts : {T : Type 0} (p : PlainRange × T) (ps : List (PlainRange × T)) → AreApart (p ∷ ps) → IsRange p.0 × RisesAfter p.0 ps
apart_parts p [] h = (h, tt)
apart_parts p (q ∷ ps) h = let rest = apart_parts q ps h.2 in (h.0, (h.1, rest.0, rest.1))

pub apart_from : {T : Type 0} (p : PlainRange × T) (ps : List (PlainRange × T)) → IsRange p.0 → RisesAfter p.0 ps → AreApart (p ∷ ps)
apart_from p [] h rises = h
apart_from p (q ∷ ps) h rises = (h, rises.0, apart_from q ps rises.1 rises.2)

pub apart_rest : {T : Type 0} (p : PlainRange × T) (ps : List (PlainRange × T)) → AreApart (p ∷ ps) → AreApart ps
apart_rest p [] h = tt
apart_rest p (q ∷ ps) h = h.2

pub ranges_of_apart : {T : Type 0} (ps : List (PlainRange × T)) → AreApart ps → AllOf (λ s. IsRange s.0) ps
ranges_of_apart [] h = tt
ranges_of_apart (p ∷ ps) h = ((apart_parts p ps h).0, ranges_of_apart ps (apart_rest p ps h))

pub rises_from_before : {T : Type 0} (q p : PlainRange) (ps : List (PlainRange × T)) → IsBelow q p → IsRange p → RisesAfter p ps → RisesAfter q ps
rises_from_before q p [] below range h = tt
rises_from_before q p (s ∷ ss) below range h = (below_through q p s.0 below range.0 h.0, h.1, h.2)

rises_filter : {T : Type 0} (test : PlainRange × T → Bool) (q : PlainRange) (ps : List (PlainRange × T)) → RisesAfter q ps → RisesAfter q (filter test ps)
rises_filter test q [] h = tt
rises_filter test q (p ∷ ps) h =
    cond_both (test p) (p ∷ filter test ps) (filter test ps) (RisesAfter q)
    (λ e. (h.0, h.1, rises_filter test p.0 ps h.2))
    (λ e. rises_filter test q ps (rises_from_before q p.0 ps h.0 h.1 h.2))

pub apart_filter : {T : Type 0} (test : PlainRange × T → Bool) (ps : List (PlainRange × T)) → AreApart ps → AreApart (filter test ps)
apart_filter test [] h = tt
apart_filter test (p ∷ ps) h =
    let parts = apart_parts p ps h in
    cond_both (test p) (p ∷ filter test ps) (filter test ps) AreApart
    (λ e. apart_from p (filter test ps) parts.0 (rises_filter test p.0 ps parts.1))
    (λ e. apart_filter test ps (apart_rest p ps h))

-- another range has a number of this one
abbrev pub meets_other : {T : Type 0} → PlainRange → PlainRange × T → Bool
meets_other r s = not (same_range s.0 r) && ranges_meet s.0 r

unmet : {T : Type 0} (r : PlainRange) (s : PlainRange × T) → meets_other r s ≡ false → same_range s.0 r ≡ false → ranges_meet s.0 r ≡ false
unmet r s e f = other (same_range s.0 r) (ranges_meet s.0 r) e f
  where
    other : (a b : Bool) → (not a && b) ≡ false → a ≡ false → b ≡ false
    other true b e f = absurd (both_ways true f refl)
    other false b e f = e

rises_with : {T : Type 0} (q : PlainRange) (ps : List (PlainRange × T)) (r : PlainRange) (x : T) → IsBelow q r → IsRange r → RisesAfter q ps
    → NoneIs (meets_other r) ps → RisesAfter q (with_range ps r x)
rises_with q [] r x below range h none = (below, range, tt)
rises_with q (p ∷ ps) r x below range h none =
    cond_both (same_range p.0 r) ((r, x) ∷ ps) (cond (range_before r p.0) ((r, x) ∷ p ∷ ps) (p ∷ with_range ps r x)) (RisesAfter q)
    (λ e. (below, range, subst (λ y. RisesAfter y ps) (same_range-true p.0 r e) h.2))
    (λ e.
    let apart : ranges_meet p.0 r ≡ false = unmet r p none.0 e in
    cond_both (range_before r p.0) ((r, x) ∷ p ∷ ps) (p ∷ with_range ps r x) (RisesAfter q)
    (λ b. (below, range, (below_of_before r p.0 range h.1 b apart, h.1, h.2)))
    (λ b. (h.0, h.1, rises_with p.0 ps r x (below_of_behind r p.0 range h.1 b e apart) range h.2 none.1)))

pub apart_with : {T : Type 0} (ps : List (PlainRange × T)) (r : PlainRange) (x : T) → IsRange r → AreApart ps → NoneIs (meets_other r) ps
    → AreApart (with_range ps r x)
apart_with [] r x range h none = range
apart_with (p ∷ ps) r x range h none =
    let parts = apart_parts p ps h in
    cond_both (same_range p.0 r) ((r, x) ∷ ps) (cond (range_before r p.0) ((r, x) ∷ p ∷ ps) (p ∷ with_range ps r x)) AreApart
    (λ e. apart_from (r, x) ps range (subst (λ y. RisesAfter y ps) (same_range-true p.0 r e) parts.1))
    (λ e.
    let apart : ranges_meet p.0 r ≡ false = unmet r p none.0 e in
    cond_both (range_before r p.0) ((r, x) ∷ p ∷ ps) (p ∷ with_range ps r x) AreApart
    (λ b. apart_from (r, x) (p ∷ ps) range (below_of_before r p.0 range parts.0 b apart, parts.0, parts.1))
    (λ b. apart_from p (with_range ps r x) parts.0 (rises_with p.0 ps r x (below_of_behind r p.0 range parts.0 b e apart) range parts.1 none.1)))

-- ---- how long the lists are

pub length_with : {T : Type 0} (ps : List (PlainRange × T)) (r : PlainRange) (x : T) → length (with_range ps r x) ≤ length ps + 1
length_with [] r x = omega arith
length_with (p ∷ ps) r x =
    let rest : length (with_range ps r x) ≤ length ps + 1 = length_with ps r x in
    cond_both (same_range p.0 r) ((r, x) ∷ ps) (cond (range_before r p.0) ((r, x) ∷ p ∷ ps) (p ∷ with_range ps r x)) (λ xs. length xs ≤ suc (length ps) + 1)
    (λ e. omega arith)
    (λ e.
    cond_both (range_before r p.0) ((r, x) ∷ p ∷ ps) (p ∷ with_range ps r x) (λ xs. length xs ≤ suc (length ps) + 1)
    (λ b. omega arith)
    (λ b. omega arith))

pub length_filter : {T : Type 0} (test : PlainRange × T → Bool) (ps : List (PlainRange × T)) → length (filter test ps) ≤ length ps
length_filter test [] = omega arith
length_filter test (p ∷ ps) =
    let rest : length (filter test ps) ≤ length ps = length_filter test ps in
    cond_both (test p) (p ∷ filter test ps) (filter test ps) (λ xs. length xs ≤ suc (length ps)) (λ e. omega arith) (λ e. omega arith)

pub has_value_rest : {T : Type 0} (p : PlainRange × T) (ps : List (PlainRange × T)) (r : PlainRange) → same_range p.0 r ≡ false
    → is_some (value_of_range (p ∷ ps) r) ≡ true → is_some (value_of_range ps r) ≡ true
has_value_rest p ps r f e =
    sym (ap (λ o. is_some (option_map (λ s. s.1) o)) (cond-false (same_range p.0 r) (Some p) (find (λ s. same_range s.0 r) ps) f)) ∙ e

pub below_found : {T : Type 0} (q : PlainRange) (ps : List (PlainRange × T)) (r : PlainRange) → RisesAfter q ps → is_some (value_of_range ps r) ≡ true → IsBelow q r
below_found q [] r h e = absurd (both_ways false refl e)
below_found q (p ∷ ps) r h e =
    elim (cases_Bool (same_range p.0 r)) [
      | inl t ↦ subst (IsBelow q) (same_range-true p.0 r t) h.0
      | inr f ↦ below_through q p.0 r h.0 h.1.0 (below_found p.0 ps r h.2 (has_value_rest p ps r f e))
    ]

-- a range that has a value needs no room
pub length_with_other : {T : Type 0} (ps : List (PlainRange × T)) (r : PlainRange) (x : T) → IsRange r → AreApart ps
    → is_some (value_of_range ps r) ≡ true → length (with_range ps r x) ≡ length ps
length_with_other [] r x range h e = absurd (both_ways false refl e)
length_with_other (p ∷ ps) r x range h e =
    let parts = apart_parts p ps h in
    cond_both (same_range p.0 r) ((r, x) ∷ ps) (cond (range_before r p.0) ((r, x) ∷ p ∷ ps) (p ∷ with_range ps r x)) (λ xs. length xs ≡ suc (length ps))
    (λ t. refl)
    (λ f.
    let later = has_value_rest p ps r f e in
    cond_both (range_before r p.0) ((r, x) ∷ p ∷ ps) (p ∷ with_range ps r x) (λ xs. length xs ≡ suc (length ps))
    (λ b. absurd (both_ways (range_before r p.0) (not_before r p.0 range parts.0 (below_found p.0 ps r parts.1 later)) b))
    (λ b. ap (λ n. suc n) (length_with_other ps r x range (apart_rest p ps h) later)))
