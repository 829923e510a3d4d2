-- How many ranges lie inside one, by the places of those that end at its two ends.
use Rattle.std.proofs.Common.{◌≡◌, ℕ, ◌+◌, ◌-◌, ◌<◌, ◌≤◌, Bool, true, false, ◌&&◌, ◌||◌, ◌==◌, cond, nat_lt, nat_le, List, [], ◌∷◌, length, inl, inr, refl, sym, ◌∙◌, ap, subst, arith}
use Rattle.std.proofs.lemmas.Bool.{cases_Bool, cond-true, cond-false}
use Rattle.std.proofs.lemmas.Bool.Decides.{nat_tests}
use Rattle.std.specs.List.{AllByRecursion, slice_get}
use Rattle.num_range.specs.declared.space.Space.{Space}
use Rattle.num_range.specs.Number.{PlainNumber}
use Rattle.num_range.specs.Range.{PlainRange, IsRange, first_number}
use Rattle.num_range.specs.Space.{space_rank}
use Rattle.reg_entry.specs.Ranges.{AreApart, ranges_inside}
use Rattle.sub_book.specs.Order.{ends_below, ended_below, next_inside, one_inside}
use Rattle.sub_book.proofs.ApartLists.{AllAbove, Apart, apart_of}
use Rattle.sub_book.proofs.Sought.{meets, meeting, fails_past, filter_none, place_past, place_here}
use Rattle.sub_book.proofs.Changed.{inside, one_inside as takes_one, one_outside, outside}

abbrev pub last_number : PlainRange → PlainNumber
last_number r = record { space = r.space; value = r.last }

abbrev number : Space → ℕ → PlainNumber
number s v = record { space = s; value = v }

pub last_is : (r : PlainRange) (n : PlainNumber) (s : Space) (v : ℕ) → n ≡ number s v → s ≡ r.space → v ≡ r.last → n ≡ last_number r
last_is r n s v e space value = e ∙ ap (λ (t : Space). number t v) space ∙ ap (λ (w : ℕ). number r.space w) value

-- the range begins at the first number of the other or above
abbrev begins : PlainRange → PlainRange → Bool
begins r p = nat_lt (space_rank r.space) (space_rank p.space) || ((space_rank p.space == space_rank r.space) && nat_le r.first p.first)

past_numbers : (a s pl rf rl : ℕ) → rf ≤ rl → (nat_lt a s || ((a == s) && nat_lt pl rf)) ≡ true → (nat_lt a s || ((a == s) && nat_lt pl rl)) ≡ true
past_numbers a s pl rf rl o h = grind (arith, nat_tests)

begins_numbers : (a b s pl qf rf : ℕ) → (nat_lt a s || ((a == s) && nat_lt pl rf)) ≡ false → (nat_lt a b || ((a == b) && nat_lt pl qf)) ≡ true
    → (nat_lt s b || ((b == s) && nat_le rf qf)) ≡ true
begins_numbers a b s pl qf rf e h = grind (arith, nat_tests)

inner_numbers : (b s qf ql rf rl : ℕ) → (nat_lt s b || ((b == s) && nat_le rf qf)) ≡ true → (nat_lt b s || ((b == s) && nat_lt ql rl)) ≡ true
    → ((b == s) && nat_le rf qf && nat_le ql rl) ≡ true
inner_numbers b s qf ql rf rl h e = grind (arith, nat_tests)

outer_numbers : (a b s pl qf ql rf rl : ℕ) → qf ≤ ql → (nat_lt a s || ((a == s) && nat_lt pl rl)) ≡ false → (nat_lt a b || ((a == b) && nat_lt pl qf)) ≡ true
    → ((b == s) && nat_le rf qf && nat_le ql rl) ≡ false
outer_numbers a b s pl qf ql rf rl o e h = grind (arith, nat_tests)

all_begin : {V : Type 0} (r p : PlainRange) (ps : List (PlainRange × V)) → AllAbove p ps → ends_below (first_number r) p ≡ false → AllByRecursion (λ q. begins r q.0 ≡ true) ps
all_begin r p [] above e = tt
all_begin r p (q ∷ ps) above e =
    (begins_numbers (space_rank p.space) (space_rank q.0.space) (space_rank r.space) p.last q.0.first r.first e above.0, all_begin r p ps above.1 e)

all_outer : {V : Type 0} (r p : PlainRange) (ps : List (PlainRange × V)) → Apart ps → AllAbove p ps → ends_below (last_number r) p ≡ false
    → AllByRecursion (λ q. inside r q.0 ≡ false) ps
all_outer r p [] apart above e = tt
all_outer r p (q ∷ ps) apart above e = (
  outer_numbers (space_rank p.space) (space_rank q.0.space) (space_rank r.space) p.last q.0.first q.0.last r.first r.last apart.0.0 e above.0,
  all_outer r p ps apart.2 above.1 e,
)

-- one range, and those behind it
first_counted : {V : Type 0} (r : PlainRange) (p : PlainRange × V) (ps : List (PlainRange × V))
    → length (ranges_inside (p ∷ ps) r) ≡ cond (inside r p.0) 1 0 + length (ranges_inside ps r)
first_counted r p ps = elim (cases_Bool (inside r p.0)) [
  | inl t ↦
      let one = ap length (takes_one r p ps t) in
      let here = cond-true {A = ℕ} (inside r p.0) 1 0 t in
      omega (arith, one, here)
  | inr f ↦
      let none = ap length (one_outside r p ps f) in
      let here = cond-false {A = ℕ} (inside r p.0) 1 0 f in
      omega (arith, none, here)
]

next_past : {V : Type 0} (n : PlainNumber) (r : PlainRange) (p : PlainRange × V) (ps : List (PlainRange × V)) → ends_below n p.0 ≡ true
    → next_inside n (p ∷ ps) r ≡ next_inside n ps r
next_past n r p ps e = ap (λ (i : ℕ). one_inside r (slice_get (p ∷ ps) i)) (place_past n p ps e)

next_here : {V : Type 0} (n : PlainNumber) (r : PlainRange) (p : PlainRange × V) (ps : List (PlainRange × V)) → ends_below n p.0 ≡ false
    → next_inside n (p ∷ ps) r ≡ cond (inside r p.0) 1 0
next_here n r p ps e = ap (λ (i : ℕ). one_inside r (slice_get (p ∷ ps) i)) (place_here n p ps e)

-- of ranges one of which doesn't end below the last number, only that one may lie inside
last_counted : {V : Type 0} (r : PlainRange) (p : PlainRange × V) (ps : List (PlainRange × V)) → Apart ps → AllAbove p.0 ps → ends_below (last_number r) p.0 ≡ false
    → length (ranges_inside (p ∷ ps) r) ≡ next_inside (last_number r) (p ∷ ps) r
last_counted r p ps apart above e =
    let one = first_counted r p ps in
    let none = ap length (filter_none (inside r) ps (all_outer r p.0 ps apart above e)) in
    let here = next_here (last_number r) r p ps e in
    omega (arith, one, none, here)

-- of ranges that all begin at the first number or above
rest_counted : {V : Type 0} (r : PlainRange) (ps : List (PlainRange × V)) → Apart ps → AllByRecursion (λ q. begins r q.0 ≡ true) ps
    → length (ranges_inside ps r) ≡ ended_below (last_number r) ps + next_inside (last_number r) ps r
rest_counted r [] apart from = refl
rest_counted r (p ∷ ps) apart from = elim (cases_Bool (ends_below (last_number r) p.0)) [
  | inl e ↦
      let one = ap length (takes_one r p ps (inner_numbers (space_rank p.0.space) (space_rank r.space) p.0.first p.0.last r.first r.last from.0 e)) in
      let place = place_past (last_number r) p ps e in
      let next = next_past (last_number r) r p ps e in
      let rest = rest_counted r ps apart.2 from.1 in
      omega (arith, one, place, next, rest)
  | inr e ↦
      let last = last_counted r p ps apart.2 apart.1 e in
      let place = place_here (last_number r) p ps e in
      omega (arith, last, place)
]

-- so many ranges end from the one number up to the other; where there are some, the first of them may begin too early
pub record AreEnds {V : Type 0} (r : PlainRange) (ps : List (PlainRange × V)) (first last : PlainNumber) (ending : ℕ) : Type 0 where
  pub none : ending ≡ 0 → length (ranges_inside ps r) ≡ next_inside last ps r
  pub some : 0 < ending → length (ranges_inside ps r) + 1 ≡ ending + next_inside first ps r + next_inside last ps r

ends : {V : Type 0} (r : PlainRange) (ps : List (PlainRange × V)) → IsRange r → Apart ps
    → AreEnds r ps (first_number r) (last_number r) (ended_below (last_number r) ps - ended_below (first_number r) ps)
ends r [] range apart = record { none = λ z. refl; some = λ more. absurd (omega (arith, more)) }
ends r (p ∷ ps) range apart = elim (cases_Bool (ends_below (first_number r) p.0)) [
  | inl e ↦
      let late = past_numbers (space_rank p.0.space) (space_rank r.space) p.0.last r.first r.last range.0 e in
      let was = ends r ps range apart.2 in
      let out = ap length (one_outside r p ps (outside r p.0 apart.0 (fails_past (first_number r) (meets r) p.0 (meeting r) e))) in
      let place = place_past (first_number r) p ps e in
      let place' = place_past (last_number r) p ps late in
      let next = next_past (first_number r) r p ps e in
      let next' = next_past (last_number r) r p ps late in
      record {
        none = λ z. (let rest = was.none (omega (arith, z, place, place')) in omega (arith, rest, out, next'));
        some = λ more. (let rest = was.some (omega (arith, more, place, place')) in omega (arith, rest, out, place, place', next, next'));
      }
  | inr e ↦
      let place = place_here (first_number r) p ps e in
      let next = next_here (first_number r) r p ps e in
      elim (cases_Bool (ends_below (last_number r) p.0)) [
        | inl f ↦
            let one = first_counted r p ps in
            let rest = rest_counted r ps apart.2 (all_begin r p.0 ps apart.1 e) in
            let place' = place_past (last_number r) p ps f in
            let next' = next_past (last_number r) r p ps f in
            record {
              none = λ z. absurd (omega (arith, z, place, place'));
              some = λ more. omega (arith, one, rest, place, place', next, next');
            }
        | inr f ↦
            let last = last_counted r p ps apart.2 apart.1 f in
            let place' = place_here (last_number r) p ps f in
            record { none = λ z. last; some = λ more. absurd (omega (arith, more, place, place')) }
      ]
]

pub ends_of : {V : Type 0} (r : PlainRange) (ps : List (PlainRange × V)) (first last : PlainNumber) (ending : ℕ) → IsRange r → AreApart ps
    → first ≡ first_number r → last ≡ last_number r → ending ≡ ended_below last ps - ended_below first ps → AreEnds r ps first last ending
ends_of r ps first last ending range h is_first is_last e =
    subst (λ (k : ℕ). AreEnds r ps first last k) (sym e)
    (subst (λ (n : PlainNumber). AreEnds r ps n last (ended_below last ps - ended_below n ps)) (sym is_first)
    (subst (λ (n : PlainNumber). AreEnds r ps (first_number r) n (ended_below n ps - ended_below (first_number r) ps)) (sym is_last)
    (ends r ps range (apart_of ps h))))
