-- What is found in lists of ranges: of ranges apart one alone has all numbers of a range, or none has.
use Rattle.std.proofs.Common.{◌≡◌, ℕ, ◌≤◌, Bool, true, false, ◌&&◌, ◌||◌, ◌==◌, nat_lt, nat_le, inl, inr, List, [], ◌∷◌, Option, Some, find, filter, option_to_list, refl, sym, ◌∙◌, ap, subst, arith}
use Rattle.std.proofs.lemmas.Bool.{cases_Bool, cond-true, cond-false}
use Rattle.std.proofs.lemmas.Bool.Decides.{nat_tests}
use Rattle.std.proofs.lemmas.Option.{none-some, same_Some}
use Rattle.num_range.specs.Range.{PlainRange, IsRange}
use Rattle.reg_entry.specs.Ranges.{space_rank, lies_inside, AreApart}
use Rattle.reg_laws.proofs.RangeLists.{AllOf, RisesAfter, apart_parts, apart_rest, rises_from_before}

-- what is found passes the test, and what holds of each holds of it
pub found_of : {T : Type 0} (P : PlainRange × T → Type 0) (test : PlainRange × T → Bool) (ss : List (PlainRange × T)) (s : PlainRange × T) → AllOf P ss
    → find test ss ≡ Some s → (test s ≡ true) × P s
found_of P test [] s all e = absurd (none-some s e)
found_of P test (t ∷ ss) s all e =
    elim (cases_Bool (test t)) [
      | inl passes ↦
          subst (λ u. (test u ≡ true) × P u) (same_Some t s (sym (cond-true (test t) (Some t) (find test ss) passes) ∙ e)) (passes, all.0)
      | inr fails ↦ found_of P test ss s all.1 (sym (cond-false (test t) (Some t) (find test ss) fails) ∙ e)
    ]

enclosed_once : (a b s pf pl qf ql rf rl : ℕ) → rf ≤ rl → (nat_lt a b || ((a == b) && nat_lt pl qf)) ≡ true
    → ((s == a) && nat_le pf rf && nat_le rl pl) ≡ true → ((s == b) && nat_le qf rf && nat_le rl ql) ≡ false
enclosed_once a b s pf pl qf ql rf rl o h e = grind (arith, nat_tests)

-- none of the ranges behind the one that the range lies inside
none_behind : {T : Type 0} (r q : PlainRange) (ps : List (PlainRange × T)) → IsRange r → RisesAfter q ps → lies_inside r q ≡ true
    → filter (λ s. lies_inside r s.0) ps ≡ []
none_behind r q [] range rises e = refl
none_behind r q (p ∷ ps) range rises e =
    let out : lies_inside r p.0 ≡ false =
    enclosed_once (space_rank q.space) (space_rank p.0.space) (space_rank r.space) q.first q.last p.0.first p.0.last r.first r.last range.0 rises.0 e in
    cond-false (lies_inside r p.0) (p ∷ filter (λ s. lies_inside r s.0) ps) (filter (λ s. lies_inside r s.0) ps) out
    ∙ none_behind r q ps range (rises_from_before q p.0 ps rises.0 rises.1 rises.2) e

pub one_encloses : {T : Type 0} (r : PlainRange) (ps : List (PlainRange × T)) → IsRange r → AreApart ps
    → filter (λ s. lies_inside r s.0) ps ≡ option_to_list (find (λ s. lies_inside r s.0) ps)
one_encloses r [] range apart = refl
one_encloses {T} r (p ∷ ps) range apart =
    let others : List (PlainRange × T) = filter (λ s. lies_inside r s.0) ps in
    elim (cases_Bool (lies_inside r p.0)) [
      | inl e ↦
          cond-true (lies_inside r p.0) (p ∷ others) others e
          ∙ ap (λ (xs : List (PlainRange × T)). p ∷ xs) (none_behind r p.0 ps range (apart_parts p ps apart).1 e)
          ∙ ap (λ (o : Option (PlainRange × T)). option_to_list o) (sym (cond-true (lies_inside r p.0) (Some p) (find (λ s. lies_inside r s.0) ps) e))
      | inr e ↦
          cond-false (lies_inside r p.0) (p ∷ others) others e
          ∙ one_encloses r ps range (apart_rest p ps apart)
          ∙ ap (λ (o : Option (PlainRange × T)). option_to_list o) (sym (cond-false (lies_inside r p.0) (Some p) (find (λ s. lies_inside r s.0) ps) e))
    ]
