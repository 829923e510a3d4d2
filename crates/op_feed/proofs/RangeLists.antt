-- Lists of ranges that carry a value, parted at the range that changes.
use Rattle.std.proofs.Common.{◌≡◌, ℕ, ◌≤◌, Bool, true, false, cond, not, ◌&&◌, ◌||◌, ◌==◌, nat_lt, nat_le, inl, inr, List, [], ◌∷◌, ◌++◌, Option, None, Some, filter, find, refl, sym, ◌∙◌, ap, subst, arith}
use Rattle.std.specs.Option.{is_some, option_map}
use Rattle.std.proofs.lemmas.Bool.{cond-true, cond-false, cases_Bool, both_ways, and_from, le-leb, false_from_ne_true}
use Rattle.std.proofs.lemmas.Bool.Decides.{nat_tests}
use Rattle.std.proofs.lemmas.Option.{none-some, same_Some}
use Rattle.num_range.specs.Range.{PlainRange, IsRange}
use Rattle.reg_entry.specs.Ranges.{space_rank, same_space, same_range, range_before, ranges_meet, value_of_range, first_meeting, with_range, without_range, IsBelow, AreApart}
use Rattle.reg_laws.proofs.Accepting.{map_none}
use Rattle.reg_laws.proofs.RangeLists.{NoneIs, none_found, RisesAfter, apart_parts, apart_rest, below_cases, below_found}
use Rattle.reg_laws.proofs.Sameness.{same_range-true, same_space-refl}

-- the list parted at a value of the range, which becomes another
pub record IsPartedAt {T : Type 0} (r : PlainRange) (old new middle replaced : List (PlainRange × T)) : Type 0 where
  pub front : List (PlainRange × T)
  pub back : List (PlainRange × T)
  pub was : old ≡ front ++ (middle ++ back)
  pub stands : new ≡ front ++ (replaced ++ back)

under : {T : Type 0} (r : PlainRange) (p : PlainRange × T) (old new middle replaced : List (PlainRange × T)) → IsPartedAt r old new middle replaced
    → IsPartedAt r (p ∷ old) (p ∷ new) middle replaced
under {T} r p old new middle replaced h = record {
  front = p ∷ h.front;
  back = h.back;
  was = ap (λ (ps : List (PlainRange × T)). p ∷ ps) h.was;
  stands = ap (λ (ps : List (PlainRange × T)). p ∷ ps) h.stands;
}

-- ---- a new range

pub parted_new : {T : Type 0} (ps : List (PlainRange × T)) (r : PlainRange) (x : T) → value_of_range ps r ≡ None
    → IsPartedAt r ps (with_range ps r x) [] ((r, x) ∷ [])
parted_new [] r x h = record { front = []; back = []; was = refl; stands = refl }
parted_new {T} (p ∷ ps) r x h =
    let same : Bool = same_range p.0 r in
    let other : List (PlainRange × T) = cond (range_before r p.0) ((r, x) ∷ p ∷ ps) (p ∷ with_range ps r x) in
    elim (cases_Bool same) [
      | inl t ↦
          absurd (none-some p (sym (map_none (λ (s : PlainRange × T). s.1) (find (λ s. same_range s.0 r) (p ∷ ps)) h)
          ∙ cond-true same (Some p) (find (λ s. same_range s.0 r) ps) t))
      | inr f ↦
          let rest : value_of_range ps r ≡ None = sym (ap (λ o. option_map (λ (s : PlainRange × T). s.1) o) (cond-false same (Some p) (find (λ s. same_range s.0 r) ps) f)) ∙ h in
          let past : with_range (p ∷ ps) r x ≡ other = cond-false same ((r, x) ∷ ps) other f in
          elim (cases_Bool (range_before r p.0)) [
            | inl t ↦ record {
              front = [];
              back = p ∷ ps;
              was = refl;
              stands = past ∙ cond-true (range_before r p.0) ((r, x) ∷ p ∷ ps) (p ∷ with_range ps r x) t;
            }
            | inr g ↦
                subst (λ (new : List (PlainRange × T)). IsPartedAt r (p ∷ ps) new [] ((r, x) ∷ []))
                (sym (past ∙ cond-false (range_before r p.0) ((r, x) ∷ p ∷ ps) (p ∷ with_range ps r x) g))
                (under r p ps (with_range ps r x) [] ((r, x) ∷ []) (parted_new ps r x rest))
          ]
    ]

-- where no range of the list has a number of this one, none is this one
pub none_is_unmet : {T : Type 0} (ps : List (PlainRange × T)) (r : PlainRange) → IsRange r → first_meeting ps r ≡ None → value_of_range ps r ≡ None
none_is_unmet [] r range h = refl
none_is_unmet {T} (p ∷ ps) r range h =
    let meets : Bool = ranges_meet p.0 r in
    let same : Bool = same_range p.0 r in
    elim (cases_Bool meets) [
      | inl t ↦ absurd (none-some p (sym h ∙ cond-true meets (Some p) (first_meeting ps r) t))
      | inr f ↦
          let other : same ≡ false =
          false_from_ne_true same (λ t. both_ways meets f (subst (λ s. ranges_meet s r ≡ true) (sym (same_range-true p.0 r t)) (meets_itself r range))) in
          ap (λ o. option_map (λ (s : PlainRange × T). s.1) o) (cond-false same (Some p) (find (λ s. same_range s.0 r) ps) other)
          ∙ none_is_unmet ps r range (sym (cond-false meets (Some p) (first_meeting ps r) f) ∙ h)
    ]
  where
    meets_itself : (r : PlainRange) → IsRange r → ranges_meet r r ≡ true
    meets_itself r range =
        let order = le-leb r.first r.last range.0 in
        and_from (same_space r.space r.space && nat_le r.first r.last) (nat_le r.first r.last)
        (and_from (same_space r.space r.space) (nat_le r.first r.last) (same_space-refl r.space) order) order

-- ---- a range that is there

not_below_itself : (r : PlainRange) → r.first ≤ r.last → IsBelow r r → ⊥
not_below_itself r order h = elim (below_cases r r h) [ inl lt ↦ omega arith | inr eq ↦ let l = eq.1 in omega arith ]

-- behind a range there is no other of its numbers
none_behind_it : {T : Type 0} (q : PlainRange) (ps : List (PlainRange × T)) → q.first ≤ q.last → RisesAfter q ps → NoneIs (λ s. same_range s.0 q) ps
none_behind_it {T} q ps order h =
    let none : is_some (value_of_range ps q) ≡ false =
    false_from_ne_true (is_some (value_of_range ps q)) (λ t. not_below_itself q order (below_found q ps q h t)) in
    none_found (λ (s : PlainRange × T). same_range s.0 q) ps (map_none (λ (s : PlainRange × T). s.1) (find (λ s. same_range s.0 q) ps) (is_none (value_of_range ps q) none))
  where
    is_none : {T : Type 0} (o : Option T) → is_some o ≡ false → o ≡ None
    is_none None e = refl
    is_none (Some x) e = absurd (both_ways true e refl)

all_stay : {T : Type 0} (test : PlainRange × T → Bool) (ps : List (PlainRange × T)) → NoneIs test ps → filter (λ s. not (test s)) ps ≡ ps
all_stay test [] none = refl
all_stay {T} test (s ∷ ps) none =
    let rest : List (PlainRange × T) = filter (λ t. not (test t)) ps in
    cond-true (not (test s)) (s ∷ rest) rest (ap not none.0) ∙ ap (λ (ts : List (PlainRange × T)). s ∷ ts) (all_stay test ps none.1)

value_there : {T : Type 0} (p : PlainRange × T) (ps : List (PlainRange × T)) (r : PlainRange) (x : T) → same_range p.0 r ≡ true
    → value_of_range (p ∷ ps) r ≡ Some x → p ≡ (r, x)
value_there {T} p ps r x t h =
    let e : p.1 ≡ x = same_Some p.1 x (sym (ap (λ o. option_map (λ (s : PlainRange × T). s.1) o) (cond-true (same_range p.0 r) (Some p) (find (λ s. same_range s.0 r) ps) t)) ∙ h) in
    ap (λ (q : PlainRange). (q, p.1)) (same_range-true p.0 r t) ∙ ap (λ (y : T). (r, y)) e

value_later : {T : Type 0} (p : PlainRange × T) (ps : List (PlainRange × T)) (r : PlainRange) (x : T) → same_range p.0 r ≡ false
    → value_of_range (p ∷ ps) r ≡ Some x → value_of_range ps r ≡ Some x
value_later {T} p ps r x f h =
    sym (ap (λ o. option_map (λ (s : PlainRange × T). s.1) o) (cond-false (same_range p.0 r) (Some p) (find (λ s. same_range s.0 r) ps) f)) ∙ h

pub parted_out : {T : Type 0} (ps : List (PlainRange × T)) (r : PlainRange) (x : T) → AreApart ps → value_of_range ps r ≡ Some x
    → IsPartedAt r ps (without_range ps r) ((r, x) ∷ []) []
parted_out {T} [] r x h e = absurd (none-some x e)
parted_out {T} (p ∷ ps) r x h e =
    let same : Bool = same_range p.0 r in
    let parts = apart_parts p ps h in
    let rest : List (PlainRange × T) = without_range ps r in
    elim (cases_Bool same) [
      | inl t ↦
          let is : p ≡ (r, x) = value_there p ps r x t e in
          let none : NoneIs (λ s. same_range s.0 r) ps =
          subst (λ q. NoneIs (λ (s : PlainRange × T). same_range s.0 q) ps) (same_range-true p.0 r t) (none_behind_it p.0 ps parts.0.0 parts.1) in
          record {
            front = [];
            back = ps;
            was = ap (λ (q : PlainRange × T). q ∷ ps) is;
            stands = cond-false (not same) (p ∷ rest) rest (ap not t) ∙ all_stay (λ s. same_range s.0 r) ps none;
          }
      | inr f ↦
          subst (λ (new : List (PlainRange × T)). IsPartedAt r (p ∷ ps) new ((r, x) ∷ []) [])
          (sym (cond-true (not same) (p ∷ rest) rest (ap not f)))
          (under r p ps rest ((r, x) ∷ []) [] (parted_out ps r x (apart_rest p ps h) (value_later p ps r x f e)))
    ]

not_before_numbers : (a b rf rl pf pl : ℕ) → rf ≤ rl → pf ≤ pl → (nat_lt b a || ((b == a) && nat_lt pl rf)) ≡ true
    → (nat_lt a b || ((a == b) && (nat_lt rf pf || ((rf == pf) && nat_lt rl pl)))) ≡ false
not_before_numbers a b rf rl pf pl h k e = grind (arith, nat_tests)

not_before : (r p : PlainRange) → IsRange r → IsRange p → IsBelow p r → range_before r p ≡ false
not_before r p h k e = not_before_numbers (space_rank r.space) (space_rank p.space) r.first r.last p.first p.last h.0 k.0 e

pub parted_other : {T : Type 0} (ps : List (PlainRange × T)) (r : PlainRange) (x y : T) → IsRange r → AreApart ps → value_of_range ps r ≡ Some x
    → IsPartedAt r ps (with_range ps r y) ((r, x) ∷ []) ((r, y) ∷ [])
parted_other {T} [] r x y range h e = absurd (none-some x e)
parted_other {T} (p ∷ ps) r x y range h e =
    let same : Bool = same_range p.0 r in
    let parts = apart_parts p ps h in
    let rest : List (PlainRange × T) = with_range ps r y in
    let other : List (PlainRange × T) = cond (range_before r p.0) ((r, y) ∷ p ∷ ps) (p ∷ rest) in
    elim (cases_Bool same) [
      | inl t ↦ record {
        front = [];
        back = ps;
        was = ap (λ (q : PlainRange × T). q ∷ ps) (value_there p ps r x t e);
        stands = cond-true same ((r, y) ∷ ps) other t;
      }
      | inr f ↦
          let later : value_of_range ps r ≡ Some x = value_later p ps r x f e in
          let behind : range_before r p.0 ≡ false = not_before r p.0 range parts.0 (below_found p.0 ps r parts.1 (ap is_some later)) in
          subst (λ (new : List (PlainRange × T)). IsPartedAt r (p ∷ ps) new ((r, x) ∷ []) ((r, y) ∷ []))
          (sym (cond-false same ((r, y) ∷ ps) other f ∙ cond-false (range_before r p.0) ((r, y) ∷ p ∷ ps) (p ∷ rest) behind))
          (under r p ps rest ((r, x) ∷ []) ((r, y) ∷ []) (parted_other ps r x y range (apart_rest p ps h) later))
    ]
