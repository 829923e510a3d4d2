-- What the next entry knows of reverse entries.
use Rattle.std.proofs.Common.{◌≡◌, ℕ, ◌<◌, Bool, true, false, not, ◌&&◌, ◌||◌, ◌==◌, nat_lt, nat_le, inl, inr, List, [], ◌∷◌, None, Some, IsSome, filter, find, length, refl, sym, ◌∙◌, ap, subst, arith}
use Rattle.std.specs.List.{AllByRecursion}
use Rattle.std.specs.Option.{is_some}
use Rattle.std.proofs.lemmas.Bool.{cond_both, cond-true, cond-false, cases_Bool, both_ways, and_parts, leb-true, leb-false}
use Rattle.std.proofs.lemmas.Bool.Decides.{nat_tests}
use Rattle.std.proofs.lemmas.Option.{none-some, same_Some}
use Rattle.num_range.specs.Range.{PlainRange, IsRange}
use Rattle.reg_entry.specs.declared.refusal.Refusal.TheVariants.{NoReverse, ReverseFull}
use Rattle.reg_entry.specs.declared.request.Request.TheVariants.{Return, SetReverse, ClearReverse}
use Rattle.reg_entry.specs.Card.{is_delegated}
use Rattle.reg_entry.specs.Entry.{PlainEntry}
use Rattle.reg_entry.specs.Partition.{IsPartition}
use Rattle.reg_entry.specs.Ranges.{space_rank, same_space, same_range, lies_inside, ranges_meet, value_of_range, first_meeting, AreApart}
use Rattle.reg_entry.specs.Register.{Register}
use Rattle.reg_entry.specs.Request.{is_request}
use Rattle.reg_entry.specs.Decision.{outside_pool, not_one_piece, no_reverse, no_reverse_space, journal_full, reverse_full}
use Rattle.reg_entry.specs.Next.{IsNextEntry}
use Rattle.reg_entry.specs.Whole.{piece_round, HasRange, IsReverseIn, IsWholeRegister}
use Rattle.reg_laws.proofs.Sameness.{same_space-true, same_range-true}
use Rattle.reg_laws.proofs.Accepting.{or_none, refuse_if_none, map_none}
use Rattle.reg_laws.proofs.NextFacts.{IsOnePiece, next_facts, allowed_if, exactly_one}
use Rattle.reg_laws.proofs.Knowing.{some_of}
use Rattle.reg_laws.proofs.Parts.{IsIn}
use Rattle.reg_laws.proofs.Keeping.{IsMet, inside_same}
use Rattle.reg_laws.proofs.RangeLists.{AllOf, NoneIs, RisesAfter, none_found, apart_parts, apart_rest, rises_from_before}
use Rattle.reg_laws.proofs.WholeLists.{some_and, reverses_known, others_unmet, room_or_there}
use Rattle.reg_laws.proofs.Fitting.{early_of, late_of}

-- ---- name servers that are set or taken out

-- where none passes the test, all are left
all_left : {T : Type 0} (test : PlainRange × T → Bool) (ss : List (PlainRange × T)) → NoneIs test ss → filter (λ s. not (test s)) ss ≡ ss
all_left test [] none = refl
all_left {T} test (s ∷ ss) none =
    let rest : List (PlainRange × T) = filter (λ t. not (test t)) ss in
    cond-true (not (test s)) (s ∷ rest) rest (ap not none.0) ∙ ap (λ (ts : List (PlainRange × T)). s ∷ ts) (all_left test ss none.1)

pub reverse_is_free : (r : Register) (e : PlainEntry) (range : PlainRange) (servers : List (List ℕ)) → IsNextEntry r e
    → e.request ≡ SetReverse range servers → value_of_range r.reverses range ≡ None → first_meeting r.reverses range ≡ None
reverse_is_free r e range servers next is new =
    let test : PlainRange × List (List ℕ) → Bool = λ s. same_range s.0 range in
    let none : NoneIs test r.reverses = none_found test r.reverses (map_none (λ s. s.1) (find test r.reverses) new) in
    subst (λ (ss : List (PlainRange × List (List ℕ))). first_meeting ss range ≡ None) (all_left test r.reverses none)
    (others_unmet r range servers (early_of r e (SetReverse range servers) next is))

pub reverse_room : (r : Register) (e : PlainEntry) (range : PlainRange) (servers : List (List ℕ)) → IsNextEntry r e
    → e.request ≡ SetReverse range servers → value_of_range r.reverses range ≡ None → length r.reverses < r.rooms.reverse
reverse_room r e range servers next is new =
    let a = or_none (no_reverse_space range) _ (late_of r e (SetReverse range servers) next is) in
    let b = or_none (journal_full r) _ a.1 in
    let c = or_none (reverse_full r range) None b.1 in
    let full : Bool = nat_le r.rooms.reverse (length r.reverses) in
    let there : Bool = is_some (value_of_range r.reverses range) in
    elim (room_or_there there full (refuse_if_none (not there && full) (ReverseFull r.rooms.reverse) c.0)) [
      | inl t ↦ absurd (both_ways there (ap is_some new) t)
      | inr f ↦ leb-false r.rooms.reverse (length r.reverses) f
    ]

pub cleared_is_there : (r : Register) (e : PlainEntry) (range : PlainRange) → IsNextEntry r e → e.request ≡ ClearReverse range
    → IsSome (value_of_range r.reverses range)
cleared_is_there r e range next is =
    some_of (value_of_range r.reverses range)
    (allowed_if (is_some (value_of_range r.reverses range)) NoReverse (or_none (no_reverse r range) None (early_of r e (ClearReverse range) next is)).0)

-- ---- a range that is returned

met : (s r : PlainRange) → ranges_meet s r ≡ true → IsMet s r
met s r e =
    let a = and_parts (same_space s.space r.space && nat_le s.first r.last) (nat_le r.first s.last) e in
    let b = and_parts (same_space s.space r.space) (nat_le s.first r.last) a.0 in
    record { one_space = same_space-true s.space r.space b.0; ends = leb-true r.first s.last a.1; begins = leb-true s.first r.last b.1 }

-- what has a number of a piece and lies in one piece lies inside that piece
met_is_inside : (r : Register) (range : PlainRange) (s : PlainRange × List (List ℕ)) → IsPartition r.pool → IsOnePiece r.pool range
    → IsRange s.0 × IsReverseIn r s → ranges_meet s.0 range ≡ true → lies_inside s.0 range ≡ true
met_is_inside r range s pieces one h e =
    let p = some_and (piece_round r s.0) (λ p. HasRange s.0 p × (is_delegated p.card.status ≡ true)) h.1.inside in
    let is : IsIn r.pool s.0 p.0.card = record { piece = p.0; holds_first = p.1; inside = p.2.0; card = refl } in
    inside_same r.pool s.0 range p.0.card pieces h.0.0 is (met s.0 range e) one

each_is_inside : (r : Register) (range : PlainRange) (ss : List (PlainRange × List (List ℕ))) → IsPartition r.pool → IsOnePiece r.pool range
    → AllOf (λ s. IsRange s.0 × IsReverseIn r s) ss → AllByRecursion (λ s. ranges_meet s.0 range ≡ true → lies_inside s.0 range ≡ true) ss
each_is_inside r range [] pieces one h = tt
each_is_inside r range (s ∷ ss) pieces one h = (met_is_inside r range s pieces one h.0, each_is_inside r range ss pieces one h.1)

pub returned_encloses : (r : Register) (e : PlainEntry) (range : PlainRange) (handle : List ℕ) → IsWholeRegister r → IsNextEntry r e
    → e.request ≡ Return range handle → AllByRecursion (λ s. ranges_meet s.0 range ≡ true → lies_inside s.0 range ≡ true) r.reverses
returned_encloses r e range handle h next is =
    let a = or_none (outside_pool r range) _ (early_of r e (Return range handle) next is) in
    let b = or_none (not_one_piece r range) _ a.1 in
    let valid = subst (λ q. is_request q ≡ true) is (next_facts r e next).valid in
    each_is_inside r range r.reverses h.pieces (exactly_one r range valid a.0 b.0) (reverses_known r h.reverses_apart h.reverses)

-- ---- the entry of another range

-- the ranges of the list but this one
abbrev others : {T : Type 0} → PlainRange → List (PlainRange × T) → List (PlainRange × T)
others r ss = filter (λ s. not (same_range s.0 r)) ss

pub none_of_others : {T : Type 0} (r : PlainRange) (ss : List (PlainRange × T)) → first_meeting ss r ≡ None → first_meeting (others r ss) r ≡ None
none_of_others r [] e = refl
none_of_others {T} r (s ∷ ss) e =
    elim (cases_Bool (ranges_meet s.0 r)) [
      | inl t ↦ absurd (none-some s (sym e ∙ cond-true (ranges_meet s.0 r) (Some s) (first_meeting ss r) t))
      | inr f ↦
          let none : first_meeting (others r ss) r ≡ None = none_of_others r ss (sym (cond-false (ranges_meet s.0 r) (Some s) (first_meeting ss r) f) ∙ e) in
          cond_both (not (same_range s.0 r)) (s ∷ others r ss) (others r ss) (λ xs. first_meeting xs r ≡ None)
          (λ left. cond-false (ranges_meet s.0 r) (Some s) (first_meeting (others r ss) r) f ∙ none)
          (λ gone. none)
    ]

pub first_of_others : {T : Type 0} (r : PlainRange) (ss : List (PlainRange × T)) (s : PlainRange × T) → first_meeting ss r ≡ Some s
    → same_range s.0 r ≡ false → first_meeting (others r ss) r ≡ Some s
first_of_others r [] s e other = absurd (none-some s e)
first_of_others {T} r (t ∷ ss) s e other =
    elim (cases_Bool (ranges_meet t.0 r)) [
      | inl meets ↦
          let same : t ≡ s = same_Some t s (sym (cond-true (ranges_meet t.0 r) (Some t) (first_meeting ss r) meets) ∙ e) in
          let left : not (same_range t.0 r) ≡ true = ap not (ap (λ (u : PlainRange × T). same_range u.0 r) same ∙ other) in
          ap (λ (xs : List (PlainRange × T)). first_meeting xs r) (cond-true (not (same_range t.0 r)) (t ∷ others r ss) (others r ss) left)
          ∙ cond-true (ranges_meet t.0 r) (Some t) (first_meeting (others r ss) r) meets ∙ ap (λ (u : PlainRange × T). Some u) same
      | inr f ↦
          let rest : first_meeting (others r ss) r ≡ Some s =
          first_of_others r ss s (sym (cond-false (ranges_meet t.0 r) (Some t) (first_meeting ss r) f) ∙ e) other in
          cond_both (not (same_range t.0 r)) (t ∷ others r ss) (others r ss) (λ xs. first_meeting xs r ≡ Some s)
          (λ left. cond-false (ranges_meet t.0 r) (Some t) (first_meeting (others r ss) r) f ∙ rest)
          (λ gone. rest)
    ]

behind_apart : (a b rf rl pf pl : ℕ) → (nat_lt a b || ((a == b) && nat_lt rl pf)) ≡ true → ((b == a) && nat_le pf rl && nat_le rf pl) ≡ false
behind_apart a b rf rl pf pl h = grind (arith, nat_tests)

-- none of the ranges behind this one has a number of it
none_behind : {T : Type 0} (r : PlainRange) (ss : List (PlainRange × T)) → RisesAfter r ss → first_meeting ss r ≡ None
none_behind r [] rises = refl
none_behind r (s ∷ ss) rises =
    let apart : ranges_meet s.0 r ≡ false = behind_apart (space_rank r.space) (space_rank s.0.space) r.first r.last s.0.first s.0.last rises.0 in
    cond-false (ranges_meet s.0 r) (Some s) (first_meeting ss r) apart ∙ none_behind r ss (rises_from_before r s.0 ss rises.0 rises.1 rises.2)

pub none_but_own : {T : Type 0} (r : PlainRange) (ss : List (PlainRange × T)) (s : PlainRange × T) → AreApart ss → first_meeting ss r ≡ Some s
    → same_range s.0 r ≡ true → first_meeting (others r ss) r ≡ None
none_but_own r [] s apart e own = absurd (none-some s e)
none_but_own {T} r (t ∷ ss) s apart e own =
    elim (cases_Bool (ranges_meet t.0 r)) [
      | inl meets ↦
          let same : t ≡ s = same_Some t s (sym (cond-true (ranges_meet t.0 r) (Some t) (first_meeting ss r) meets) ∙ e) in
          let mine : same_range t.0 r ≡ true = ap (λ (u : PlainRange × T). same_range u.0 r) same ∙ own in
          let rises : RisesAfter r ss = subst (λ (q : PlainRange). RisesAfter q ss) (same_range-true t.0 r mine) (apart_parts t ss apart).1 in
          ap (λ (xs : List (PlainRange × T)). first_meeting xs r) (cond-false (not (same_range t.0 r)) (t ∷ others r ss) (others r ss) (ap not mine))
          ∙ none_of_others r ss (none_behind r ss rises)
      | inr f ↦
          let rest : first_meeting (others r ss) r ≡ None =
          none_but_own r ss s (apart_rest t ss apart) (sym (cond-false (ranges_meet t.0 r) (Some t) (first_meeting ss r) f) ∙ e) own in
          cond_both (not (same_range t.0 r)) (t ∷ others r ss) (others r ss) (λ xs. first_meeting xs r ≡ None)
          (λ left. cond-false (ranges_meet t.0 r) (Some t) (first_meeting (others r ss) r) f ∙ rest)
          (λ gone. rest)
    ]
