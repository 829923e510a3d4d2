-- Ways that go back to the gate, one after another.
use Rattle.std.proofs.Common.{◌≡◌, ℕ, ◌+◌, ◌-◌, ◌≤◌, ◌||◌, Bool, true, false, List, [], ◌∷◌, ◌++◌, length, map, min, All, Option, None, Some, IfSome, inl, inr, refl, sym, ap, ◌∙◌, subst, append_assoc, append-nil, length-append, true≢false, arith}
use Rattle.std.specs.List.{list_any, sum_by}
use Rattle.std.proofs.lemmas.List.Sums.{sum_by-append}
use Rattle.std.proofs.lemmas.List.Elements.{All-head, All-tail}
use Rattle.door_face.specs.declared.door.Door.{Door}
use Rattle.door_face.specs.declared.outcome.Outcome.{Outcome}
use Rattle.door_face.specs.declared.outcome.Outcome.TheVariants.{Ended, Back}
use Rattle.door_face.specs.Doors.{WayRecord, more_by, with_last}
use Rattle.door_face.specs.Duties.{is_back}
use Rattle.link_face.specs.Faults.{HasRisen}
use Rattle.serve_run.specs.Along.{with_more}
use Rattle.serve_run.specs.Gate.{PlainGate}
use Rattle.serve_run.specs.declared.back.Tally.{Tally}
use Rattle.serve_run.specs.Back.{PlainEnd, AreTakenBack, IfWorked, IsTold, came_back, end_by, most, record_of, worked_ends}
use Rattle.serve_run.proofs.Giving.{none_left, none_lent}

abbrev pub nothing_counted : Tally
nothing_counted = record { connections = 0; has_failed = false; any_back = false }

more_none : {X : Type 0} (told : Option (List X)) → told ≡ with_more told []
more_none None = refl
more_none (Some xs) = ap (λ ys. Some ys) (sym (append-nil xs))

-- before the first
pub none_taken : (gate : PlainGate) → AreTakenBack gate [] gate nothing_counted
none_taken gate = record {
  returned = more_none gate.returned;
  lent = none_lent gate.lent;
  connections = omega arith;
  has_failed = refl;
  any_back = refl;
  full = λ door. (refl, refl);
  kept = omega arith;
  well = λ is. refl;
  failed = λ is. absurd (true≢false (sym is));
}

-- ---- a duty that came back

worked_and_back : (ends : List (Option PlainEnd)) → worked_ends (ends ++ None ∷ []) ≡ worked_ends ends
worked_and_back [] = refl
worked_and_back (None ∷ ends) = worked_and_back ends
worked_and_back (Some end ∷ ends) = ap (λ es. end ∷ es) (worked_and_back ends)

any_and_back : (ends : List (Option PlainEnd)) → true ≡ list_any came_back (ends ++ None ∷ [])
any_and_back [] = refl
any_and_back (None ∷ ends) = refl
any_and_back (Some end ∷ ends) = any_and_back ends

pub one_came_back : (first : PlainGate) (ends : List (Option PlainEnd)) (gate : PlainGate) (tally : Tally)
    → AreTakenBack first ends gate tally
    → AreTakenBack first (ends ++ None ∷ []) gate (record { connections = tally.connections; has_failed = tally.has_failed; any_back = true })
one_came_back first ends gate tally it =
    let same = worked_and_back ends in
    record {
      returned = it.returned ∙ ap (λ es. with_more first.returned (map record_of es)) (sym same);
      lent = it.lent ∙ ap (λ es. more_by (length es) gate.lent) (sym same);
      connections = it.connections ∙ ap (λ (es : List PlainEnd). min (sum_by (λ end. end.connections) es) most) (sym same);
      has_failed = it.has_failed ∙ ap (λ (es : List PlainEnd). list_any (λ end. end.has_failed) es) (sym same);
      any_back = any_and_back ends;
      full = it.full;
      kept = it.kept;
      well = it.well;
      failed = it.failed;
    }

-- ---- a duty that was worked

worked_and_one : (ends : List (Option PlainEnd)) (end : PlainEnd) → worked_ends (ends ++ Some end ∷ []) ≡ worked_ends ends ++ end ∷ []
worked_and_one [] end = refl
worked_and_one (None ∷ ends) end = worked_and_one ends end
worked_and_one (Some e ∷ ends) end = ap (λ es. e ∷ es) (worked_and_one ends end)

any_and_one : (ends : List (Option PlainEnd)) (end : PlainEnd) → list_any came_back ends ≡ list_any came_back (ends ++ Some end ∷ [])
any_and_one [] end = refl
any_and_one (None ∷ ends) end = refl
any_and_one (Some e ∷ ends) end = any_and_one ends end

returned_and_one : (told : Option (List WayRecord)) (es : List PlainEnd) (end : PlainEnd)
    → with_last (with_more told (map record_of es)) (record_of end) ≡ with_more told (map record_of (es ++ end ∷ []))
returned_and_one None es end = refl
returned_and_one (Some ws) es end = ap (λ ys. Some ys) (append_assoc ws (map record_of es) (record_of end ∷ []) ∙ ap (λ ys. ws ++ ys) (sym (map_end es end)))
  where
    map_end : (es : List PlainEnd) (end : PlainEnd) → map record_of (es ++ end ∷ []) ≡ map record_of es ++ record_of end ∷ []
    map_end [] end = refl
    map_end (e ∷ es) end = ap (λ ys. record_of e ∷ ys) (map_end es end)

lent_and_one : (told : Option ℕ) (n : ℕ) → more_by n (more_by 1 told) ≡ more_by (n + 1) told
lent_and_one None n = refl
lent_and_one (Some k) n = ap (λ j. Some j) (omega arith)

or_more : (a b c d : Bool) → (a || b) ≡ c → ((d || a) || b) ≡ (d || c)
or_more a b c true same = refl
or_more a b c false same = same

or_false : (b : Bool) → (false || b) ≡ (b || false)
or_false true = refl
or_false false = refl

failed_and_one : (es : List PlainEnd) (end : PlainEnd)
    → (list_any (λ (e : PlainEnd). e.has_failed) es || end.has_failed) ≡ list_any (λ (e : PlainEnd). e.has_failed) (es ++ end ∷ [])
failed_and_one [] end = or_false end.has_failed
failed_and_one (e ∷ es) end =
    or_more (list_any (λ (x : PlainEnd). x.has_failed) es) end.has_failed (list_any (λ (x : PlainEnd). x.has_failed) (es ++ end ∷ [])) e.has_failed (failed_and_one es end)

risen_by_first : (a b c : ℕ) → HasRisen a b → b ≤ c → HasRisen a c
risen_by_first a b c (inl rose) kept = inl (omega (arith, rose, kept))
risen_by_first a b c (inr full) kept = inr (omega (arith, full, kept))

risen_by_last : (a b c : ℕ) → a ≤ b → HasRisen b c → HasRisen a c
risen_by_last a b c kept (inl rose) = inl (omega (arith, rose, kept))
risen_by_last a b c kept (inr full) = inr full

-- what the step does to the count of faults
pub record IsCountedFault (failed : Bool) (before after : ℕ) : Type 0 where
  pub kept : before ≤ after
  pub risen : failed ≡ true → HasRisen before after
  pub same : failed ≡ false → after ≡ before

still_well : (a b : Bool) (first mid new : ℕ) → IsCountedFault b mid new → (a ≡ false → mid ≡ first) → (a || b) ≡ false → new ≡ first
still_well true b first mid new step well is = absurd (true≢false is)
still_well false true first mid new step well is = absurd (true≢false is)
still_well false false first mid new step well is = step.same refl ∙ well refl

has_failed_then : (a b : Bool) (first mid new : ℕ) → IsCountedFault b mid new → first ≤ mid → (a ≡ true → HasRisen first mid) → (a || b) ≡ true
    → HasRisen first new
has_failed_then true b first mid new step kept failed is = risen_by_first first mid new (failed refl) step.kept
has_failed_then false true first mid new step kept failed is = risen_by_last first mid new kept (step.risen refl)
has_failed_then false false first mid new step kept failed is = absurd (true≢false (sym is))

pub one_worked : (first : PlainGate) (ends : List (Option PlainEnd)) (end : PlainEnd) (mid new : PlainGate) (tally : Tally) (count : ℕ)
    → AreTakenBack first ends mid tally
    → new.returned ≡ with_last mid.returned (record_of end)
    → mid.lent ≡ more_by 1 new.lent
    → ((door : Door) → new.given door ≡ mid.given door) → ((door : Door) → new.to_come door ≡ mid.to_come door)
    → IsCountedFault end.has_failed mid.faults new.faults
    → count ≡ min (tally.connections + end.connections) most
    → AreTakenBack first (ends ++ Some end ∷ []) new
    (record { connections = count; has_failed = tally.has_failed || end.has_failed; any_back = tally.any_back })
one_worked first ends end mid new tally count it returned lent given to_come fault counted =
    let same = worked_and_one ends end in
    let es : List PlainEnd = worked_ends ends in
    record {
      returned = returned ∙ ap (λ told. with_last told (record_of end)) it.returned ∙ returned_and_one first.returned es end
          ∙ ap (λ xs. with_more first.returned (map record_of xs)) (sym same);
      lent = it.lent ∙ ap (λ told. more_by (length es) told) lent ∙ lent_and_one new.lent (length es)
          ∙ ap (λ n. more_by n new.lent) (sym (length-append es (end ∷ [])))
          ∙ ap (λ (xs : List PlainEnd). more_by (length xs) new.lent) (sym same);
      connections =
          let total = sum_by-append (λ (e : PlainEnd). e.connections) es (end ∷ []) in
          let before = it.connections in
          let now : count ≡ min (sum_by (λ (e : PlainEnd). e.connections) (es ++ end ∷ [])) most = omega (arith, total, before, counted) in
          now ∙ ap (λ (xs : List PlainEnd). min (sum_by (λ e. e.connections) xs) most) (sym same);
      has_failed = ap (λ b. b || end.has_failed) it.has_failed ∙ failed_and_one es end
          ∙ ap (λ (xs : List PlainEnd). list_any (λ e. e.has_failed) xs) (sym same);
      any_back = it.any_back ∙ any_and_one ends end;
      full = λ door. (given door ∙ (it.full door).0, to_come door ∙ (it.full door).1);
      kept = let one = it.kept in let two = fault.kept in omega (arith, one, two);
      well = still_well tally.has_failed end.has_failed first.faults mid.faults new.faults fault it.well;
      failed = has_failed_then tally.has_failed end.has_failed first.faults mid.faults new.faults fault it.kept it.failed;
    }

-- one less is lent
pub fewer_lent : (old new : Option ℕ) (n : ℕ) → old ≡ more_by 1 new → IfSome old (λ k. n + 1 ≤ k) → IfSome new (λ k. n ≤ k)
fewer_lent old None n same enough = tt
fewer_lent old (Some k) n same enough =
    let here : n + 1 ≤ k + 1 = subst (λ told. IfSome told (λ j. n + 1 ≤ j)) same enough in omega (arith, here)

-- ---- all of them

-- those that came back are those outcomes
pub back_alike : {D : Type 0} (end_of : D → PlainEnd) (outs : List (Outcome D)) → list_any came_back (map (end_by end_of) outs) ≡ list_any is_back outs
back_alike end_of [] = refl
back_alike end_of (Back ∷ outs) = refl
back_alike end_of (Ended x ∷ outs) = back_alike end_of outs

-- where none came back, all were worked
pub all_worked : (ends : List (Option PlainEnd)) → list_any came_back ends ≡ false → ends ≡ map (λ end. Some end) (worked_ends ends)
all_worked [] none = refl
all_worked (None ∷ ends) none = absurd (true≢false none)
all_worked (Some end ∷ ends) none = ap (λ es. Some end ∷ es) (all_worked ends none)

-- so many outcomes are left, and those before them are taken back
pub record AreTakenOf {D : Type 0} (end_of : D → PlainEnd) (all left : List (Outcome D)) (old new : PlainGate) (tally : Tally) : Type 0 where
  pub ends : List (Option PlainEnd)
  pub joined : ends ++ map (end_by end_of) left ≡ map (end_by end_of) all
  pub taken : AreTakenBack old ends new tally

pub none_done : {D : Type 0} (end_of : D → PlainEnd) (all left : List (Outcome D)) (gate : PlainGate) → left ≡ all
    → AreTakenOf end_of all left gate gate nothing_counted
none_done end_of all left gate same = record { ends = []; joined = ap (λ outs. map (end_by end_of) outs) same; taken = none_taken gate }

pub one_done : {D : Type 0} (end_of : D → PlainEnd) (all left rest : List (Outcome D)) (out : Outcome D) (old mid new : PlainGate) (before after : Tally)
    → AreTakenOf end_of all left old mid before → left ≡ out ∷ rest
    → ((first : PlainGate) (ends : List (Option PlainEnd)) → AreTakenBack first ends mid before
    → AreTakenBack first (ends ++ end_by end_of out ∷ []) new after)
    → AreTakenOf end_of all rest old new after
one_done end_of all left rest out old mid new before after it first step = record {
  ends = it.ends ++ end_by end_of out ∷ [];
  joined = append_assoc it.ends (end_by end_of out ∷ []) (map (end_by end_of) rest)
      ∙ ap (λ outs. it.ends ++ map (end_by end_of) outs) (sym first) ∙ it.joined;
  taken = step old it.ends it.taken;
}

pub all_done : {D : Type 0} (end_of : D → PlainEnd) (all left : List (Outcome D)) (old new : PlainGate) (tally : Tally)
    → AreTakenOf end_of all left old new tally → length left ≡ 0 → AreTakenBack old (map (end_by end_of) all) new tally
all_done end_of all left old new tally it none =
    let joined = ap (λ outs. it.ends ++ map (end_by end_of) outs) (sym (none_left left none)) ∙ it.joined in
    subst (λ ends. AreTakenBack old ends new tally) (sym (append-nil it.ends) ∙ joined) it.taken

pub came_back_as : {D : Type 0} (end_of : D → PlainEnd) (all left : List (Outcome D)) (old new : PlainGate) (tally : Tally) (b : Bool)
    → AreTakenOf end_of all left old new tally → length left ≡ 0 → tally.any_back ≡ b → list_any is_back all ≡ b
came_back_as end_of all left old new tally b it none is =
    sym (back_alike end_of all) ∙ sym (all_done end_of all left old new tally it none).any_back ∙ is

-- where no way failed and no duty came back
pub well_done : {D : Type 0} (end_of : D → PlainEnd) (all left : List (Outcome D)) (old new : PlainGate) (tally : Tally)
    → AreTakenOf end_of all left old new tally → length left ≡ 0 → tally.has_failed ≡ false → tally.any_back ≡ false
    → AreTakenBack old (map (end_by end_of) all) new (record { connections = tally.connections; has_failed = false; any_back = false })
well_done end_of all left old new tally it none well worked =
    let done = all_done end_of all left old new tally it none in
    record {
      returned = done.returned;
      lent = done.lent;
      connections = done.connections;
      has_failed = sym well ∙ done.has_failed;
      any_back = sym worked ∙ done.any_back;
      full = done.full;
      kept = done.kept;
      well = λ is. done.well well;
      failed = λ is. absurd (true≢false (sym is));
    }

-- what the first of them and the others are told by
pub first_is_told : {D : Type 0} (end_of : D → PlainEnd) (left rest : List (Outcome D)) (out : Outcome D) → left ≡ out ∷ rest
    → All (IfWorked IsTold) (map (end_by end_of) left) → IfWorked IsTold (end_by end_of out)
first_is_told end_of left rest out same all =
    All-head (IfWorked IsTold) (end_by end_of out) (map (end_by end_of) rest) (subst (λ outs. All (IfWorked IsTold) (map (end_by end_of) outs)) same all)

pub rest_are_told : {D : Type 0} (end_of : D → PlainEnd) (left rest : List (Outcome D)) (out : Outcome D) → left ≡ out ∷ rest
    → All (IfWorked IsTold) (map (end_by end_of) left) → All (IfWorked IsTold) (map (end_by end_of) rest)
rest_are_told end_of left rest out same all =
    All-tail (IfWorked IsTold) (end_by end_of out) (map (end_by end_of) rest) (subst (λ outs. All (IfWorked IsTold) (map (end_by end_of) outs)) same all)

-- one more is lent than are left behind the first
pub enough_lent : {D : Type 0} (left rest : List (Outcome D)) (out : Outcome D) (lent : Option ℕ) → left ≡ out ∷ rest
    → IfSome lent (λ n. length left ≤ n) → IfSome lent (λ n. length rest + 1 ≤ n)
enough_lent left rest out None same enough = tt
enough_lent left rest out (Some n) same enough = let long = ap (λ outs. length outs) same in omega (arith, long, enough)
