-- Ways that a gate gives, one after another.
use Rattle.std.proofs.Common.{◌≡◌, ◌≢◌, ℕ, ◌+◌, List, [], ◌∷◌, ◌++◌, length, map, All, Option, None, Some, IfSome, refl, sym, ap, ◌∙◌, subst, append_assoc, length-append, arith}
use Rattle.std.proofs.lemmas.List.Elements.{All-head, All-nil, All-push, All-tail}
use Rattle.door_face.specs.declared.door.Door.{Door}
use Rattle.door_face.specs.Doors.{more_by}
use Rattle.serve_run.specs.Along.{PlainWay}
use Rattle.serve_run.specs.Gate.{PlainGate, IsNewWay, IsFrontGiven, HasGiven}
use Rattle.serve_run.specs.Duties.{AreDuties}

none_ahead : (told : Option (List ℕ)) → IfSome told (IsFrontGiven [] told)
none_ahead None = tt
none_ahead (Some ns) = record { front = []; rest = ns; numbers_are = refl; front_is = refl; rest_is = refl }

pub none_lent : (told : Option ℕ) → told ≡ more_by 0 told
none_lent None = refl
none_lent (Some n) = ap (λ k. Some k) (omega arith)

-- before the first
pub none_given : (door : Door) (port : ℕ) (gate : PlainGate) → HasGiven door port gate [] gate
none_given door port gate = record {
  fresh = All-nil (IsNewWay door port);
  given = omega arith;
  to_come = none_ahead (gate.to_come door);
  other = λ other differs. (refl, refl);
  lent = none_lent gate.lent;
  returned = refl;
  faults = refl;
}

-- the next way has as many links left as the next number tells
pub record IsNextGiven (way : PlainWay) (after : Option (List ℕ)) (numbers : List ℕ) : Type 0 where
  pub number : ℕ
  pub rest : List ℕ
  pub numbers_are : numbers ≡ number ∷ rest
  pub left : way.links_left ≡ Some number
  pub rest_is : after ≡ Some rest

map_more : {A B : Type 0} (f : A → B) (xs : List A) (x : A) → map f (xs ++ x ∷ []) ≡ map f xs ++ f x ∷ []
map_more f [] x = refl
map_more f (y ∷ xs) x = ap (λ zs. f y ∷ zs) (map_more f xs x)

front_more : (ways : List PlainWay) (way : PlainWay) (mid after : Option (List ℕ)) (numbers : List ℕ) → IsFrontGiven ways mid numbers
    → IfSome mid (IsNextGiven way after) → IsFrontGiven (ways ++ way ∷ []) after numbers
front_more ways way mid after numbers front next =
    let it : IsNextGiven way after front.rest = subst (λ told. IfSome told (IsNextGiven way after)) front.rest_is next in
    record {
      front = front.front ++ it.number ∷ [];
      rest = it.rest;
      numbers_are = front.numbers_are ∙ ap (λ ns. front.front ++ ns) it.numbers_are ∙ sym (append_assoc front.front (it.number ∷ []) it.rest);
      front_is = map_more (λ w. w.links_left) ways way ∙ ap (λ ns. ns ++ way.links_left ∷ []) front.front_is
          ∙ ap (λ n. map (λ k. Some k) front.front ++ n ∷ []) it.left ∙ sym (map_more (λ k. Some k) front.front it.number);
      rest_is = it.rest_is;
    }

to_come_more : (told : Option (List ℕ)) (ways : List PlainWay) (way : PlainWay) (mid after : Option (List ℕ)) → IfSome told (IsFrontGiven ways mid)
    → IfSome mid (IsNextGiven way after) → IfSome told (IsFrontGiven (ways ++ way ∷ []) after)
to_come_more None ways way mid after front next = tt
to_come_more (Some numbers) ways way mid after front next = front_more ways way mid after numbers front next

lent_more : (told : Option ℕ) (n : ℕ) → more_by 1 (more_by n told) ≡ more_by (n + 1) told
lent_more None n = refl
lent_more (Some k) n = ap (λ j. Some j) (omega arith)

-- one more way
pub one_more_given : (door : Door) (port : ℕ) (old : PlainGate) (ways : List PlainWay) (mid : PlainGate) (way : PlainWay) (new : PlainGate)
    → HasGiven door port old ways mid → IsNewWay door port way → IfSome (mid.to_come door) (IsNextGiven way (new.to_come door))
    → new.given door ≡ mid.given door + 1
    → new.lent ≡ more_by 1 mid.lent
    → ((other : Door) → other ≢ door → (new.to_come other ≡ mid.to_come other) × (new.given other ≡ mid.given other))
    → new.returned ≡ mid.returned → new.faults ≡ mid.faults
    → HasGiven door port old (ways ++ way ∷ []) new
one_more_given door port old ways mid way new so_far fresh next given lent other returned faults =
    let count : length (ways ++ way ∷ []) ≡ length ways + 1 = length-append ways (way ∷ []) in
    record {
      fresh = All-push (IsNewWay door port) ways way so_far.fresh fresh;
      given = let before = so_far.given in omega (arith, given, before, count);
      to_come = to_come_more (old.to_come door) ways way (mid.to_come door) (new.to_come door) so_far.to_come next;
      other = λ o differs. (
        (other o differs).0 ∙ (so_far.other o differs).0,
        (other o differs).1 ∙ (so_far.other o differs).1,
      );
      lent = lent ∙ ap (λ told. more_by 1 told) so_far.lent ∙ lent_more old.lent (length ways) ∙ ap (λ n. more_by n old.lent) (sym count);
      returned = returned ∙ so_far.returned;
      faults = faults ∙ so_far.faults;
    }

-- ---- duties

pub none_left : {X : Type 0} (xs : List X) → length xs ≡ 0 → xs ≡ []
none_left [] none = refl
none_left (x ∷ xs) none = grind (arith, none)

pub none_made : {H D P : Type 0} (make : H → D) (way_of : H → PlainWay) (pass_of : H → P) (Good : H → Type 0) (door : Door) (port : ℕ)
    (gate : PlainGate) (passes left : List P) (duties : List D) → left ≡ passes → duties ≡ []
    → AreDuties make way_of pass_of Good door port gate passes left duties gate
none_made make way_of pass_of Good door port gate passes left duties all none =
    record { parts = []; made = none; given = none_given door port gate; passes_are = all; good = All-nil Good }

-- where no pass is left
pub all_made : {H D P : Type 0} (make : H → D) (way_of : H → PlainWay) (pass_of : H → P) (Good : H → Type 0) (door : Door) (port : ℕ)
    (old : PlainGate) (passes left : List P) (duties : List D) (new : PlainGate) → length left ≡ 0
    → AreDuties make way_of pass_of Good door port old passes left duties new → AreDuties make way_of pass_of Good door port old passes [] duties new
all_made make way_of pass_of Good door port old passes left duties new none it =
    subst (λ ps. AreDuties make way_of pass_of Good door port old passes ps duties new) (none_left left none) it

pub one_more_made : {H D P : Type 0} (make : H → D) (way_of : H → PlainWay) (pass_of : H → P) (Good : H → Type 0) (door : Door) (port : ℕ)
    (old : PlainGate) (passes left next : List P) (duties after : List D) (mid new : PlainGate) (part : H)
    → AreDuties make way_of pass_of Good door port old passes left duties mid
    → left ≡ pass_of part ∷ next → after ≡ duties ++ make part ∷ [] → Good part → IsNewWay door port (way_of part)
    → IfSome (mid.to_come door) (IsNextGiven (way_of part) (new.to_come door))
    → new.given door ≡ mid.given door + 1
    → new.lent ≡ more_by 1 mid.lent
    → ((other : Door) → other ≢ door → (new.to_come other ≡ mid.to_come other) × (new.given other ≡ mid.given other))
    → new.returned ≡ mid.returned → new.faults ≡ mid.faults
    → AreDuties make way_of pass_of Good door port old passes next after new
one_more_made make way_of pass_of Good door port old passes left next duties after mid new part so_far one_less one_more well fresh to_come given lent other
    returned faults =
    let more = one_more_given door port old (map way_of so_far.parts) mid (way_of part) new so_far.given fresh to_come given lent other returned faults in
    record {
      parts = so_far.parts ++ part ∷ [];
      made = one_more ∙ ap (λ ds. ds ++ make part ∷ []) so_far.made ∙ sym (map_more make so_far.parts part);
      given = subst (λ ways. HasGiven door port old ways new) (sym (map_more way_of so_far.parts part)) more;
      passes_are = ap (λ ps. ps ++ next) (map_more pass_of so_far.parts part) ∙ append_assoc (map pass_of so_far.parts) (pass_of part ∷ []) next
          ∙ ap (λ ps. map pass_of so_far.parts ++ ps) (sym one_less) ∙ so_far.passes_are;
      good = All-push Good so_far.parts part so_far.good well;
    }

-- ---- what a gate says of a way that it gives

-- the first of a list of which all are so
pub first_is : {X : Type 0} (P : X → Type 0) (xs : List X) (x : X) (rest : List X) → xs ≡ x ∷ rest → All P xs → P x
first_is P xs x rest same all = All-head P x rest (subst (All P) same all)

pub rest_are : {X : Type 0} (P : X → Type 0) (xs : List X) (x : X) (rest : List X) → xs ≡ x ∷ rest → All P xs → All P rest
rest_are P xs x rest same all = All-tail P x rest (subst (All P) same all)

pub new_way : (door : Door) (port : ℕ) (way : PlainWay) → (way.door ≡ door) × (way.port ≡ port)
    → IfSome way.lent (λ n. n ≡ 0) × IfSome way.returned (λ links. links ≡ []) × (way.faults ≡ 0) → IsNewWay door port way
new_way door port way place fresh =
    record { door_is = place.0; port_is = place.1; lent = fresh.0; returned = fresh.1; faults = fresh.2 }

pub next_given : (told : Option (List ℕ)) (way : PlainWay) (after : Option (List ℕ))
    → IfSome told (λ ways. (n : ℕ) × (rest : List ℕ) × (ways ≡ n ∷ rest) × (way.links_left ≡ Some n) × (after ≡ Some rest))
    → IfSome told (IsNextGiven way after)
next_given None way after it = tt
next_given (Some ways) way after it = record { number = it.0; rest = it.1; numbers_are = it.2; left = it.3; rest_is = it.4 }
