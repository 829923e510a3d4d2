-- Where two maps share some of their parts, the changes between them are those between the parts that they don't share.
use Rattle.std.proofs.Common.{◌≡◌, ℕ, Bool, true, false, cond, not, ◌&&◌, ◌==◌, inl, inr, List, [], ◌∷◌, ◌++◌, None, Some, filter, refl, sym, ◌∙◌, ap}
use Rattle.std.specs.Option.{is_none, option_eq, option_map_or}
use Rattle.std.specs.Str.{bytes_eq}
use Rattle.std.proofs.lemmas.Bool.{cond-true, cond-false, cases_Bool, both_ways, and_from, eq-eqb, false_from_ne_true}
use Rattle.std.proofs.lemmas.List.{append-nil}
use Rattle.std.proofs.lemmas.List.Elements.{filter-append}
use Rattle.std.proofs.lemmas.Option.{none-some}
use Rattle.std.proofs.lemmas.Slice.Eq.{bytes_eq-Decides, slice_eq-Decides}
use Rattle.reg_entry.specs.declared.holder.Holder.{Holder}
use Rattle.reg_entry.specs.declared.kind.Kind.{Kind}
use Rattle.reg_entry.specs.declared.kind.Kind.TheVariants.{Lir, EndUser}
use Rattle.reg_entry.specs.declared.object.Object.{Object}
use Rattle.reg_entry.specs.declared.object.Object.TheVariants.{Org, Block, Sub, Cut}
use Rattle.reg_entry.specs.declared.object.Key.{Key}
use Rattle.reg_entry.specs.Card.{same_status}
use Rattle.reg_entry.specs.Ranges.{same_range}
use Rattle.reg_entry.specs.Servers.{hosts_eq}
use Rattle.reg_entry.specs.Objects.{key_of, same_key, has_key, object_at, HaveDistinctKeys, same_kind, same_holder, same_object, has_object, objects_gone, objects_come, changes_between}
use Rattle.reg_laws.proofs.Sameness.{same_key-true, same_key-refl, same_range-refl, same_status-refl, bytes_eq-refl, option_eq-refl}
use Rattle.op_feed.specs.EntryChanges.{dels, adds}

-- ---- what holds of each object

abbrev pub Each : {T : Type 0} → (T → Type 0) → List T → Type 0
Each P [] = Unit {0}
Each P (o ∷ os) = P o × Each P os

pub each_of : {T : Type 0} (P : T → Type 0) (os : List T) → ((o : T) → P o) → Each P os
each_of P [] h = tt
each_of P (o ∷ os) h = (h o, each_of P os h)

pub each_both : {T : Type 0} (P Q R : T → Type 0) (os : List T) → ((o : T) → P o → Q o → R o) → Each P os → Each Q os → Each R os
each_both P Q R [] f h k = tt
each_both P Q R (o ∷ os) f h k = (f o h.0 k.0, each_both P Q R os f h.1 k.1)

pub each_so : {T : Type 0} (P Q : T → Type 0) (os : List T) → ((o : T) → P o → Q o) → Each P os → Each Q os
each_so P Q [] f h = tt
each_so P Q (o ∷ os) f h = (f o h.0, each_so P Q os f h.1)

pub each_front : {T : Type 0} (P : T → Type 0) (os ps : List T) → Each P (os ++ ps) → Each P os
each_front P [] ps h = tt
each_front P (o ∷ os) ps h = (h.0, each_front P os ps h.1)

pub each_back : {T : Type 0} (P : T → Type 0) (os ps : List T) → Each P (os ++ ps) → Each P ps
each_back P [] ps h = h
each_back P (o ∷ os) ps h = each_back P os ps h.1

-- ---- filters

pub filter_none : {T : Type 0} (f : T → Bool) (os : List T) → Each (λ o. f o ≡ false) os → filter f os ≡ []
filter_none f [] h = refl
filter_none f (o ∷ os) h = cond-false (f o) (o ∷ filter f os) (filter f os) h.0 ∙ filter_none f os h.1

pub filter_same : {T : Type 0} (f g : T → Bool) (os : List T) → Each (λ o. f o ≡ g o) os → filter f os ≡ filter g os
filter_same f g [] h = refl
filter_same f g (o ∷ os) h =
    ap (λ b. cond b (o ∷ filter f os) (filter f os)) h.0 ∙ ap (λ xs. cond (g o) (o ∷ xs) xs) (filter_same f g os h.1)

-- ---- looking up in two parts

pub found_behind : (os ps : List Object) (k : Key) → object_at os k ≡ None → object_at (os ++ ps) k ≡ object_at ps k
found_behind [] ps k h = refl
found_behind (o ∷ os) ps k h =
    elim (cases_Bool (has_key k o)) [
      | inl t ↦ absurd (none-some o (sym h ∙ cond-true (has_key k o) (Some o) (object_at os k) t))
      | inr f ↦
          cond-false (has_key k o) (Some o) (object_at (os ++ ps) k) f
          ∙ found_behind os ps k (sym (cond-false (has_key k o) (Some o) (object_at os k) f) ∙ h)
    ]

pub same_behind : (os ps qs : List Object) (k : Key) → object_at ps k ≡ object_at qs k → object_at (os ++ ps) k ≡ object_at (os ++ qs) k
same_behind [] ps qs k h = h
same_behind (o ∷ os) ps qs k h = ap (λ x. cond (has_key k o) (Some o) x) (same_behind os ps qs k h)

pub none_behind : (os ps : List Object) (k : Key) → object_at ps k ≡ None → object_at (os ++ ps) k ≡ object_at os k
none_behind os ps k h = same_behind os ps [] k h ∙ ap (λ xs. object_at xs k) (append-nil os)

pub none_parts : (os ps : List Object) (k : Key) → object_at (os ++ ps) k ≡ None → (object_at os k ≡ None) × (object_at ps k ≡ None)
none_parts [] ps k h = (refl, h)
none_parts (o ∷ os) ps k h =
    elim (cases_Bool (has_key k o)) [
      | inl t ↦ absurd (none-some o (sym h ∙ cond-true (has_key k o) (Some o) (object_at (os ++ ps) k) t))
      | inr f ↦
          let rest = none_parts os ps k (sym (cond-false (has_key k o) (Some o) (object_at (os ++ ps) k) f) ∙ h) in
          (cond-false (has_key k o) (Some o) (object_at os k) f ∙ rest.0, rest.1)
    ]

pub none_each : (os : List Object) (k : Key) → object_at os k ≡ None → Each (λ o. has_key k o ≡ false) os
none_each [] k h = tt
none_each (o ∷ os) k h =
    elim (cases_Bool (has_key k o)) [
      | inl t ↦ absurd (none-some o (sym h ∙ cond-true (has_key k o) (Some o) (object_at os k) t))
      | inr f ↦ (f, none_each os k (sym (cond-false (has_key k o) (Some o) (object_at os k) f) ∙ h))
    ]

-- ---- distinct keys

other_key : (o p : Object) → has_key (key_of o) p ≡ false → has_key (key_of p) o ≡ false
other_key o p f =
    false_from_ne_true (has_key (key_of p) o) (λ t.
    both_ways (has_key (key_of o) p) f
    (ap (same_key (key_of p)) (same_key-true (key_of o) (key_of p) t) ∙ same_key-refl (key_of p)))

pub distinct_back : (os ps : List Object) → HaveDistinctKeys (os ++ ps) → HaveDistinctKeys ps
distinct_back [] ps h = h
distinct_back (o ∷ os) ps h = distinct_back os ps h.1

pub distinct_front : (os ps : List Object) → HaveDistinctKeys (os ++ ps) → HaveDistinctKeys os
distinct_front [] ps h = tt
distinct_front (o ∷ os) ps h = ((none_parts os ps (key_of o) h.0).0, distinct_front os ps h.1)

-- each object is found under its key
pub each_found : (os : List Object) → HaveDistinctKeys os → Each (λ o. object_at os (key_of o) ≡ Some o) os
each_found [] h = tt
each_found (o ∷ os) h = (
  cond-true (has_key (key_of o) o) (Some o) (object_at os (key_of o)) (same_key-refl (key_of o)),
  each_both (λ p. object_at os (key_of p) ≡ Some p) (λ p. has_key (key_of o) p ≡ false) (λ p. object_at (o ∷ os) (key_of p) ≡ Some p) os
      (λ p found other. cond-false (has_key (key_of p) o) (Some o) (object_at os (key_of p)) (other_key o p other) ∙ found)
      (each_found os h.1) (none_each os (key_of o) h.0),
)

-- no object of the first part has a key of the second, nor the other way round
pub each_not_behind : (os ps : List Object) → HaveDistinctKeys (os ++ ps) → Each (λ o. object_at ps (key_of o) ≡ None) os
each_not_behind [] ps h = tt
each_not_behind (o ∷ os) ps h = ((none_parts os ps (key_of o) h.0).1, each_not_behind os ps h.1)

pub each_not_before : (os ps : List Object) → HaveDistinctKeys (os ++ ps) → Each (λ p. object_at os (key_of p) ≡ None) ps
each_not_before [] ps h = each_of (λ p. object_at [] (key_of p) ≡ None) ps (λ p. refl)
each_not_before (o ∷ os) ps h =
    each_both (λ p. object_at os (key_of p) ≡ None) (λ p. has_key (key_of o) p ≡ false) (λ p. object_at (o ∷ os) (key_of p) ≡ None) ps
    (λ p none other. cond-false (has_key (key_of p) o) (Some o) (object_at os (key_of p)) (other_key o p other) ∙ none)
    (each_not_before os ps h.1) (none_each ps (key_of o) (none_parts os ps (key_of o) h.0).1)

-- ---- an object is the same as itself

hosts_eq-refl : (a : List (List ℕ)) → hosts_eq a a ≡ true
hosts_eq-refl a = (slice_eq-Decides bytes_eq-Decides a a (hosts_eq a a) refl).1 refl

same_kind-refl : (k : Kind) → same_kind k k ≡ true
same_kind-refl Lir = refl
same_kind-refl EndUser = refl

same_holder-refl : (h : Holder) → same_holder h h ≡ true
same_holder-refl h =
    and_from (bytes_eq h.handle h.handle && same_kind h.kind h.kind && bytes_eq h.cc h.cc && bytes_eq h.name h.name) (bytes_eq h.email h.email)
    (and_from (bytes_eq h.handle h.handle && same_kind h.kind h.kind && bytes_eq h.cc h.cc) (bytes_eq h.name h.name)
    (and_from (bytes_eq h.handle h.handle && same_kind h.kind h.kind) (bytes_eq h.cc h.cc)
    (and_from (bytes_eq h.handle h.handle) (same_kind h.kind h.kind) (bytes_eq-refl h.handle) (same_kind-refl h.kind))
    (bytes_eq-refl h.cc))
    (bytes_eq-refl h.name))
    (bytes_eq-refl h.email)

pub same_object-refl : (o : Object) → same_object o o ≡ true
same_object-refl (Org h d) = and_from (same_holder h h) (d == d) (same_holder-refl h) (eq-eqb d d refl)
same_object-refl (Block r s h d u) =
    and_from (same_range r r && same_status s s && option_eq bytes_eq h h && (d == d)) (u == u)
    (and_from (same_range r r && same_status s s && option_eq bytes_eq h h) (d == d)
    (and_from (same_range r r && same_status s s) (option_eq bytes_eq h h)
    (and_from (same_range r r) (same_status s s) (same_range-refl r) (same_status-refl s))
    (option_eq-refl bytes_eq bytes_eq-refl h))
    (eq-eqb d d refl))
    (eq-eqb u u refl)
same_object-refl (Sub r h d) =
    and_from (same_range r r && bytes_eq h h) (d == d) (and_from (same_range r r) (bytes_eq h h) (same_range-refl r) (bytes_eq-refl h)) (eq-eqb d d refl)
same_object-refl (Cut r s) = and_from (same_range r r) (hosts_eq s s) (same_range-refl r) (hosts_eq-refl s)

-- ---- two places

-- the key is of none of the three parts
abbrev IsOutside : List Object → List Object → List Object → Key → Type 0
IsOutside a b z k = (object_at a k ≡ None) × (object_at b k ≡ None) × (object_at z k ≡ None)

pub outside_first : (a m b p z : List Object) → HaveDistinctKeys (a ++ (m ++ (b ++ (p ++ z)))) → Each (λ o. IsOutside a b z (key_of o)) m
outside_first a m b p z h =
    each_both (λ o. object_at a (key_of o) ≡ None) (λ o. object_at (b ++ (p ++ z)) (key_of o) ≡ None) (λ o. IsOutside a b z (key_of o)) m
    (λ o in_a behind.
    let parts = none_parts b (p ++ z) (key_of o) behind in
    (in_a, parts.0, (none_parts p z (key_of o) parts.1).1))
    (each_front (λ o. object_at a (key_of o) ≡ None) m (b ++ (p ++ z)) (each_not_before a (m ++ (b ++ (p ++ z))) h))
    (each_not_behind m (b ++ (p ++ z)) (distinct_back a (m ++ (b ++ (p ++ z))) h))

pub outside_second : (a m b p z : List Object) → HaveDistinctKeys (a ++ (m ++ (b ++ (p ++ z)))) → Each (λ o. IsOutside a b z (key_of o)) p
outside_second a m b p z h =
    let past_a : HaveDistinctKeys (m ++ (b ++ (p ++ z))) = distinct_back a (m ++ (b ++ (p ++ z))) h in
    let past_m : HaveDistinctKeys (b ++ (p ++ z)) = distinct_back m (b ++ (p ++ z)) past_a in
    let past_b : HaveDistinctKeys (p ++ z) = distinct_back b (p ++ z) past_m in
    each_both (λ o. (object_at a (key_of o) ≡ None) × (object_at b (key_of o) ≡ None)) (λ o. object_at z (key_of o) ≡ None) (λ o. IsOutside a b z (key_of o)) p
    (λ o one two. (one.0, one.1, two))
    (each_both (λ o. object_at a (key_of o) ≡ None) (λ o. object_at b (key_of o) ≡ None) (λ o. (object_at a (key_of o) ≡ None) × (object_at b (key_of o) ≡ None)) p
    (λ o one two. (one, two))
    (each_front (λ o. object_at a (key_of o) ≡ None) p z
    (each_back (λ o. object_at a (key_of o) ≡ None) b (p ++ z)
    (each_back (λ o. object_at a (key_of o) ≡ None) m (b ++ (p ++ z)) (each_not_before a (m ++ (b ++ (p ++ z))) h))))
    (each_front (λ o. object_at b (key_of o) ≡ None) p z (each_not_before b (p ++ z) past_m)))
    (each_not_behind p z past_b)

-- such a key is looked up in the two other parts alone
looked_up_outside : (a n b q z : List Object) (k : Key) → IsOutside a b z k → object_at (a ++ (n ++ (b ++ (q ++ z)))) k ≡ object_at (n ++ q) k
looked_up_outside a n b q z k h =
    found_behind a (n ++ (b ++ (q ++ z))) k h.0
    ∙ same_behind n (b ++ (q ++ z)) q k (found_behind b (q ++ z) k h.1 ∙ none_behind q z k h.2)

filter_parts : (f g : Object → Bool) (a m b p z : List Object) → filter f a ≡ [] → filter f m ≡ filter g m → filter f b ≡ [] → filter f p ≡ filter g p
    → filter f z ≡ [] → filter f (a ++ (m ++ (b ++ (p ++ z)))) ≡ filter g (m ++ p)
filter_parts f g a m b p z of_a of_m of_b of_p of_z =
    let last : filter f (p ++ z) ≡ filter g p =
    filter-append f p z ∙ ap (λ xs. xs ++ filter f z) of_p ∙ ap (λ xs. filter g p ++ xs) of_z ∙ append-nil (filter g p) in
    let behind : filter f (b ++ (p ++ z)) ≡ filter g p =
    filter-append f b (p ++ z) ∙ ap (λ xs. xs ++ filter f (p ++ z)) of_b ∙ last in
    let middle : filter f (m ++ (b ++ (p ++ z))) ≡ filter g m ++ filter g p =
    filter-append f m (b ++ (p ++ z)) ∙ ap (λ xs. xs ++ filter f (b ++ (p ++ z))) of_m ∙ ap (λ xs. filter g m ++ xs) behind in
    filter-append f a (m ++ (b ++ (p ++ z))) ∙ ap (λ xs. xs ++ filter f (m ++ (b ++ (p ++ z)))) of_a ∙ middle ∙ sym (filter-append g m p)

-- what a map keeps of a part that it shares is all of it
kept_here : (os part : List Object) → Each (λ o. object_at os (key_of o) ≡ Some o) part → filter (λ o. is_none (object_at os (key_of o))) part ≡ []
kept_here os part found =
    filter_none (λ o. is_none (object_at os (key_of o))) part
    (each_so (λ o. object_at os (key_of o) ≡ Some o) (λ o. is_none (object_at os (key_of o)) ≡ false) part (λ o e. ap is_none e) found)

none_new_here : (os part : List Object) → Each (λ o. object_at os (key_of o) ≡ Some o) part → filter (λ o. not (has_object os o)) part ≡ []
none_new_here os part found =
    filter_none (λ o. not (has_object os o)) part
    (each_so (λ o. object_at os (key_of o) ≡ Some o) (λ o. not (has_object os o) ≡ false) part
    (λ o e. ap (λ x. not (option_map_or (same_object o) x false)) e ∙ ap not (same_object-refl o)) found)

-- the parts of a map of five
first_of : (P : Object → Type 0) (a m b p z : List Object) → Each P (a ++ (m ++ (b ++ (p ++ z)))) → Each P a
first_of P a m b p z h = each_front P a (m ++ (b ++ (p ++ z))) h

third_of : (P : Object → Type 0) (a m b p z : List Object) → Each P (a ++ (m ++ (b ++ (p ++ z)))) → Each P b
third_of P a m b p z h = each_front P b (p ++ z) (each_back P m (b ++ (p ++ z)) (each_back P a (m ++ (b ++ (p ++ z))) h))

last_of : (P : Object → Type 0) (a m b p z : List Object) → Each P (a ++ (m ++ (b ++ (p ++ z)))) → Each P z
last_of P a m b p z h = each_back P p z (each_back P b (p ++ z) (each_back P m (b ++ (p ++ z)) (each_back P a (m ++ (b ++ (p ++ z))) h)))

gone_in_two : (a m n b p q z : List Object) → HaveDistinctKeys (a ++ (m ++ (b ++ (p ++ z)))) → HaveDistinctKeys (a ++ (n ++ (b ++ (q ++ z))))
    → objects_gone (a ++ (m ++ (b ++ (p ++ z)))) (a ++ (n ++ (b ++ (q ++ z)))) ≡ objects_gone (m ++ p) (n ++ q)
gone_in_two a m n b p q z before after =
    let new : List Object = a ++ (n ++ (b ++ (q ++ z))) in
    let f = λ (o : Object). is_none (object_at new (key_of o)) in
    let g = λ (o : Object). is_none (object_at (n ++ q) (key_of o)) in
    let Found = λ (o : Object). object_at new (key_of o) ≡ Some o in
    let found : Each Found new = each_found new after in
    let agree : (o : Object) → IsOutside a b z (key_of o) → f o ≡ g o = λ o out. ap is_none (looked_up_outside a n b q z (key_of o) out) in
    let Out = λ (o : Object). IsOutside a b z (key_of o) in
    filter_parts f g a m b p z (kept_here new a (first_of Found a n b q z found))
    (filter_same f g m (each_so Out (λ o. f o ≡ g o) m agree (outside_first a m b p z before)))
    (kept_here new b (third_of Found a n b q z found))
    (filter_same f g p (each_so Out (λ o. f o ≡ g o) p agree (outside_second a m b p z before)))
    (kept_here new z (last_of Found a n b q z found))

come_in_two : (a m n b p q z : List Object) → HaveDistinctKeys (a ++ (m ++ (b ++ (p ++ z)))) → HaveDistinctKeys (a ++ (n ++ (b ++ (q ++ z))))
    → objects_come (a ++ (m ++ (b ++ (p ++ z)))) (a ++ (n ++ (b ++ (q ++ z)))) ≡ objects_come (m ++ p) (n ++ q)
come_in_two a m n b p q z before after =
    let old : List Object = a ++ (m ++ (b ++ (p ++ z))) in
    let f = λ (o : Object). not (has_object old o) in
    let g = λ (o : Object). not (has_object (m ++ p) o) in
    let Found = λ (o : Object). object_at old (key_of o) ≡ Some o in
    let found : Each Found old = each_found old before in
    let agree : (o : Object) → IsOutside a b z (key_of o) → f o ≡ g o =
    λ o out. ap (λ x. not (option_map_or (same_object o) x false)) (looked_up_outside a m b p z (key_of o) out) in
    let Out = λ (o : Object). IsOutside a b z (key_of o) in
    filter_parts f g a n b q z (none_new_here old a (first_of Found a m b p z found))
    (filter_same f g n (each_so Out (λ o. f o ≡ g o) n agree (outside_first a n b q z after)))
    (none_new_here old b (third_of Found a m b p z found))
    (filter_same f g q (each_so Out (λ o. f o ≡ g o) q agree (outside_second a n b q z after)))
    (none_new_here old z (last_of Found a m b p z found))

pub changes_in_two : (a m n b p q z : List Object) → HaveDistinctKeys (a ++ (m ++ (b ++ (p ++ z)))) → HaveDistinctKeys (a ++ (n ++ (b ++ (q ++ z))))
    → changes_between (a ++ (m ++ (b ++ (p ++ z)))) (a ++ (n ++ (b ++ (q ++ z)))) ≡ changes_between (m ++ p) (n ++ q)
changes_in_two a m n b p q z before after =
    ap (λ xs. dels xs ++ adds (objects_come (a ++ (m ++ (b ++ (p ++ z)))) (a ++ (n ++ (b ++ (q ++ z)))))) (gone_in_two a m n b p q z before after)
    ∙ ap (λ xs. dels (objects_gone (m ++ p) (n ++ q)) ++ adds xs) (come_in_two a m n b p q z before after)

pub changes_in_one : (a m n z : List Object) → HaveDistinctKeys (a ++ (m ++ z)) → HaveDistinctKeys (a ++ (n ++ z))
    → changes_between (a ++ (m ++ z)) (a ++ (n ++ z)) ≡ changes_between m n
changes_in_one a m n z before after =
    changes_in_two a m n [] [] [] z before after ∙ ap (λ xs. changes_between xs (n ++ [])) (append-nil m) ∙ ap (changes_between m) (append-nil n)
