-- The changes between two maps of objects, played on the first, give each key what the second has.
use Rattle.std.proofs.Common.{◌≡◌, Bool, true, false, cond, not, inl, inr, List, [], ◌∷◌, ◌++◌, Option, None, Some, map, filter, refl, sym, ◌∙◌, ap, subst}
use Rattle.std.specs.Option.{is_none, is_some, option_or, option_map_or}
use Rattle.std.proofs.lemmas.Bool.{cond_both, cond-true, cond-false, cases_Bool, both_ways, not-true, not_from_false, false_from_ne_true}
use Rattle.std.proofs.lemmas.Option.{none-some, same_Some}
use Rattle.reg_entry.specs.declared.object.Object.{Object}
use Rattle.reg_entry.specs.declared.object.Key.{Key}
use Rattle.reg_entry.specs.declared.object.Act.{Act}
use Rattle.reg_entry.specs.declared.object.Act.TheVariants.{Add, Del}
use Rattle.reg_entry.specs.Objects.{key_of, key_before, same_key, same_object, has_key, object_at, HaveDistinctKeys, with_object, without_key, has_object, objects_gone, objects_come, changes_between, changed, played}
use Rattle.reg_laws.proofs.Sameness.{same_key-true, same_key-refl, same_object-true}

-- an object whose key is the one that another has has the other's look-ups
key_moves : (k : Key) (o p : Object) → has_key (key_of o) p ≡ true → has_key k o ≡ has_key k p
key_moves k o p e = ap (λ x. same_key x k) (sym (same_key-true (key_of p) (key_of o) e))

-- ---- one change

pub object_at-with_object : (os : List Object) (o : Object) (k : Key) → object_at (with_object os o) k ≡ cond (has_key k o) (Some o) (object_at os k)
object_at-with_object [] o k = refl
object_at-with_object (p ∷ ps) o k =
    cond_both (has_key (key_of o) p) (o ∷ ps) (cond (key_before (key_of o) (key_of p)) (o ∷ p ∷ ps) (p ∷ with_object ps o))
    (λ xs. object_at xs k ≡ cond (has_key k o) (Some o) (object_at (p ∷ ps) k))
    (λ e.
    elim (cases_Bool (has_key k o)) [
      | inl t ↦ cond-true (has_key k o) (Some o) (object_at ps k) t ∙ sym (cond-true (has_key k o) (Some o) (object_at (p ∷ ps) k) t)
      | inr f ↦
          cond-false (has_key k o) (Some o) (object_at ps k) f
          ∙ sym (cond-false (has_key k p) (Some p) (object_at ps k) (sym (key_moves k o p e) ∙ f))
          ∙ sym (cond-false (has_key k o) (Some o) (object_at (p ∷ ps) k) f)
    ])
    (λ e.
    cond_both (key_before (key_of o) (key_of p)) (o ∷ p ∷ ps) (p ∷ with_object ps o)
    (λ xs. object_at xs k ≡ cond (has_key k o) (Some o) (object_at (p ∷ ps) k))
    (λ b. refl)
    (λ b. ap (λ x. cond (has_key k p) (Some p) x) (object_at-with_object ps o k) ∙ swapped (has_key k p) (has_key k o) (Some p) (Some o) (object_at ps k) (apart k o p e)))
  where
    swapped : {A : Type 0} (s t : Bool) (x y z : A) → (s ≡ true → t ≡ true → ⊥) → cond s x (cond t y z) ≡ cond t y (cond s x z)
    swapped true true x y z h = absurd (h refl refl)
    swapped true false x y z h = refl
    swapped false true x y z h = refl
    swapped false false x y z h = refl

    apart : (k : Key) (o p : Object) → has_key (key_of o) p ≡ false → has_key k p ≡ true → has_key k o ≡ true → ⊥
    apart k o p e s t =
        both_ways (has_key (key_of o) p) e
        (ap (λ x. same_key x (key_of o)) (same_key-true (key_of p) k s ∙ sym (same_key-true (key_of o) k t)) ∙ same_key-refl (key_of o))

pub object_at-without_key : (os : List Object) (j k : Key) → object_at (without_key os j) k ≡ cond (same_key j k) None (object_at os k)
object_at-without_key [] j k = either (same_key j k)
  where
    either : (b : Bool) → ◌≡◌ {A = Option Object} None (cond b None None)
    either true = refl
    either false = refl
object_at-without_key (p ∷ ps) j k =
    cond_both (not (has_key j p)) (p ∷ without_key ps j) (without_key ps j) (λ xs. object_at xs k ≡ cond (same_key j k) None (object_at (p ∷ ps) k))
    (λ e.
    let differs : has_key j p ≡ false = not-true (has_key j p) e in
    ap (λ x. cond (has_key k p) (Some p) x) (object_at-without_key ps j k)
    ∙ kept (has_key k p) (same_key j k) (Some p) (object_at ps k) (λ s t. both_ways (has_key j p) differs
    (ap (λ x. same_key x j) (same_key-true (key_of p) k s ∙ sym (same_key-true j k t)) ∙ same_key-refl j)))
    (λ e.
    object_at-without_key ps j k
    ∙ gone (same_key j k) (has_key k p) (Some p) (object_at ps k) (λ f s. both_ways (same_key j k) f
    (ap (λ x. same_key x k) (sym (same_key-true (key_of p) j (has p e))) ∙ s)))
  where
    kept : (s t : Bool) (x z : Option Object) → (s ≡ true → t ≡ true → ⊥) → cond s x (cond t None z) ≡ cond t None (cond s x z)
    kept true true x z h = absurd (h refl refl)
    kept true false x z h = refl
    kept false true x z h = refl
    kept false false x z h = refl

    gone : (t s : Bool) (x z : Option Object) → (t ≡ false → s ≡ true → ⊥) → cond t None z ≡ cond t None (cond s x z)
    gone true s x z h = refl
    gone false true x z h = absurd (h refl refl)
    gone false false x z h = refl

    has : (p : Object) → not (has_key j p) ≡ false → has_key j p ≡ true
    has p e = elim (cases_Bool (has_key j p)) [ inl t ↦ t | inr f ↦ absurd (both_ways (not (has_key j p)) e (not_from_false (has_key j p) f)) ]

-- ---- lists of changes

abbrev pub takes : List Object → List (Act × Object)
takes os = map (λ o. (Del, o)) os

abbrev pub gives : List Object → List (Act × Object)
gives os = map (λ o. (Add, o)) os

pub played-append : (os : List Object) (cs ds : List (Act × Object)) → played os (cs ++ ds) ≡ played (played os cs) ds
played-append os [] ds = refl
played-append os (c ∷ cs) ds = played-append (changed os c) cs ds

choice : {A : Type 0} (s t : Bool) (x y z : A) → (s ≡ true → x ≡ y) → cond s x (cond t y z) ≡ cond t y (cond s x z)
choice true true x y z h = h refl
choice true false x y z h = refl
choice false true x y z h = refl
choice false false x y z h = refl

-- after some objects went, a key has none where one of them had it, and else what it had
pub object_at-takes : (gone os : List Object) (k : Key)
    → object_at (played os (takes gone)) k ≡ cond (is_some (object_at gone k)) None (object_at os k)
object_at-takes [] os k = refl
object_at-takes (g ∷ gone) os k =
    object_at-takes gone (without_key os (key_of g)) k
    ∙ ap (λ x. cond (is_some (object_at gone k)) None x) (object_at-without_key os (key_of g) k)
    ∙ either (has_key k g) (is_some (object_at gone k)) (object_at gone k) (object_at os k) refl
  where
    either : (b s : Bool) (o z : Option Object) → s ≡ is_some o → cond s None (cond b None z) ≡ cond (is_some (cond b (Some g) o)) None z
    either true true o z e = refl
    either true false o z e = refl
    either false true o z e = ap (λ x. cond x None z) e
    either false false o z e = ap (λ x. cond x None z) e

-- after some objects came, a key has the one of them that has it, or else what it had
pub object_at-gives : (come os : List Object) (k : Key) → HaveDistinctKeys come
    → object_at (played os (gives come)) k ≡ option_or (object_at come k) (object_at os k)
object_at-gives [] os k h = refl
object_at-gives (c ∷ come) os k h =
    object_at-gives come (with_object os c) k h.1
    ∙ ap (λ x. option_or (object_at come k) x) (object_at-with_object os c k)
    ∙ elim (cases_Bool (has_key k c)) [
      | inl t ↦
          let none : object_at come k ≡ None = subst (λ x. object_at come x ≡ None) (same_key-true (key_of c) k t) h.0 in
          ap (λ x. option_or x (cond (has_key k c) (Some c) (object_at os k))) none
          ∙ cond-true (has_key k c) (Some c) (object_at os k) t
          ∙ sym (ap (λ x. option_or x (object_at os k)) (cond-true (has_key k c) (Some c) (object_at come k) t))
      | inr f ↦
          ap (λ x. option_or (object_at come k) x) (cond-false (has_key k c) (Some c) (object_at os k) f)
          ∙ sym (ap (λ x. option_or x (object_at os k)) (cond-false (has_key k c) (Some c) (object_at come k) f))
    ]

-- ---- what is left of a map

pub object_at-filter_none : (test : Object → Bool) (os : List Object) (k : Key) → object_at os k ≡ None → object_at (filter test os) k ≡ None
object_at-filter_none test [] k h = refl
object_at-filter_none test (o ∷ os) k h =
    elim (cases_Bool (has_key k o)) [
      | inl t ↦ absurd (none-some o (sym h ∙ cond-true (has_key k o) (Some o) (object_at os k) t))
      | inr f ↦
          let rest : object_at os k ≡ None = sym (cond-false (has_key k o) (Some o) (object_at os k) f) ∙ h in
          cond_both (test o) (o ∷ filter test os) (filter test os) (λ xs. object_at xs k ≡ None)
          (λ e. cond-false (has_key k o) (Some o) (object_at (filter test os) k) f ∙ object_at-filter_none test os k rest)
          (λ e. object_at-filter_none test os k rest)
    ]

pub filter_distinct : (test : Object → Bool) (os : List Object) → HaveDistinctKeys os → HaveDistinctKeys (filter test os)
filter_distinct test [] h = tt
filter_distinct test (o ∷ os) h =
    cond_both (test o) (o ∷ filter test os) (filter test os) HaveDistinctKeys
    (λ e. (object_at-filter_none test os (key_of o) h.0, filter_distinct test os h.1))
    (λ e. filter_distinct test os h.1)

-- a test that refuses each object of a key leaves none of it
pub object_at-filter_refused : (test : Object → Bool) (os : List Object) (k : Key) → ((o : Object) → has_key k o ≡ true → test o ≡ false)
    → object_at (filter test os) k ≡ None
object_at-filter_refused test [] k h = refl
object_at-filter_refused test (o ∷ os) k h =
    cond_both (test o) (o ∷ filter test os) (filter test os) (λ xs. object_at xs k ≡ None)
    (λ e.
    let f : has_key k o ≡ false = false_from_ne_true (has_key k o) (λ t. both_ways (test o) (h o t) e) in
    cond-false (has_key k o) (Some o) (object_at (filter test os) k) f ∙ object_at-filter_refused test os k h)
    (λ e. object_at-filter_refused test os k h)

-- a test that lets each object of a key through leaves what the key had
pub object_at-filter_kept : (test : Object → Bool) (os : List Object) (k : Key) → ((o : Object) → has_key k o ≡ true → test o ≡ true)
    → object_at (filter test os) k ≡ object_at os k
object_at-filter_kept test [] k h = refl
object_at-filter_kept test (o ∷ os) k h =
    elim (cases_Bool (has_key k o)) [
      | inl t ↦
          ap (λ xs. object_at xs k) (cond-true (test o) (o ∷ filter test os) (filter test os) (h o t))
          ∙ cond-true (has_key k o) (Some o) (object_at (filter test os) k) t
          ∙ sym (cond-true (has_key k o) (Some o) (object_at os k) t)
      | inr f ↦
          cond_both (test o) (o ∷ filter test os) (filter test os) (λ xs. object_at xs k ≡ object_at (filter test os) k)
          (λ e. cond-false (has_key k o) (Some o) (object_at (filter test os) k) f)
          (λ e. refl)
          ∙ object_at-filter_kept test os k h
          ∙ sym (cond-false (has_key k o) (Some o) (object_at os k) f)
    ]

-- the object of a key that has one, where the test lets it through, or else none
pub object_at-filter_some : (test : Object → Bool) (os : List Object) (k : Key) (o : Object) → HaveDistinctKeys os → object_at os k ≡ Some o
    → object_at (filter test os) k ≡ cond (test o) (Some o) None
object_at-filter_some test [] k o h e = absurd (none-some o e)
object_at-filter_some test (p ∷ os) k o h e =
    elim (cases_Bool (has_key k p)) [
      | inl t ↦
          let same : p ≡ o = same_Some p o (sym (cond-true (has_key k p) (Some p) (object_at os k) t) ∙ e) in
          let none : object_at os k ≡ None = subst (λ x. object_at os x ≡ None) (same_key-true (key_of p) k t) h.0 in
          cond_both (test p) (p ∷ filter test os) (filter test os) (λ xs. object_at xs k ≡ cond (test p) (Some p) None)
          (λ y. cond-true (has_key k p) (Some p) (object_at (filter test os) k) t ∙ sym (cond-true (test p) (Some p) None y))
          (λ n. object_at-filter_none test os k none ∙ sym (cond-false (test p) (Some p) None n))
          ∙ ap (λ x. cond (test x) (Some x) None) same
      | inr f ↦
          cond_both (test p) (p ∷ filter test os) (filter test os) (λ xs. object_at xs k ≡ object_at (filter test os) k)
          (λ y. cond-false (has_key k p) (Some p) (object_at (filter test os) k) f)
          (λ n. refl)
          ∙ object_at-filter_some test os k o h.1 (sym (cond-false (has_key k p) (Some p) (object_at os k) f) ∙ e)
    ]

key_of_found : (os : List Object) (k : Key) (o : Object) → object_at os k ≡ Some o → key_of o ≡ k
key_of_found [] k o e = absurd (none-some o e)
key_of_found (p ∷ os) k o e =
    elim (cases_Bool (has_key k p)) [
      | inl t ↦ ap key_of (sym (same_Some p o (sym (cond-true (has_key k p) (Some p) (object_at os k) t) ∙ e))) ∙ same_key-true (key_of p) k t
      | inr f ↦ key_of_found os k o (sym (cond-false (has_key k p) (Some p) (object_at os k) f) ∙ e)
    ]

-- ---- from one map to the next

pub changes_lead : (before after : List Object) (k : Key) → HaveDistinctKeys after
    → object_at (played before (changes_between before after)) k ≡ object_at after k
changes_lead before after k distinct =
    let gone : List Object = objects_gone before after in
    let come : List Object = objects_come before after in
    let moved : object_at (played before (changes_between before after)) k ≡ option_or (object_at come k) (cond (is_some (object_at gone k)) None (object_at before k)) =
    ap (λ os. object_at os k) (played-append before (takes gone) (gives come))
    ∙ object_at-gives come (played before (takes gone)) k (filter_distinct (λ o. not (has_object before o)) after distinct)
    ∙ ap (λ x. option_or (object_at come k) x) (object_at-takes gone before k) in
    moved ∙ by_look_up (object_at after k) refl
  where
    same_key_of : (o : Object) → has_key k o ≡ true → object_at after (key_of o) ≡ object_at after k
    same_key_of o t = ap (λ x. object_at after x) (same_key-true (key_of o) k t)

    none_left : (x : Option Object) → is_some x ≡ false → cond (is_some x) None x ≡ None
    none_left None e = refl
    none_left (Some o) e = absurd (both_ways true e refl)

    no_other : (x : Option Object) → cond (is_some x) None x ≡ None
    no_other None = refl
    no_other (Some o) = refl

    by_look_up : (a : Option Object) → object_at after k ≡ a
        → option_or (object_at (objects_come before after) k) (cond (is_some (object_at (objects_gone before after) k)) None (object_at before k)) ≡ a
    by_look_up None e =
        let come_none : object_at (objects_come before after) k ≡ None = object_at-filter_none (λ o. not (has_object before o)) after k e in
        let gone_same : object_at (objects_gone before after) k ≡ object_at before k =
        object_at-filter_kept (λ o. is_none (object_at after (key_of o))) before k (λ o t. ap is_none (same_key_of o t ∙ e)) in
        ap (λ x. option_or x (cond (is_some (object_at (objects_gone before after) k)) None (object_at before k))) come_none
        ∙ ap (λ x. cond (is_some x) None (object_at before k)) gone_same
        ∙ no_other (object_at before k)
    by_look_up (Some o) e =
        let gone_none : object_at (objects_gone before after) k ≡ None =
        object_at-filter_refused (λ p. is_none (object_at after (key_of p))) before k (λ p t. ap is_none (same_key_of p t ∙ e)) in
        ap (λ x. option_or x (cond (is_some (object_at (objects_gone before after) k)) None (object_at before k)))
        (object_at-filter_some (λ p. not (has_object before p)) after k o distinct e)
        ∙ ap (λ x. option_or (cond (not (has_object before o)) (Some o) None) (cond (is_some x) None (object_at before k))) gone_none
        ∙ elim (cases_Bool (has_object before o)) [
          | inl t ↦
              ap (λ b. option_or (cond (not b) (Some o) None) (object_at before k)) t
              ∙ ap (λ x. object_at before x) (sym (key_of_found after k o e))
              ∙ found_same (object_at before (key_of o)) t
          | inr f ↦ ap (λ b. option_or (cond (not b) (Some o) None) (object_at before k)) f
        ]
      where
        found_same : (x : Option Object) → option_map_or (same_object o) x false ≡ true → x ≡ Some o
        found_same None t = absurd (both_ways false refl t)
        found_same (Some p) t = ap (λ x. Some x) (sym (same_object-true o p t))
