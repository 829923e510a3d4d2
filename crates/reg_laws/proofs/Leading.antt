-- What entries change leads from the objects of a register to those of the next: to each key's object, and to the very list of them.
use Rattle.std.proofs.Common.{◌≡◌, ℕ, ◌+◌, false, cond, inl, inr, List, [], ◌∷◌, ◌++◌, None, Some, map, length, refl, sym, ◌∙◌, ap, subst, true}
use Rattle.std.proofs.lemmas.Bool.{cond-true, cond-false, cases_Bool, false_from_ne_true}
use Rattle.std.proofs.lemmas.Option.{none-some, same_Some}
use Rattle.reg_entry.specs.declared.rooms.Rooms.{Rooms}
use Rattle.reg_entry.specs.declared.object.Object.{Object}
use Rattle.reg_entry.specs.declared.object.Key.{Key}
use Rattle.reg_entry.specs.declared.object.Act.{Act}
use Rattle.reg_entry.specs.declared.object.Act.TheVariants.{Add, Del}
use Rattle.reg_entry.specs.Entry.{PlainEntry}
use Rattle.reg_entry.specs.Op.{PlainOp}
use Rattle.reg_entry.specs.Register.{Register, empty_register, after_entry, after_entries, register_after}
use Rattle.reg_entry.specs.Objects.{key_of, same_key, has_key, object_at, key_before, objects_of, changed, played}
use Rattle.reg_entry.specs.Operations.{changes_of, numbered, operations_from, operations_of, change_of, objects_after}
use Rattle.reg_entry.specs.Next.{IsNextEntry, IsLegalFrom, IsLegal}
use Rattle.reg_entry.specs.Whole.{IsWholeRegister}
use Rattle.reg_laws.proofs.Sameness.{same_key-true, same_key-refl}
use Rattle.reg_laws.proofs.Playing.{object_at-with_object, object_at-without_key, played-append, changes_lead}
use Rattle.reg_laws.proofs.WholeStep.{next_whole, empty_is_whole, legal_whole}
use Rattle.reg_laws.specs.Rising.{IsBeforeAll, RisesByKey}
use Rattle.reg_laws.proofs.KeyOrder.{no_key_before_itself, key_behind}
use Rattle.reg_laws.proofs.RisingKeys.{none_after, after_lower, rises_played, whole_rises, whole_is_distinct}

-- ---- each key's object

pub next_changes_lead : (r : Register) (e : PlainEntry) (k : Key) → IsWholeRegister r → IsNextEntry r e
    → object_at (played (objects_of r) (changes_of r e)) k ≡ object_at (objects_of (after_entry r e)) k
next_changes_lead r e k h next =
    changes_lead (objects_of r) (objects_of (after_entry r e)) k (whole_is_distinct (after_entry r e) (next_whole r e h next))

-- the maps give each key the same object
abbrev AreAlike : List Object → List Object → Type 0
AreAlike os ps = (k : Key) → object_at os k ≡ object_at ps k

changed_alike : (os ps : List Object) (c : Act × Object) → AreAlike os ps → AreAlike (changed os c) (changed ps c)
changed_alike os ps (Add, o) alike k =
    object_at-with_object os o k ∙ ap (λ x. cond (has_key k o) (Some o) x) (alike k) ∙ sym (object_at-with_object ps o k)
changed_alike os ps (Del, o) alike k =
    object_at-without_key os (key_of o) k ∙ ap (λ x. cond (same_key (key_of o) k) None x) (alike k) ∙ sym (object_at-without_key ps (key_of o) k)

played_alike : (os ps : List Object) (cs : List (Act × Object)) → AreAlike os ps → AreAlike (played os cs) (played ps cs)
played_alike os ps [] alike = alike
played_alike os ps (c ∷ cs) alike = played_alike (changed os c) (changed ps c) cs (changed_alike os ps c alike)

changes_of_numbered : (last : ℕ) (cs : List (Act × Object)) → map change_of (numbered last cs) ≡ cs
changes_of_numbered last [] = refl
changes_of_numbered last (c ∷ cs) = ap (λ xs. c ∷ xs) (changes_of_numbered (last + 1) cs)

map_in_parts : (xs ys : List PlainOp) → map change_of (xs ++ ys) ≡ map change_of xs ++ map change_of ys
map_in_parts [] ys = refl
map_in_parts (x ∷ xs) ys = ap (λ zs. change_of x ∷ zs) (map_in_parts xs ys)

operations_lead_from : (r : Register) (os : List Object) (last : ℕ) (es : List PlainEntry) → IsWholeRegister r → IsLegalFrom r es → AreAlike os (objects_of r)
    → AreAlike (played os (map change_of (operations_from r last es))) (objects_of (after_entries r es))
operations_lead_from r os last [] h legal alike = alike
operations_lead_from r os last (e ∷ es) h legal alike =
    let s : Register = after_entry r e in
    let cs : List (Act × Object) = changes_of r e in
    let now : List PlainOp = numbered last cs in
    let later : List PlainOp = operations_from s (last + length cs) es in
    let parts : played os (map change_of (now ++ later)) ≡ played (played os cs) (map change_of later) =
    ap (played os) (map_in_parts now later)
    ∙ played-append os (map change_of now) (map change_of later)
    ∙ ap (λ xs. played (played os xs) (map change_of later)) (changes_of_numbered last cs) in
    λ k.
    ap (λ xs. object_at xs k) parts
    ∙ operations_lead_from s (played os cs) (last + length cs) es (next_whole r e h legal.0) legal.1
    (λ j. played_alike os (objects_of r) cs alike j ∙ next_changes_lead r e j h legal.0) k

pub operations_lead : (rooms : Rooms) (es : List PlainEntry) (k : Key) → IsLegal rooms es
    → object_at (objects_after (operations_of rooms es)) k ≡ object_at (objects_of (register_after rooms es)) k
operations_lead rooms es k legal = operations_lead_from (empty_register rooms) [] 0 es (empty_is_whole rooms) legal (λ j. refl) k

-- ---- the very list

-- rising lists that give each key the same object are the same
found_first : (o : Object) (os : List Object) → object_at (o ∷ os) (key_of o) ≡ Some o
found_first o os = cond-true (has_key (key_of o) o) (Some o) (object_at os (key_of o)) (same_key-refl (key_of o))

alike_rest : (o : Object) (os ps : List Object) → IsBeforeAll (key_of o) os → IsBeforeAll (key_of o) ps → AreAlike (o ∷ os) (o ∷ ps) → AreAlike os ps
alike_rest o os ps h g alike k =
    elim (cases_Bool (has_key k o)) [
      | inl t ↦
          let same : key_of o ≡ k = same_key-true (key_of o) k t in
          subst (λ j. object_at os j ≡ object_at ps j) same (none_after (key_of o) os h ∙ sym (none_after (key_of o) ps g))
      | inr f ↦
          sym (cond-false (has_key k o) (Some o) (object_at os k) f) ∙ alike k ∙ cond-false (has_key k o) (Some o) (object_at ps k) f
    ]

one_list : (os ps : List Object) → RisesByKey os → RisesByKey ps → AreAlike os ps → os ≡ ps
one_list [] [] h g alike = refl
one_list [] (p ∷ ps) h g alike = absurd (none-some p (alike (key_of p) ∙ found_first p ps))
one_list (o ∷ os) [] h g alike = absurd (none-some o (sym (alike (key_of o)) ∙ found_first o os))
one_list (o ∷ os) (p ∷ ps) h g alike =
    let there : object_at (p ∷ ps) (key_of o) ≡ Some o = sym (alike (key_of o)) ∙ found_first o os in
    let here : object_at (o ∷ os) (key_of p) ≡ Some p = alike (key_of p) ∙ found_first p ps in
    elim (cases_Bool (has_key (key_of o) p)) [
      | inl t ↦
          let same : p ≡ o = same_Some p o (sym (cond-true (has_key (key_of o) p) (Some p) (object_at ps (key_of o)) t) ∙ there) in
          let rest : os ≡ ps =
          one_list os ps h.1 g.1
          (alike_rest o os ps h.0 (subst (λ x. IsBeforeAll (key_of x) ps) same g.0) (subst (λ x. AreAlike (o ∷ os) (x ∷ ps)) same alike)) in
          ap (λ x. x ∷ os) (sym same) ∙ ap (λ xs. p ∷ xs) rest
      | inr f ↦
          absurd (elim (cases_Bool (key_before (key_of o) (key_of p))) [
            | inl b ↦
                none-some o
                (sym (cond-false (has_key (key_of o) p) (Some p) (object_at ps (key_of o)) f ∙ none_after (key_of o) ps (after_lower (key_of o) (key_of p) ps b g.0)) ∙ there)
            | inr b ↦
                let behind = key_behind (key_of o) (key_of p) b f in
                let other : has_key (key_of p) o ≡ false =
                false_from_ne_true (has_key (key_of p) o) (λ t.
                no_key_before_itself (key_of p) (subst (λ k. key_before (key_of p) k ≡ true) (same_key-true (key_of o) (key_of p) t) behind)) in
                none-some p
                (sym (cond-false (has_key (key_of p) o) (Some o) (object_at os (key_of p)) other ∙ none_after (key_of p) os (after_lower (key_of p) (key_of o) os behind h.0)) ∙ here)
          ])
    ]

pub next_changes_give : (r : Register) (e : PlainEntry) → IsWholeRegister r → IsNextEntry r e
    → played (objects_of r) (changes_of r e) ≡ objects_of (after_entry r e)
next_changes_give r e h next =
    one_list (played (objects_of r) (changes_of r e)) (objects_of (after_entry r e)) (rises_played (objects_of r) (changes_of r e) (whole_rises r h))
    (whole_rises (after_entry r e) (next_whole r e h next)) (λ k. next_changes_lead r e k h next)

pub operations_give : (rooms : Rooms) (es : List PlainEntry) → IsLegal rooms es
    → objects_after (operations_of rooms es) ≡ objects_of (register_after rooms es)
operations_give rooms es legal =
    one_list (objects_after (operations_of rooms es)) (objects_of (register_after rooms es))
    (rises_played [] (map change_of (operations_of rooms es)) tt) (whole_rises (register_after rooms es) (legal_whole rooms es legal))
    (λ k. operations_lead rooms es k legal)
