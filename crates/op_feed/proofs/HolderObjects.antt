-- The objects of holders, once one comes or has other fields.
use Rattle.std.proofs.Common.{◌≡◌, ℕ, zero, suc, ◌<◌, Bool, true, false, cond, not, ◌&&◌, inl, inr, List, [], ◌∷◌, ◌++◌, Option, None, Some, filter, find, map, length, refl, sym, ◌∙◌, ap, subst, arith}
use Rattle.std.specs.List.{fold}
use Rattle.std.specs.Option.{is_none, option_map, option_map_or, option_or}
use Rattle.std.specs.Str.{bytes_eq}
use Rattle.std.proofs.lemmas.Bool.{cond-true, cond-false, cond_both, cases_Bool}
use Rattle.std.proofs.lemmas.Option.{none-some, same_Some}
use Rattle.std.proofs.lemmas.List.Sums.{fold-append}
use Rattle.std.proofs.lemmas.List.{map-append}
use Rattle.reg_entry.specs.declared.holder.Holder.{Holder}
use Rattle.reg_entry.specs.declared.object.Object.{Object}
use Rattle.reg_entry.specs.declared.object.Object.TheVariants.{Org, Block, Sub}
use Rattle.reg_entry.specs.declared.object.Key.TheVariants.{Org as OrgKey}
use Rattle.reg_entry.specs.declared.piece.Piece.{Piece}
use Rattle.reg_entry.specs.declared.sub_card.SubCard.{SubCard}
use Rattle.num_range.specs.Range.{PlainRange}
use Rattle.reg_entry.specs.Holders.{has_handle, handle_at, handle_of, added_holder, edited_holder, HaveDistinctHandles}
use Rattle.reg_entry.specs.Objects.{key_of, same_key, key_before, has_key, object_at, HaveDistinctKeys, with_object, same_object, has_object, org_of, orgs_of, block_of_piece, blocks_of, sub_of, objects_gone, objects_come, changes_between}
use Rattle.reg_entry.specs.Register.{Register}
use Rattle.reg_entry.specs.Whole.{AreSubsIn}
use Rattle.reg_laws.proofs.Accepting.{map_none}
use Rattle.reg_laws.proofs.HolderFacts.{edited}
use Rattle.reg_laws.proofs.Playing.{object_at-with_object}
use Rattle.reg_laws.proofs.Sameness.{bytes_eq-true}
use Rattle.op_feed.specs.EntryChanges.{dels, adds, edit_changes}
use Rattle.op_feed.proofs.Handles.{IsHolderIn, HasHolderIn}
use Rattle.op_feed.proofs.Local.{Each, each_both, filter_none, each_found, none_each, same_object-refl}

-- ---- looked up

-- later holders stand before what was there, and no two have one handle
org_found_from : (os : List Object) (hs : List (Holder × ℕ)) (handle : List ℕ) → HaveDistinctHandles hs
    → object_at (fold with_object os (map org_of hs)) (OrgKey handle)
    ≡ option_or (option_map org_of (find (has_handle handle) hs)) (object_at os (OrgKey handle))
org_found_from os [] handle h = refl
org_found_from os (m ∷ hs) handle h =
    let test : Bool = has_handle handle m in
    let later : Option (Holder × ℕ) = find (has_handle handle) hs in
    let first = org_found_from (with_object os (org_of m)) hs handle h.1 in
    let here : object_at (with_object os (org_of m)) (OrgKey handle) ≡ cond test (Some (org_of m)) (object_at os (OrgKey handle)) =
    object_at-with_object os (org_of m) (OrgKey handle) in
    elim (cases_Bool test) [
      | inl t ↦
          let none : later ≡ None =
          subst (λ name. find (has_handle name) hs ≡ None) (bytes_eq-true m.0.handle handle t) (map_none (λ x. x.0) (find (has_handle m.0.handle) hs) h.0) in
          first
          ∙ ap (λ o. option_or (option_map org_of o) (object_at (with_object os (org_of m)) (OrgKey handle))) none
          ∙ here ∙ cond-true test (Some (org_of m)) (object_at os (OrgKey handle)) t
          ∙ sym (ap (λ o. option_or (option_map org_of o) (object_at os (OrgKey handle))) (cond-true test (Some m) later t))
      | inr f ↦
          first
          ∙ ap (option_or (option_map org_of later)) (here ∙ cond-false test (Some (org_of m)) (object_at os (OrgKey handle)) f)
          ∙ sym (ap (λ o. option_or (option_map org_of o) (object_at os (OrgKey handle))) (cond-false test (Some m) later f))
    ]

or_none_left : {T : Type 0} (o : Option T) → option_or o None ≡ o
or_none_left None = refl
or_none_left (Some x) = refl

pub org_found : (hs : List (Holder × ℕ)) (handle : List ℕ) → HaveDistinctHandles hs
    → object_at (orgs_of hs) (OrgKey handle) ≡ option_map org_of (find (has_handle handle) hs)
org_found hs handle h = org_found_from [] hs handle h ∙ or_none_left (option_map org_of (find (has_handle handle) hs))

-- each of them is of a holder
abbrev IsOrg : Object → Type 0
IsOrg o = (m : Holder × ℕ) × (o ≡ org_of m)

each_with : (P : Object → Type 0) (os : List Object) (o : Object) → P o → Each P os → Each P (with_object os o)
each_with P [] o new h = (new, tt)
each_with P (p ∷ os) o new h =
    cond_both (has_key (key_of o) p) (o ∷ os) (cond (key_before (key_of o) (key_of p)) (o ∷ p ∷ os) (p ∷ with_object os o)) (Each P)
    (λ t. (new, h.1))
    (λ f.
    cond_both (key_before (key_of o) (key_of p)) (o ∷ p ∷ os) (p ∷ with_object os o) (Each P)
    (λ b. (new, h))
    (λ b. (h.0, each_with P os o new h.1)))

each_org_from : (os : List Object) (hs : List (Holder × ℕ)) → Each IsOrg os → Each IsOrg (fold with_object os (map org_of hs))
each_org_from os [] h = h
each_org_from os (m ∷ hs) h = each_org_from (with_object os (org_of m)) hs (each_with IsOrg os (org_of m) (m, refl) h)

each_org : (hs : List (Holder × ℕ)) → Each IsOrg (orgs_of hs)
each_org hs = each_org_from [] hs tt

-- ---- a new holder

-- the map parted where an object of a new key comes
pub record IsPartedFor (o : Object) (old new : List Object) : Type 0 where
  pub front : List Object
  pub back : List Object
  pub was : old ≡ front ++ back
  pub stands : new ≡ front ++ (o ∷ back)

parted_for : (os : List Object) (o : Object) → object_at os (key_of o) ≡ None → IsPartedFor o os (with_object os o)
parted_for [] o h = record { front = []; back = []; was = refl; stands = refl }
parted_for (p ∷ os) o h =
    let test : Bool = has_key (key_of o) p in
    let other : List Object = cond (key_before (key_of o) (key_of p)) (o ∷ p ∷ os) (p ∷ with_object os o) in
    elim (cases_Bool test) [
      | inl t ↦ absurd (none-some p (sym h ∙ cond-true test (Some p) (object_at os (key_of o)) t))
      | inr f ↦
          let past : with_object (p ∷ os) o ≡ other = cond-false test (o ∷ os) other f in
          elim (cases_Bool (key_before (key_of o) (key_of p))) [
            | inl b ↦ record {
              front = [];
              back = p ∷ os;
              was = refl;
              stands = past ∙ cond-true (key_before (key_of o) (key_of p)) (o ∷ p ∷ os) (p ∷ with_object os o) b;
            }
            | inr b ↦
                let rest = parted_for os o (sym (cond-false test (Some p) (object_at os (key_of o)) f) ∙ h) in
                record {
                  front = p ∷ rest.front;
                  back = rest.back;
                  was = ap (λ xs. p ∷ xs) rest.was;
                  stands = past ∙ cond-false (key_before (key_of o) (key_of p)) (o ∷ p ∷ os) (p ∷ with_object os o) b ∙ ap (λ xs. p ∷ xs) rest.stands;
                }
          ]
    ]

pub added_parted : (hs : List (Holder × ℕ)) (holder : Holder) (day : ℕ) → HaveDistinctHandles hs → find (has_handle holder.handle) hs ≡ None
    → IsPartedFor (Org holder day) (orgs_of hs) (orgs_of (added_holder hs holder day))
added_parted hs holder day h none =
    subst (IsPartedFor (Org holder day) (orgs_of hs))
    (sym (ap (fold with_object []) (map-append org_of hs ((holder, day) ∷ [])) ∙ fold-append with_object [] (map org_of hs) (Org holder day ∷ [])))
    (parted_for (orgs_of hs) (Org holder day) (org_found hs holder.handle h ∙ ap (option_map org_of) none))

-- ---- handles that stay

pub handle_after_adding : (hs : List (Holder × ℕ)) (m : Holder × ℕ) (n : ℕ) → n < length hs → handle_at (hs ++ m ∷ []) n ≡ handle_at hs n
handle_after_adding [] m n h = absurd (omega arith)
handle_after_adding (q ∷ hs) m zero h = refl
handle_after_adding (q ∷ hs) m (suc n) h = handle_after_adding hs m n (omega arith)

handle_of_edited : (holder : Holder) (day : ℕ) (m : Holder × ℕ) → (edited holder day m).0.handle ≡ m.0.handle
handle_of_edited holder day m =
    cond_both (has_handle holder.handle m) (holder, day) m (λ y. y.0.handle ≡ m.0.handle)
    (λ e. sym (bytes_eq-true m.0.handle holder.handle e))
    (λ e. refl)

pub handle_after_editing : (hs : List (Holder × ℕ)) (holder : Holder) (day n : ℕ) → handle_at (edited_holder hs holder day) n ≡ handle_at hs n
handle_after_editing [] holder day n = refl
handle_after_editing (q ∷ hs) holder day zero = handle_of_edited holder day q
handle_after_editing (q ∷ hs) holder day (suc n) = handle_after_editing hs holder day n

-- the handles of the holders that are there are the same
abbrev pub KeepHandles : List (Holder × ℕ) → List (Holder × ℕ) → Type 0
KeepHandles hs gs = (n : ℕ) → n < length hs → handle_at gs n ≡ handle_at hs n

same_handle_of : (hs gs : List (Holder × ℕ)) (holder : Option ℕ) → KeepHandles hs gs → IsHolderIn hs holder → handle_of gs holder ≡ handle_of hs holder
same_handle_of hs gs None keep h = refl
same_handle_of hs gs (Some n) keep h = ap (λ x. Some x) (keep n h)

pub blocks_stay : (hs gs : List (Holder × ℕ)) (ps : List Piece) → KeepHandles hs gs → Each (HasHolderIn hs) ps → blocks_of gs ps ≡ blocks_of hs ps
blocks_stay hs gs [] keep h = refl
blocks_stay hs gs (p ∷ ps) keep h =
    ap (λ x. Block p.range p.card.status x p.card.day p.card.until ∷ blocks_of gs ps) (same_handle_of hs gs p.card.holder keep h.0)
    ∙ ap (λ xs. block_of_piece hs p ∷ xs) (blocks_stay hs gs ps keep h.1)

pub subs_stay : (r : Register) (gs : List (Holder × ℕ)) (ss : List (PlainRange × SubCard)) → KeepHandles r.holders gs → AreSubsIn r ss
    → map (sub_of gs) ss ≡ map (sub_of r.holders) ss
subs_stay r gs [] keep h = refl
subs_stay r gs (s ∷ ss) keep h =
    ap (λ x. Sub s.0 x s.1.day ∷ map (sub_of gs) ss) (keep s.1.holder h.0.holder)
    ∙ ap (λ xs. sub_of r.holders s ∷ xs) (subs_stay r gs ss keep h.1)

-- ---- other fields of a holder

find_edited : (hs : List (Holder × ℕ)) (holder : Holder) (day : ℕ) (handle : List ℕ)
    → find (has_handle handle) (edited_holder hs holder day) ≡ option_map (edited holder day) (find (has_handle handle) hs)
find_edited [] holder day handle = refl
find_edited (m ∷ hs) holder day handle =
    let test : Bool = has_handle handle m in
    let q : Holder × ℕ = edited holder day m in
    let same : has_handle handle q ≡ test = ap (λ x. bytes_eq x handle) (handle_of_edited holder day m) in
    elim (cases_Bool test) [
      | inl t ↦
          cond-true (has_handle handle q) (Some q) (find (has_handle handle) (edited_holder hs holder day)) (same ∙ t)
          ∙ sym (ap (option_map (edited holder day)) (cond-true test (Some m) (find (has_handle handle) hs) t))
      | inr f ↦
          cond-false (has_handle handle q) (Some q) (find (has_handle handle) (edited_holder hs holder day)) (same ∙ f)
          ∙ find_edited hs holder day handle
          ∙ sym (ap (option_map (edited holder day)) (cond-false test (Some m) (find (has_handle handle) hs) f))
    ]

-- of a map, the one object of a key passes a test, or none does
one_passes : (f : Object → Bool) (os : List Object) (o : Object) (b : Bool) → HaveDistinctKeys os → object_at os (key_of o) ≡ Some o
    → Each (λ p. f p ≡ (has_key (key_of o) p && b)) os → filter f os ≡ cond b (o ∷ []) []
one_passes f [] o b distinct found h = absurd (none-some o found)
one_passes f (p ∷ os) o b distinct found h =
    let test : Bool = has_key (key_of o) p in
    elim (cases_Bool test) [
      | inl t ↦
          let is : p ≡ o = same_Some p o (sym (cond-true test (Some p) (object_at os (key_of o)) t) ∙ found) in
          let none : Each (λ q. has_key (key_of o) q ≡ false) os =
          none_each os (key_of o) (subst (λ q. object_at os (key_of q) ≡ None) is distinct.0) in
          let rest : filter f os ≡ [] =
          filter_none f os
          (each_both (λ q. f q ≡ (has_key (key_of o) q && b)) (λ q. has_key (key_of o) q ≡ false) (λ q. f q ≡ false) os
          (λ q is no. is ∙ ap (λ x. x && b) no) h.1 none) in
          let here : f p ≡ b = h.0 ∙ ap (λ x. x && b) t in
          ap (λ x. cond x (p ∷ filter f os) (filter f os)) here
          ∙ ap (λ xs. cond b (p ∷ xs) xs) rest
          ∙ ap (λ x. cond b (x ∷ []) []) is
      | inr g ↦
          let here : f p ≡ false = h.0 ∙ ap (λ x. x && b) g in
          cond-false (f p) (p ∷ filter f os) (filter f os) here
          ∙ one_passes f os o b distinct.1 (sym (cond-false test (Some p) (object_at os (key_of o)) g) ∙ found) h.1
    ]

gone_none : {A B : Type 0} (f : A → B) (o : Option A) → is_none o ≡ false → is_none (option_map f o) ≡ false
gone_none f None e = e
gone_none f (Some x) e = refl

none_back : {A B : Type 0} (f : A → B) (o : Option A) (y : B) → option_map f o ≡ Some y → is_none o ≡ false
none_back f None y e = absurd (none-some y e)
none_back f (Some x) y e = refl

edit_keeps_keys : (hs : List (Holder × ℕ)) (holder : Holder) (day : ℕ) → HaveDistinctHandles hs → HaveDistinctHandles (edited_holder hs holder day)
    → HaveDistinctKeys (orgs_of hs) → objects_gone (orgs_of hs) (orgs_of (edited_holder hs holder day)) ≡ []
edit_keeps_keys hs holder day h g distinct =
    let gs : List (Holder × ℕ) = edited_holder hs holder day in
    filter_none (λ o. is_none (object_at (orgs_of gs) (key_of o))) (orgs_of hs)
    (each_both IsOrg (λ o. object_at (orgs_of hs) (key_of o) ≡ Some o) (λ o. is_none (object_at (orgs_of gs) (key_of o)) ≡ false) (orgs_of hs)
    (λ o org found.
    let handle : List ℕ = org.0.0.handle in
    let key : key_of o ≡ OrgKey handle = ap key_of org.1 in
    let there : option_map org_of (find (has_handle handle) hs) ≡ Some o = sym (org_found hs handle h) ∙ sym (ap (object_at (orgs_of hs)) key) ∙ found in
    ap is_none (ap (object_at (orgs_of gs)) key ∙ org_found gs handle g ∙ ap (option_map org_of) (find_edited hs holder day handle))
    ∙ gone_none org_of (option_map (edited holder day) (find (has_handle handle) hs))
    (gone_none (edited holder day) (find (has_handle handle) hs) (none_back org_of (find (has_handle handle) hs) o there)))
    (each_org hs) (each_found (orgs_of hs) distinct))

pub found_has : (handle : List ℕ) (hs : List (Holder × ℕ)) (m : Holder × ℕ) → find (has_handle handle) hs ≡ Some m → has_handle handle m ≡ true
found_has handle [] m e = absurd (none-some m e)
found_has handle (q ∷ hs) m e =
    elim (cases_Bool (has_handle handle q)) [
      | inl t ↦ subst (λ x. has_handle handle x ≡ true) (same_Some q m (sym (cond-true (has_handle handle q) (Some q) (find (has_handle handle) hs) t) ∙ e)) t
      | inr f ↦ found_has handle hs m (sym (cond-false (has_handle handle q) (Some q) (find (has_handle handle) hs) f) ∙ e)
    ]

-- what is new of an object after the edit
new_of_edited : (hs : List (Holder × ℕ)) (holder : Holder) (day : ℕ) (former : Holder × ℕ) (o : Object) (handle : List ℕ) → HaveDistinctHandles hs
    → find (has_handle holder.handle) hs ≡ Some former → key_of o ≡ OrgKey handle → (found : Option (Holder × ℕ)) → find (has_handle handle) hs ≡ found
    → option_map (λ m. org_of (edited holder day m)) found ≡ Some o
    → not (has_object (orgs_of hs) o) ≡ (has_key (OrgKey holder.handle) o && not (same_object (Org holder day) (org_of former)))
new_of_edited hs holder day former o handle h is key None at e = absurd (none-some o e)
new_of_edited hs holder day former o handle h is key (Some m) at e =
    let so : org_of (edited holder day m) ≡ o = same_Some (org_of (edited holder day m)) o e in
    let looked : object_at (orgs_of hs) (key_of o) ≡ Some (org_of m) = ap (object_at (orgs_of hs)) key ∙ org_found hs handle h ∙ ap (option_map org_of) at in
    let new : not (has_object (orgs_of hs) o) ≡ not (same_object o (org_of m)) = ap (λ x. not (option_map_or (same_object o) x false)) looked in
    let its : has_handle handle m ≡ true = found_has handle hs m at in
    let name : m.0.handle ≡ handle = bytes_eq-true m.0.handle handle its in
    let tested : has_key (OrgKey holder.handle) o ≡ has_handle holder.handle m =
    ap (λ k. same_key k (OrgKey holder.handle)) key ∙ ap (λ x. bytes_eq x holder.handle) (sym name) in
    elim (cases_Bool (has_handle holder.handle m)) [
      | inl t ↦
          let one : m ≡ former =
          same_Some m former (sym at ∙ ap (λ x. find (has_handle x) hs) (sym name ∙ bytes_eq-true m.0.handle holder.handle t) ∙ is) in
          let org : o ≡ Org holder day = sym so ∙ ap org_of (cond-true (has_handle holder.handle m) (holder, day) m t) in
          new
          ∙ ap (λ x. not (same_object x (org_of m))) org
          ∙ ap (λ x. not (same_object (Org holder day) (org_of x))) one
          ∙ sym (ap (λ x. x && not (same_object (Org holder day) (org_of former))) (tested ∙ t))
      | inr f ↦
          let org : o ≡ org_of m = sym so ∙ ap org_of (cond-false (has_handle holder.handle m) (holder, day) m f) in
          new
          ∙ ap (λ x. not (same_object x (org_of m))) org
          ∙ ap not (same_object-refl (org_of m))
          ∙ sym (ap (λ x. x && not (same_object (Org holder day) (org_of former))) (tested ∙ f))
    ]

pub holder_edit : (hs : List (Holder × ℕ)) (holder : Holder) (day : ℕ) (former : Holder × ℕ) → HaveDistinctHandles hs
    → HaveDistinctHandles (edited_holder hs holder day) → HaveDistinctKeys (orgs_of hs) → HaveDistinctKeys (orgs_of (edited_holder hs holder day))
    → find (has_handle holder.handle) hs ≡ Some former
    → changes_between (orgs_of hs) (orgs_of (edited_holder hs holder day)) ≡ edit_changes (Some former) holder day
holder_edit hs holder day former h g distinct distinct_after is =
    let gs : List (Holder × ℕ) = edited_holder hs holder day in
    let same : Bool = same_object (Org holder day) (org_of former) in
    let found : Each (λ o. object_at (orgs_of gs) (key_of o) ≡ Some o) (orgs_of gs) = each_found (orgs_of gs) distinct_after in
    let its : has_handle holder.handle former ≡ true = found_has holder.handle hs former is in
    let there : object_at (orgs_of gs) (OrgKey holder.handle) ≡ Some (Org holder day) =
    org_found gs holder.handle g ∙ ap (option_map org_of) (find_edited hs holder day holder.handle ∙ ap (option_map (edited holder day)) is)
    ∙ ap (λ m. Some (org_of m)) (cond-true (has_handle holder.handle former) (holder, day) former its) in
    let each : Each (λ o. not (has_object (orgs_of hs) o) ≡ (has_key (OrgKey holder.handle) o && not same)) (orgs_of gs) =
    each_both IsOrg (λ o. object_at (orgs_of gs) (key_of o) ≡ Some o) (λ o. not (has_object (orgs_of hs) o) ≡ (has_key (OrgKey holder.handle) o && not same)) (orgs_of gs)
    (λ o org at.
    let handle : List ℕ = org.0.0.handle in
    let key : key_of o ≡ OrgKey handle = ap key_of org.1 in
    new_of_edited hs holder day former o handle h is key (find (has_handle handle) hs) refl
    (twice (edited holder day) (find (has_handle handle) hs) ∙ sym (ap (option_map org_of) (find_edited hs holder day handle)) ∙ sym (org_found gs handle g)
    ∙ sym (ap (object_at (orgs_of gs)) key) ∙ at))
    (each_org gs) found in
    let come : objects_come (orgs_of hs) (orgs_of gs) ≡ cond (not same) (Org holder day ∷ []) [] =
    one_passes (λ o. not (has_object (orgs_of hs) o)) (orgs_of gs) (Org holder day) (not same) distinct_after there each in
    ap (λ xs. dels xs ++ adds (objects_come (orgs_of hs) (orgs_of gs))) (edit_keeps_keys hs holder day h g distinct)
    ∙ ap adds come ∙ adds_unless same (Org holder day)
  where
    adds_unless : (b : Bool) (o : Object) → adds (cond (not b) (o ∷ []) []) ≡ cond b [] (adds (o ∷ []))
    adds_unless true o = refl
    adds_unless false o = refl

    twice : (f : Holder × ℕ → Holder × ℕ) (o : Option (Holder × ℕ)) → option_map (λ m. org_of (f m)) o ≡ option_map org_of (option_map f o)
    twice f None = refl
    twice f (Some m) = refl
