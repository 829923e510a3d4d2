-- The changes between two registers, counted class by class.
use Rattle.std.proofs.Common.{◌≡◌, ℕ, suc, ◌+◌, Bool, true, false, ◌&&◌, ◌||◌, cond, not, List, [], ◌∷◌, ◌++◌, Option, None, Some, map, filter, find, fold, length, inl, inr, refl, sym, ◌∙◌, ap, subst, length-append, arith}
use Rattle.std.specs.Option.{is_none, option_or, option_map, option_map_or}
use Rattle.std.specs.List.{flat_map, list_any}
use Rattle.std.specs.Str.{bytes_eq}
use Rattle.std.proofs.lemmas.Bool.{cases_Bool, cond_both, cond-true, cond-false, both_ways, false_from_ne_true}
use Rattle.std.proofs.lemmas.Option.{none-some}
use Rattle.std.proofs.lemmas.List.{length-map}
use Rattle.std.proofs.lemmas.List.Elements.{filter-append}
use Rattle.std.proofs.lemmas.List.Folds.{find-append}
use Rattle.num_range.specs.Range.{PlainRange, same_range}
use Rattle.num_range.specs.Cover.{reverse_cuts}
use Rattle.reg_entry.specs.declared.holder.Holder.{Holder}
use Rattle.reg_entry.specs.declared.piece.Piece.{Piece}
use Rattle.reg_entry.specs.declared.sub_card.SubCard.{SubCard}
use Rattle.reg_entry.specs.declared.object.Object.{Object}
use Rattle.reg_entry.specs.declared.object.Object.TheVariants.{Cut}
use Rattle.reg_entry.specs.declared.object.Key.{Key}
use Rattle.reg_entry.specs.declared.object.Key.TheVariants.{Org as OrgKey, Block as BlockKey, Sub as SubKey, Cut as CutKey}
use Rattle.reg_entry.specs.declared.object.Act.{Act}
use Rattle.reg_entry.specs.declared.object.Act.TheVariants.{Add, Del}
use Rattle.reg_entry.specs.Servers.{hosts_eq}
use Rattle.reg_entry.specs.Register.{Register}
use Rattle.reg_entry.specs.Holders.{has_handle, HaveDistinctHandles}
use Rattle.reg_entry.specs.Objects.{key_of, key_before, same_object, has_key, object_at, with_object, org_of, orgs_of, block_of_piece, blocks_of, sub_of, cuts_of, objects_of, objects_gone, objects_come, changes_between}
use Rattle.reg_laws.proofs.Playing.{object_at-with_object}
use Rattle.reg_laws.proofs.Sameness.{bytes_eq-true, bytes_eq-refl, same_range-true, same_range-refl}
use Rattle.plain_register.specs.Changes.{counts, compared, is_changed, changed_count, piece_as, found_cut}

-- ---- both kinds of change

filter_alike : {T : Type 0} (p q : T → Bool) → ((x : T) → p x ≡ q x) → (xs : List T) → filter p xs ≡ filter q xs
filter_alike p q h [] = refl
filter_alike p q h (x ∷ xs) =
    ap (λ b. cond b (x ∷ filter p xs) (filter p xs)) (h x) ∙ ap (λ r. cond (q x) (x ∷ r) r) (filter_alike p q h xs)

gone_is : (f : Object → Bool) (o : Option Object) → is_none o ≡ counts Del (option_map f o)
gone_is f None = refl
gone_is f (Some o) = refl

come_is : (f : Object → Bool) (o : Option Object) → not (option_map_or f o false) ≡ counts Add (option_map f o)
come_is f None = refl
come_is f (Some o) = refl

pub counted_changes : (before after : List Object)
    → length (changes_between before after) ≡ changed_count Del after before + changed_count Add before after
counted_changes before after =
    let gone : objects_gone before after ≡ filter (is_changed Del after) before =
    filter_alike _ (is_changed Del after) (λ o. gone_is (same_object o) (object_at after (key_of o))) before in
    let come : objects_come before after ≡ filter (is_changed Add before) after =
    filter_alike _ (is_changed Add before) (λ o. come_is (same_object o) (object_at before (key_of o))) after in
    let dels : List (Act × Object) = map (λ o. (Del, o)) (objects_gone before after) in
    let adds : List (Act × Object) = map (λ o. (Add, o)) (objects_come before after) in
    let some : length dels ≡ changed_count Del after before = length-map (objects_gone before after) (λ o. (Del, o)) ∙ ap length gone in
    let more : length adds ≡ changed_count Add before after = length-map (objects_come before after) (λ o. (Add, o)) ∙ ap length come in
    length-append dels adds ∙ ap (λ n. n + length adds) some ∙ ap (λ n. changed_count Del after before + n) more

-- ---- the holders' objects, which are put in order

tallied : {T : Type 0} (p : T → Bool) (x : T) (xs : List T) → length (filter p (x ∷ xs)) ≡ cond (p x) (suc (length (filter p xs))) (length (filter p xs))
tallied p x xs = either x (p x) (filter p xs)
  where
    either : {T : Type 0} (x : T) (b : Bool) (r : List T) → length (cond b (x ∷ r) r) ≡ cond b (suc (length r)) (length r)
    either x true r = refl
    either x false r = refl

swapped : (a b : Bool) (n : ℕ) → cond a (suc (cond b (suc n) n)) (cond b (suc n) n) ≡ cond b (suc (cond a (suc n) n)) (cond a (suc n) n)
swapped true true n = refl
swapped true false n = refl
swapped false true n = refl
swapped false false n = refl

count_with : (p : Object → Bool) (os : List Object) (o : Object) → object_at os (key_of o) ≡ None
    → length (filter p (with_object os o)) ≡ length (filter p (o ∷ os))
count_with p [] o none = refl
count_with p (q ∷ qs) o none =
    elim (cases_Bool (has_key (key_of o) q)) [
      | inl t ↦ absurd (none-some q (sym none ∙ cond-true (has_key (key_of o) q) (Some q) (object_at qs (key_of o)) t))
      | inr f ↦
          let rest : object_at qs (key_of o) ≡ None = sym (cond-false (has_key (key_of o) q) (Some q) (object_at qs (key_of o)) f) ∙ none in
          ap (λ xs. length (filter p xs)) (cond-false (has_key (key_of o) q) (o ∷ qs) (cond (key_before (key_of o) (key_of q)) (o ∷ q ∷ qs) (q ∷ with_object qs o)) f)
          ∙ cond_both (key_before (key_of o) (key_of q)) (o ∷ q ∷ qs) (q ∷ with_object qs o) (λ xs. length (filter p xs) ≡ length (filter p (o ∷ q ∷ qs)))
          (λ e. refl)
          (λ e.
          let n = length (filter p qs) in
          tallied p q (with_object qs o)
          ∙ ap (λ m. cond (p q) (suc m) m) (count_with p qs o rest ∙ tallied p o qs)
          ∙ swapped (p q) (p o) n
          ∙ ap (λ m. cond (p o) (suc m) m) (sym (tallied p q qs))
          ∙ sym (tallied p o (q ∷ qs)))
    ]

abbrev AreNew : List Object → List (Holder × ℕ) → Type 0
AreNew os [] = Unit {0}
AreNew os (m ∷ hs) = (object_at os (OrgKey m.0.handle) ≡ None) × AreNew os hs

all_new : (hs : List (Holder × ℕ)) → AreNew [] hs
all_new [] = tt
all_new (m ∷ hs) = (refl, all_new hs)

-- the handle is none of the list's
not_found : (m : Holder × ℕ) (hs : List (Holder × ℕ)) (h : List ℕ) → option_map (λ m. m.0) (find (has_handle h) (m ∷ hs)) ≡ None
    → (bytes_eq m.0.handle h ≡ false) × (option_map (λ m. m.0) (find (has_handle h) hs) ≡ None)
not_found m hs h e =
    elim (cases_Bool (bytes_eq m.0.handle h)) [
      | inl t ↦ absurd (none-some m.0 (sym e ∙ ap (λ o. option_map (λ m. m.0) o) (cond-true (bytes_eq m.0.handle h) (Some m) (find (has_handle h) hs) t)))
      | inr f ↦ (f, sym (ap (λ o. option_map (λ m. m.0) o) (cond-false (bytes_eq m.0.handle h) (Some m) (find (has_handle h) hs) f)) ∙ e)
    ]

turned : (a b : List ℕ) → bytes_eq a b ≡ false → bytes_eq b a ≡ false
turned a b f = false_from_ne_true (bytes_eq b a) (λ t. both_ways (bytes_eq a b) f (ap (λ x. bytes_eq x b) (sym (bytes_eq-true b a t)) ∙ bytes_eq-refl b))

still_new : (os : List Object) (m : Holder × ℕ) (hs : List (Holder × ℕ)) → option_map (λ m. m.0) (find (has_handle m.0.handle) hs) ≡ None
    → AreNew os hs → AreNew (with_object os (org_of m)) hs
still_new os m [] none new = tt
still_new os m (q ∷ hs) none new =
    let p = not_found q hs m.0.handle none in (
      object_at-with_object os (org_of m) (OrgKey q.0.handle)
          ∙ cond-false (bytes_eq m.0.handle q.0.handle) (Some (org_of m)) (object_at os (OrgKey q.0.handle)) (turned q.0.handle m.0.handle p.0)
          ∙ new.0,
      still_new os m hs p.1 new.1,
    )

fold_count : (p : Object → Bool) (os : List Object) (hs : List (Holder × ℕ)) → AreNew os hs → HaveDistinctHandles hs
    → length (filter p (fold with_object os (map org_of hs))) ≡ length (filter p os) + length (filter p (map org_of hs))
fold_count p os [] new distinct = omega arith
fold_count p os (m ∷ hs) new distinct =
    fold_count p (with_object os (org_of m)) hs (still_new os m hs distinct.0 new.1) distinct.1
    ∙ ap (λ n. n + length (filter p (map org_of hs))) (count_with p os (org_of m) new.0 ∙ tallied p (org_of m) os)
    ∙ moved (p (org_of m)) (length (filter p os)) (length (filter p (map org_of hs)))
    ∙ ap (λ n. length (filter p os) + n) (sym (tallied p (org_of m) (map org_of hs)))
  where
    moved : (b : Bool) (x y : ℕ) → cond b (suc x) x + y ≡ x + cond b (suc y) y
    moved true x y = omega arith
    moved false x y = refl

pub orgs_count : (p : Object → Bool) (hs : List (Holder × ℕ)) → HaveDistinctHandles hs
    → length (filter p (orgs_of hs)) ≡ length (filter p (map org_of hs))
orgs_count p hs distinct = fold_count p [] hs (all_new hs) distinct ∙ omega arith

-- ---- all objects of a register

count-append : (p : Object → Bool) (os ps : List Object) → length (filter p (os ++ ps)) ≡ length (filter p os) + length (filter p ps)
count-append p os ps = ap length (filter-append p os ps) ∙ length-append (filter p os) (filter p ps)

parts_count : (p : Object → Bool) (a b c d e f : List Object)
    → length (filter p (a ++ b ++ c ++ d ++ e ++ f))
    ≡ length (filter p a) + length (filter p b) + length (filter p c) + length (filter p d) + length (filter p e) + length (filter p f)
parts_count p a b c d e f =
    let ab = count-append p a b in
    let abc = count-append p (a ++ b) c in
    let abcd = count-append p (a ++ b ++ c) d in
    let abcde = count-append p (a ++ b ++ c ++ d) e in
    let all = count-append p (a ++ b ++ c ++ d ++ e) f in
    omega arith

pub all_count : (act : Act) (others : List Object) (r : Register) → HaveDistinctHandles r.holders
    → changed_count act others (objects_of r)
    ≡ changed_count act others (map org_of r.holders) + changed_count act others (blocks_of r.holders r.pool.asn)
    + changed_count act others (blocks_of r.holders r.pool.ipv4) + changed_count act others (blocks_of r.holders r.pool.ipv6)
    + changed_count act others (map (sub_of r.holders) r.subs) + changed_count act others (flat_map cuts_of r.reverses)
all_count act others r distinct =
    let parts = parts_count (is_changed act others) (orgs_of r.holders) (blocks_of r.holders r.pool.asn) (blocks_of r.holders r.pool.ipv4)
    (blocks_of r.holders r.pool.ipv6) (map (sub_of r.holders) r.subs) (flat_map cuts_of r.reverses) in
    let orgs = orgs_count (is_changed act others) r.holders distinct in
    omega arith

-- ---- what a register has at a key

pub find_holder : (hs : List (Holder × ℕ)) (h : List ℕ) → HaveDistinctHandles hs
    → object_at (orgs_of hs) (OrgKey h) ≡ option_map org_of (find (has_handle h) hs)
find_holder hs h distinct = in_fold hs [] h distinct ∙ or_none (option_map org_of (find (has_handle h) hs))
  where
    or_none : (o : Option Object) → option_or o None ≡ o
    or_none None = refl
    or_none (Some o) = refl

    either : (b : Bool) (m : Holder × ℕ) (f : Option (Holder × ℕ)) (o : Option Object) → (b ≡ true → f ≡ None)
        → option_or (option_map org_of f) (cond b (Some (org_of m)) o) ≡ option_or (option_map org_of (cond b (Some m) f)) o
    either true m f o e = ap (λ g. option_or (option_map org_of g) (Some (org_of m))) (e refl)
    either false m f o e = refl

    bare : (f : Option (Holder × ℕ)) → option_map (λ m. m.0) f ≡ None → f ≡ None
    bare None e = refl
    bare (Some m) e = absurd (none-some m.0 (sym e))

    in_fold : (hs : List (Holder × ℕ)) (os : List Object) (h : List ℕ) → HaveDistinctHandles hs
        → object_at (fold with_object os (map org_of hs)) (OrgKey h) ≡ option_or (option_map org_of (find (has_handle h) hs)) (object_at os (OrgKey h))
    in_fold [] os h distinct = refl
    in_fold (m ∷ hs) os h distinct =
        in_fold hs (with_object os (org_of m)) h distinct.1
        ∙ ap (λ o. option_or (option_map org_of (find (has_handle h) hs)) o) (object_at-with_object os (org_of m) (OrgKey h))
        ∙ either (bytes_eq m.0.handle h) m (find (has_handle h) hs) (object_at os (OrgKey h))
        (λ t. bare (find (has_handle h) hs) (subst (λ x. option_map (λ m. m.0) (find (has_handle x) hs) ≡ None) (bytes_eq-true m.0.handle h t) distinct.0))

-- a key of another class is found nowhere
no_org : (hs : List (Holder × ℕ)) (os : List Object) (k : Key) → ((m : Holder × ℕ) → has_key k (org_of m) ≡ false)
    → object_at (fold with_object os (map org_of hs)) k ≡ object_at os k
no_org [] os k h = refl
no_org (m ∷ hs) os k h =
    no_org hs (with_object os (org_of m)) k h ∙ object_at-with_object os (org_of m) k ∙ cond-false (has_key k (org_of m)) (Some (org_of m)) (object_at os k) (h m)

none_of : {T : Type 0} (k : Key) (f : T → Object) (xs : List T) → ((x : T) → has_key k (f x) ≡ false) → object_at (map f xs) k ≡ None
none_of k f [] h = refl
none_of k f (x ∷ xs) h = cond-false (has_key k (f x)) (Some (f x)) (object_at (map f xs) k) (h x) ∙ none_of k f xs h

no_cut : (k : Key) (rs : List (PlainRange × List (List ℕ))) → ((b : PlainRange) (hosts : List (List ℕ)) → has_key k (Cut b hosts) ≡ false)
    → object_at (flat_map cuts_of rs) k ≡ None
no_cut k [] h = refl
no_cut k (s ∷ rs) h =
    find-append (has_key k) (cuts_of s) (flat_map cuts_of rs)
    ∙ ap (λ o. option_or o (object_at (flat_map cuts_of rs) k)) (none_of k (λ b. Cut b s.1) (reverse_cuts s.0) (λ b. h b s.1))
    ∙ no_cut k rs h

-- one of a class, by a test of what it stands for
found_as : {T : Type 0} (k : Key) (f : T → Object) (p : T → Bool) (xs : List T) → ((x : T) → has_key k (f x) ≡ p x)
    → object_at (map f xs) k ≡ option_map f (find p xs)
found_as k f p [] h = refl
found_as k f p (x ∷ xs) h =
    ap (λ b. cond b (Some (f x)) (object_at (map f xs) k)) (h x)
    ∙ ap (λ o. cond (p x) (Some (f x)) o) (found_as k f p xs h)
    ∙ either f x (p x) (find p xs)
  where
    either : {T : Type 0} (f : T → Object) (x : T) (b : Bool) (o : Option T) → cond b (Some (f x)) (option_map f o) ≡ option_map f (cond b (Some x) o)
    either f x true o = refl
    either f x false o = refl

both_at : (k : Key) (os ps : List Object) → object_at (os ++ ps) k ≡ option_or (object_at os k) (object_at ps k)
both_at k os ps = find-append (has_key k) os ps

regroup : {T : Type 0} (a b c d e f : Option T)
    → option_or (option_or (option_or (option_or (option_or a b) c) d) e) f ≡ option_or a (option_or b (option_or c (option_or d (option_or e f))))
regroup (Some x) b c d e f = refl
regroup None (Some x) c d e f = refl
regroup None None (Some x) d e f = refl
regroup None None None (Some x) e f = refl
regroup None None None None (Some x) f = refl
regroup None None None None None f = refl

parts_as : (r : Register) (k : Key) (a b c d e f : Option Object) → object_at (orgs_of r.holders) k ≡ a
    → object_at (blocks_of r.holders r.pool.asn) k ≡ b → object_at (blocks_of r.holders r.pool.ipv4) k ≡ c
    → object_at (blocks_of r.holders r.pool.ipv6) k ≡ d → object_at (map (sub_of r.holders) r.subs) k ≡ e
    → object_at (flat_map cuts_of r.reverses) k ≡ f
    → object_at (objects_of r) k ≡ option_or a (option_or b (option_or c (option_or d (option_or e f))))
parts_as r k a b c d e f ha hb hc hd he hf =
    let orgs : List Object = orgs_of r.holders in
    let asn : List Object = blocks_of r.holders r.pool.asn in
    let ipv4 : List Object = blocks_of r.holders r.pool.ipv4 in
    let ipv6 : List Object = blocks_of r.holders r.pool.ipv6 in
    let subs : List Object = map (sub_of r.holders) r.subs in
    let cuts : List Object = flat_map cuts_of r.reverses in
    let two : object_at (orgs ++ asn) k ≡ option_or a b = both_at k orgs asn ∙ ap (λ o. option_or o (object_at asn k)) ha ∙ ap (λ o. option_or a o) hb in
    let three : object_at (orgs ++ asn ++ ipv4) k ≡ option_or (option_or a b) c =
    both_at k (orgs ++ asn) ipv4 ∙ ap (λ o. option_or o (object_at ipv4 k)) two ∙ ap (λ o. option_or (option_or a b) o) hc in
    let four : object_at (orgs ++ asn ++ ipv4 ++ ipv6) k ≡ option_or (option_or (option_or a b) c) d =
    both_at k (orgs ++ asn ++ ipv4) ipv6 ∙ ap (λ o. option_or o (object_at ipv6 k)) three ∙ ap (λ o. option_or (option_or (option_or a b) c) o) hd in
    let five : object_at (orgs ++ asn ++ ipv4 ++ ipv6 ++ subs) k ≡ option_or (option_or (option_or (option_or a b) c) d) e =
    both_at k (orgs ++ asn ++ ipv4 ++ ipv6) subs ∙ ap (λ o. option_or o (object_at subs k)) four ∙ ap (λ o. option_or (option_or (option_or (option_or a b) c) d) o) he in
    both_at k (orgs ++ asn ++ ipv4 ++ ipv6 ++ subs) cuts
    ∙ ap (λ o. option_or o (object_at cuts k)) five
    ∙ ap (λ o. option_or (option_or (option_or (option_or (option_or a b) c) d) e) o) hf
    ∙ regroup a b c d e f

or_nothing : {T : Type 0} (o : Option T) → option_or o None ≡ o
or_nothing None = refl
or_nothing (Some x) = refl

pub org_at : (r : Register) (h : List ℕ) → HaveDistinctHandles r.holders
    → object_at (objects_of r) (OrgKey h) ≡ option_map org_of (find (has_handle h) r.holders)
org_at r h distinct =
    let k : Key = OrgKey h in
    parts_as r k (option_map org_of (find (has_handle h) r.holders)) None None None None None (find_holder r.holders h distinct)
    (none_of k (block_of_piece r.holders) r.pool.asn (λ p. refl)) (none_of k (block_of_piece r.holders) r.pool.ipv4 (λ p. refl))
    (none_of k (block_of_piece r.holders) r.pool.ipv6 (λ p. refl)) (none_of k (sub_of r.holders) r.subs (λ s. refl))
    (no_cut k r.reverses (λ b hosts. refl))
    ∙ or_nothing (option_map org_of (find (has_handle h) r.holders))

pub block_at : (r : Register) (range : PlainRange)
    → object_at (objects_of r) (BlockKey range)
    ≡ option_map (block_of_piece r.holders) (option_or (piece_as r.pool.asn range) (option_or (piece_as r.pool.ipv4 range) (piece_as r.pool.ipv6 range)))
block_at r range =
    let k : Key = BlockKey range in
    let f : Piece → Object = block_of_piece r.holders in
    parts_as r k None (option_map f (piece_as r.pool.asn range)) (option_map f (piece_as r.pool.ipv4 range)) (option_map f (piece_as r.pool.ipv6 range)) None None
    (no_org r.holders [] k (λ m. refl))
    (found_as k f (λ p. same_range p.range range) r.pool.asn (λ p. refl)) (found_as k f (λ p. same_range p.range range) r.pool.ipv4 (λ p. refl))
    (found_as k f (λ p. same_range p.range range) r.pool.ipv6 (λ p. refl)) (none_of k (sub_of r.holders) r.subs (λ s. refl))
    (no_cut k r.reverses (λ b hosts. refl))
    ∙ mapped f (piece_as r.pool.asn range) (piece_as r.pool.ipv4 range) (piece_as r.pool.ipv6 range)
  where
    mapped : (f : Piece → Object) (a b c : Option Piece)
        → option_or (option_map f a) (option_or (option_map f b) (option_or (option_map f c) None)) ≡ option_map f (option_or a (option_or b c))
    mapped f (Some p) b c = refl
    mapped f None (Some p) c = refl
    mapped f None None (Some p) = refl
    mapped f None None None = refl

pub sub_at : (r : Register) (range : PlainRange)
    → object_at (objects_of r) (SubKey range) ≡ option_map (sub_of r.holders) (find (λ s. same_range s.0 range) r.subs)
sub_at r range =
    let k : Key = SubKey range in
    let o : Option Object = option_map (sub_of r.holders) (find (λ s. same_range s.0 range) r.subs) in
    parts_as r k None None None None o None (no_org r.holders [] k (λ m. refl))
    (none_of k (block_of_piece r.holders) r.pool.asn (λ p. refl)) (none_of k (block_of_piece r.holders) r.pool.ipv4 (λ p. refl))
    (none_of k (block_of_piece r.holders) r.pool.ipv6 (λ p. refl))
    (found_as k (sub_of r.holders) (λ s. same_range s.0 range) r.subs (λ s. refl))
    (no_cut k r.reverses (λ b hosts. refl))
    ∙ or_nothing o

cut_at : (r : Register) (b : PlainRange) → object_at (objects_of r) (CutKey b) ≡ object_at (flat_map cuts_of r.reverses) (CutKey b)
cut_at r b =
    let k : Key = CutKey b in
    parts_as r k None None None None None (object_at (flat_map cuts_of r.reverses) k) (no_org r.holders [] k (λ m. refl))
    (none_of k (block_of_piece r.holders) r.pool.asn (λ p. refl)) (none_of k (block_of_piece r.holders) r.pool.ipv4 (λ p. refl))
    (none_of k (block_of_piece r.holders) r.pool.ipv6 (λ p. refl)) (none_of k (sub_of r.holders) r.subs (λ s. refl)) refl

-- whether the servers of a cut's block are the same
cut_among : (b : PlainRange) (sv hosts : List (List ℕ)) (cs : List PlainRange) (rest : Option Object) (found : Option Bool)
    → option_map (same_object (Cut b sv)) rest ≡ found
    → option_map (same_object (Cut b sv)) (option_or (object_at (map (λ c. Cut c hosts) cs) (CutKey b)) rest)
    ≡ cond (list_any (λ c. same_range c b) cs) (Some (hosts_eq sv hosts)) found
cut_among b sv hosts [] rest found e = e
cut_among b sv hosts (c ∷ cs) rest found e =
    elim (cases_Bool (same_range c b)) [
      | inl t ↦
          let same : same_range b c ≡ true = ap (λ x. same_range b x) (same_range-true c b t) ∙ same_range-refl b in
          ap (λ o. option_map (same_object (Cut b sv)) (option_or o rest))
          (cond-true (same_range c b) (Some (Cut c hosts)) (object_at (map (λ c. Cut c hosts) cs) (CutKey b)) t)
          ∙ ap (λ x. Some (x && hosts_eq sv hosts)) same
          ∙ sym (ap (λ x. cond (x || list_any (λ c. same_range c b) cs) (Some (hosts_eq sv hosts)) found) t)
      | inr f ↦
          ap (λ o. option_map (same_object (Cut b sv)) (option_or o rest))
          (cond-false (same_range c b) (Some (Cut c hosts)) (object_at (map (λ c. Cut c hosts) cs) (CutKey b)) f)
          ∙ cut_among b sv hosts cs rest found e
          ∙ sym (ap (λ x. cond (x || list_any (λ c. same_range c b) cs) (Some (hosts_eq sv hosts)) found) f)
    ]

cuts_among : (b : PlainRange) (sv : List (List ℕ)) (rs : List (PlainRange × List (List ℕ)))
    → option_map (same_object (Cut b sv)) (object_at (flat_map cuts_of rs) (CutKey b)) ≡ option_map (hosts_eq sv) (found_cut rs b)
cuts_among b sv [] = refl
cuts_among b sv (s ∷ rs) =
    ap (λ o. option_map (same_object (Cut b sv)) o) (both_at (CutKey b) (cuts_of s) (flat_map cuts_of rs))
    ∙ cut_among b sv s.1 (reverse_cuts s.0) (object_at (flat_map cuts_of rs) (CutKey b)) (option_map (hosts_eq sv) (found_cut rs b)) (cuts_among b sv rs)
    ∙ either (list_any (λ c. same_range c b) (reverse_cuts s.0)) sv s.1 (found_cut rs b)
  where
    either : (x : Bool) (sv hosts : List (List ℕ)) (o : Option (List (List ℕ)))
        → cond x (Some (hosts_eq sv hosts)) (option_map (hosts_eq sv) o) ≡ option_map (hosts_eq sv) (cond x (Some hosts) o)
    either true sv hosts o = refl
    either false sv hosts o = refl

pub compared_cut : (r : Register) (b : PlainRange) (sv : List (List ℕ))
    → compared (objects_of r) (Cut b sv) ≡ option_map (hosts_eq sv) (found_cut r.reverses b)
compared_cut r b sv = ap (λ o. option_map (same_object (Cut b sv)) o) (cut_at r b) ∙ cuts_among b sv r.reverses

-- ---- compared with what a register has

mapped_twice : {A B C : Type 0} (f : A → B) (g : B → C) (o : Option A) → option_map g (option_map f o) ≡ option_map (λ x. g (f x)) o
mapped_twice f g None = refl
mapped_twice f g (Some x) = refl

pub compared_org : (r : Register) (m : Holder × ℕ) → HaveDistinctHandles r.holders
    → compared (objects_of r) (org_of m) ≡ option_map (λ other. same_object (org_of m) (org_of other)) (find (has_handle m.0.handle) r.holders)
compared_org r m distinct =
    ap (λ o. option_map (same_object (org_of m)) o) (org_at r m.0.handle distinct)
    ∙ mapped_twice org_of (same_object (org_of m)) (find (has_handle m.0.handle) r.holders)

pub compared_block : (r : Register) (hs : List (Holder × ℕ)) (p : Piece)
    → compared (objects_of r) (block_of_piece hs p)
    ≡ option_map (λ q. same_object (block_of_piece hs p) (block_of_piece r.holders q))
    (option_or (piece_as r.pool.asn p.range) (option_or (piece_as r.pool.ipv4 p.range) (piece_as r.pool.ipv6 p.range)))
compared_block r hs p =
    ap (λ o. option_map (same_object (block_of_piece hs p)) o) (block_at r p.range)
    ∙ mapped_twice (block_of_piece r.holders) (same_object (block_of_piece hs p)) (option_or (piece_as r.pool.asn p.range) (option_or (piece_as r.pool.ipv4 p.range) (piece_as r.pool.ipv6 p.range)))

pub compared_sub : (r : Register) (hs : List (Holder × ℕ)) (s : PlainRange × SubCard)
    → compared (objects_of r) (sub_of hs s)
    ≡ option_map (λ t. same_object (sub_of hs s) (sub_of r.holders t)) (find (λ t. same_range t.0 s.0) r.subs)
compared_sub r hs s =
    ap (λ o. option_map (same_object (sub_of hs s)) o) (sub_at r s.0)
    ∙ mapped_twice (sub_of r.holders) (same_object (sub_of hs s)) (find (λ t. same_range t.0 s.0) r.subs)

-- ---- cuts looked up

pub found_first : (rs qs : List (PlainRange × List (List ℕ))) (s : PlainRange × List (List ℕ)) (b : PlainRange) → qs ≡ s ∷ rs
    → list_any (λ c. same_range c b) (reverse_cuts s.0) ≡ true → found_cut qs b ≡ Some s.1
found_first rs qs s b e t =
    ap (λ xs. found_cut xs b) e ∙ cond-true (list_any (λ c. same_range c b) (reverse_cuts s.0)) (Some s.1) (found_cut rs b) t

pub found_later : (rs qs : List (PlainRange × List (List ℕ))) (s : PlainRange × List (List ℕ)) (b : PlainRange) → qs ≡ s ∷ rs
    → list_any (λ c. same_range c b) (reverse_cuts s.0) ≡ false → found_cut qs b ≡ found_cut rs b
found_later rs qs s b e f =
    ap (λ xs. found_cut xs b) e ∙ cond-false (list_any (λ c. same_range c b) (reverse_cuts s.0)) (Some s.1) (found_cut rs b) f

pub cuts_count : (act : Act) (others : List Object) (s : PlainRange × List (List ℕ)) (rs qs : List (PlainRange × List (List ℕ))) → qs ≡ s ∷ rs
    → changed_count act others (flat_map cuts_of qs) ≡ changed_count act others (cuts_of s) + changed_count act others (flat_map cuts_of rs)
cuts_count act others s rs qs e =
    ap (λ xs. changed_count act others (flat_map cuts_of xs)) e ∙ count-append (is_changed act others) (cuts_of s) (flat_map cuts_of rs)
