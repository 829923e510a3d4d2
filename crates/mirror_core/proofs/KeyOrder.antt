-- Keys that compare as equal are one key, and what an ordered map of the standard library does to a list that rises by key.
use Rattle.std.proofs.Common.{◌≡◌, ℕ, Bool, true, false, cond, not, ◌&&◌, ◌==◌, nat_cmp, List, [], ◌∷◌, refl, sym, ap, ap₂, ◌∙◌, subst, arith}
use Rattle.std.specs.declared.cmp.Ordering.{Ordering}
use Rattle.std.specs.declared.cmp.Ordering.TheVariants.{Less, Equal, Greater}
use Rattle.std.specs.BTreeMap.{insert_entry, is_at}
use Rattle.std.specs.Cmp.Lexicographic.{slice_cmp, nat_list_eq_equiv}
use Rattle.std.specs.List.{AllByRecursion}
use Rattle.std.specs.List.Sorted.{IsStrictlySortedBy}
use Rattle.std.specs.Map.{keys_of, remove_entry}
use Rattle.std.specs.Ordering.{is_eq, is_lt, ordering_then, match_ordering}
use Rattle.std.specs.Str.{bytes_eq}
use Rattle.std.proofs.lemmas.Bool.{and_parts, eqb-true}
use Rattle.std.proofs.lemmas.Bool.Decides.{nat_tests}
use Rattle.std.proofs.lemmas.Map.Keys.{sorted_head, sorted_tail}
use Rattle.std.proofs.lemmas.Slice.Eq.{bytes_eq-Decides}
use Rattle.num_range.specs.declared.space.Space.{Space}
use Rattle.num_range.specs.declared.space.Space.TheVariants.{Asn, Ipv4, Ipv6}
use Rattle.num_range.specs.Space.{same_space}
use Rattle.num_range.specs.Range.{PlainRange, same_range}
use Rattle.reg_entry.specs.declared.object.Key.{Key}
use Rattle.reg_entry.specs.declared.object.Key.TheVariants.{Org, Block, Sub, Cut}
use Rattle.reg_entry.specs.Objects.{same_key, key_before}
use Rattle.reg_entry.specs.contracts.object.KeyOrd.TheImpl.{cmp-value}
use Rattle.mirror_core.specs.Objects.{with_attributes, without_object}

-- ---- which keys are equal

nats : (x y : ℕ) → is_eq (nat_cmp x y) ≡ (x == y)
nats x y = grind (arith, nat_tests)

first_decides : (o p : Ordering) → is_eq (ordering_then o p) ≡ is_eq o && is_eq p
first_decides Less p = refl
first_decides Equal p = refl
first_decides Greater p = refl

bytes : (xs ys : List ℕ) → is_eq (slice_cmp nat_cmp xs ys) ≡ bytes_eq xs ys
bytes [] [] = refl
bytes [] (y ∷ ys) = refl
bytes (x ∷ xs) [] = refl
bytes (x ∷ xs) (y ∷ ys) = first_decides (nat_cmp x y) (slice_cmp nat_cmp xs ys) ∙ ap₂ (λ (a b : Bool). a && b) (nats x y) (bytes xs ys)

bounds : (f g l m : ℕ) → is_eq (ordering_then (nat_cmp f g) (nat_cmp l m)) ≡ (f == g) && (l == m)
bounds f g l m = first_decides (nat_cmp f g) (nat_cmp l m) ∙ ap₂ (λ (a b : Bool). a && b) (nats f g) (nats l m)

ranges : (s t : Space) (f g l m : ℕ) → is_eq (cmp-value.it (Block (record { space = s; first = f; last = l })) (Block (record { space = t; first = g; last = m })))
    ≡ same_range (record { space = s; first = f; last = l }) (record { space = t; first = g; last = m })
ranges Asn Asn f g l m = bounds f g l m
ranges Asn Ipv4 f g l m = refl
ranges Asn Ipv6 f g l m = refl
ranges Ipv4 Asn f g l m = refl
ranges Ipv4 Ipv4 f g l m = bounds f g l m
ranges Ipv4 Ipv6 f g l m = refl
ranges Ipv6 Asn f g l m = refl
ranges Ipv6 Ipv4 f g l m = refl
ranges Ipv6 Ipv6 f g l m = bounds f g l m

pub equal_keys : (a b : Key) → is_eq (cmp-value.it a b) ≡ same_key a b
equal_keys (Org a) (Org b) = bytes a b
equal_keys (Block a) (Block b) = ranges a.space b.space a.first b.first a.last b.last
equal_keys (Sub a) (Sub b) = ranges a.space b.space a.first b.first a.last b.last
equal_keys (Cut a) (Cut b) = ranges a.space b.space a.first b.first a.last b.last
equal_keys (Org a) _ = refl
equal_keys (Block a) _ = refl
equal_keys (Sub a) _ = refl
equal_keys (Cut a) _ = refl

spaces_once : (s t : Space) → same_space s t ≡ true → s ≡ t
spaces_once Asn Asn h = refl
spaces_once Asn Ipv4 h = absurd (cc)
spaces_once Asn Ipv6 h = absurd (cc)
spaces_once Ipv4 Asn h = absurd (cc)
spaces_once Ipv4 Ipv4 h = refl
spaces_once Ipv4 Ipv6 h = absurd (cc)
spaces_once Ipv6 Asn h = absurd (cc)
spaces_once Ipv6 Ipv4 h = absurd (cc)
spaces_once Ipv6 Ipv6 h = refl

ranges_once : (r s : PlainRange) → same_range r s ≡ true → r ≡ s
ranges_once r s h =
    let parts = and_parts (same_space r.space s.space && (r.first == s.first)) (r.last == s.last) h in
    let front = and_parts (same_space r.space s.space) (r.first == s.first) parts.0 in
    let space = spaces_once r.space s.space front.0 in
    let first = eqb-true r.first s.first front.1 in
    let last = eqb-true r.last s.last parts.1 in
    let made : Space → ℕ → ℕ → PlainRange = λ (t : Space) (f l : ℕ). record { space = t; first = f; last = l } in
    ap (λ (t : Space). made t r.first r.last) space ∙ ap (λ (f : ℕ). made s.space f r.last) first ∙ ap (λ (l : ℕ). made s.space s.first l) last

pub keys_once : (a b : Key) → same_key a b ≡ true → a ≡ b
keys_once (Org a) (Org b) h = ap Org ((bytes_eq-Decides a b).0 h)
keys_once (Block a) (Block b) h = ap Block (ranges_once a b h)
keys_once (Sub a) (Sub b) h = ap Sub (ranges_once a b h)
keys_once (Cut a) (Cut b) h = ap Cut (ranges_once a b h)
keys_once (Org a) (Block b) h = absurd (cc)
keys_once (Org a) (Sub b) h = absurd (cc)
keys_once (Org a) (Cut b) h = absurd (cc)
keys_once (Block a) (Org b) h = absurd (cc)
keys_once (Block a) (Sub b) h = absurd (cc)
keys_once (Block a) (Cut b) h = absurd (cc)
keys_once (Sub a) (Org b) h = absurd (cc)
keys_once (Sub a) (Block b) h = absurd (cc)
keys_once (Sub a) (Cut b) h = absurd (cc)
keys_once (Cut a) (Org b) h = absurd (cc)
keys_once (Cut a) (Block b) h = absurd (cc)
keys_once (Cut a) (Sub b) h = absurd (cc)

ranges_back : (r s : PlainRange) → same_range r s ≡ same_range s r
ranges_back r s = grind (arith, nat_tests)

keys_back : (a b : Key) → same_key a b ≡ same_key b a
keys_back (Org a) (Org b) = nat_list_eq_equiv.symm a b
keys_back (Block a) (Block b) = ranges_back a b
keys_back (Sub a) (Sub b) = ranges_back a b
keys_back (Cut a) (Cut b) = ranges_back a b
keys_back (Org a) (Block b) = refl
keys_back (Org a) (Sub b) = refl
keys_back (Org a) (Cut b) = refl
keys_back (Block a) (Org b) = refl
keys_back (Block a) (Sub b) = refl
keys_back (Block a) (Cut b) = refl
keys_back (Sub a) (Org b) = refl
keys_back (Sub a) (Block b) = refl
keys_back (Sub a) (Cut b) = refl
keys_back (Cut a) (Org b) = refl
keys_back (Cut a) (Block b) = refl
keys_back (Cut a) (Sub b) = refl

-- ---- a list that rises by key

abbrev Entry : Type 0
Entry = Key × List (List ℕ × List ℕ)

chosen : (r : Ordering) (before same : Bool) (less greater kept taken : List Entry) → is_lt r ≡ before → is_eq r ≡ same → (same ≡ true → kept ≡ taken)
    → match_ordering r less kept greater ≡ cond same taken (cond before less greater)
chosen Less true false less greater kept taken lt eq same = refl
chosen Less true true less greater kept taken lt eq same = absurd (cc)
chosen Less false b less greater kept taken lt eq same = absurd (cc)
chosen Equal b true less greater kept taken lt eq same = same refl
chosen Equal b false less greater kept taken lt eq same = absurd (cc)
chosen Greater false false less greater kept taken lt eq same = refl
chosen Greater true b less greater kept taken lt eq same = absurd (cc)
chosen Greater false true less greater kept taken lt eq same = absurd (cc)

pub inserted : (lower : (a b : Key) → is_lt (cmp-value.it a b) ≡ key_before a b) (os : List Entry) (k : Key) (v : List (List ℕ × List ℕ))
    → insert_entry cmp-value.it os k v ≡ with_attributes os k v
inserted lower [] k v = refl
inserted lower (o ∷ os) k v =
    chosen (cmp-value.it k o.0) (key_before k o.0) (same_key o.0 k) ((k, v) ∷ o ∷ os) (o ∷ insert_entry cmp-value.it os k v) ((o.0, v) ∷ os) ((k, v) ∷ os)
    (lower k o.0) (equal_keys k o.0 ∙ keys_back k o.0) (λ same. ap (λ (key : Key). (key, v) ∷ os) (keys_once o.0 k same))
    ∙ ap (λ (more : List Entry). cond (same_key o.0 k) ((k, v) ∷ os) (cond (key_before k o.0) ((k, v) ∷ o ∷ os) (o ∷ more))) (inserted lower os k v)

-- none of these keys is this one
none_same : (k : Key) (os : List Entry) → AllByRecursion (λ (y : Key). cmp-value.it k y ≡ Less) (keys_of os) → without_object os k ≡ os
none_same k [] h = refl
none_same k (o ∷ os) h =
    let apart : same_key o.0 k ≡ false = keys_back o.0 k ∙ sym (equal_keys k o.0) ∙ ap is_eq h.0 in
    ap (λ (same : Bool). cond (not same) (o ∷ without_object os k) (without_object os k)) apart ∙ ap (λ (more : List Entry). o ∷ more) (none_same k os h.1)

removed_here : (same : Bool) (k : Key) (o : Entry) (os : List Entry) → same ≡ same_key o.0 k
    → AllByRecursion (λ (y : Key). cmp-value.it o.0 y ≡ Less) (keys_of os) → remove_entry (is_at (cmp-value.it k)) os ≡ without_object os k
    → cond same os (o ∷ remove_entry (is_at (cmp-value.it k)) os) ≡ cond (not same) (o ∷ without_object os k) (without_object os k)
removed_here true k o os is above more =
    sym (subst (λ (key : Key). without_object os key ≡ os) (keys_once o.0 k (sym is)) (none_same o.0 os above))
removed_here false k o os is above more = ap (λ (left : List Entry). o ∷ left) more

pub removed : (k : Key) (os : List Entry) → IsStrictlySortedBy cmp-value.it (keys_of os)
    → remove_entry (is_at (cmp-value.it k)) os ≡ without_object os k
removed k [] h = refl
removed k (o ∷ os) h =
    let same : is_eq (cmp-value.it k o.0) ≡ same_key o.0 k = equal_keys k o.0 ∙ keys_back k o.0 in
    removed_here (is_eq (cmp-value.it k o.0)) k o os same (sorted_head cmp-value.it o.0 (keys_of os) h) (removed k os (sorted_tail cmp-value.it o.0 (keys_of os) h))
    ∙ ap (λ (b : Bool). cond (not b) (o ∷ without_object os k) (without_object os k)) same
