-- The objects of a whole register rise by key, and so have distinct keys.
use Rattle.std.proofs.Common.{◌≡◌, ℕ, suc, ◌+◌, ◌<◌, ◌≤◌, Bool, cond, inl, inr, List, [], ◌∷◌, ◌++◌, None, Some, map, refl, sym, ◌∙◌, ap, subst, arith, true, not, nat_lt, filter}
use Rattle.std.specs.List.{fold, flat_map}
use Rattle.std.proofs.lemmas.Bool.{cond_both, cond-false, false_from_ne_true, or_left, or_right, and_from, lt-ltb, eq-eqb}
use Rattle.num_range.specs.declared.space.Space.{Space}
use Rattle.num_range.specs.declared.space.Space.TheVariants.{Asn, Ipv4, Ipv6}
use Rattle.num_range.specs.Range.{PlainRange}
use Rattle.num_range.specs.Block.{block_size}
use Rattle.num_range.specs.Cover.{is_cut_length, reverse_cuts}
use Rattle.reg_entry.specs.declared.holder.Holder.{Holder}
use Rattle.reg_entry.specs.declared.piece.Piece.{Piece}
use Rattle.reg_entry.specs.declared.sub_card.SubCard.{SubCard}
use Rattle.reg_entry.specs.declared.object.Object.{Object}
use Rattle.reg_entry.specs.declared.object.Object.TheVariants.{Cut}
use Rattle.reg_entry.specs.declared.object.Key.{Key}
use Rattle.reg_entry.specs.declared.object.Key.TheVariants.{Org as OrgKey, Block as BlockKey, Sub as SubKey, Cut as CutKey}
use Rattle.reg_entry.specs.declared.object.Act.{Act}
use Rattle.reg_entry.specs.declared.object.Act.TheVariants.{Add, Del}
use Rattle.reg_entry.specs.Pieces.{RisesFrom, AllPiecesOf}
use Rattle.reg_entry.specs.Ranges.{space_rank, IsBelow, AreApart, same_space, range_before}
use Rattle.reg_entry.specs.Register.{Register}
use Rattle.reg_entry.specs.Objects.{key_of, has_key, object_at, HaveDistinctKeys, with_object, key_before, org_of, orgs_of, blocks_of, sub_of, cuts_of, objects_of, changed, played}
use Rattle.reg_entry.specs.Whole.{IsWholeRegister}
use Rattle.reg_laws.proofs.Sameness.{same_key-true}
use Rattle.reg_laws.proofs.RangeLists.{RisesAfter, apart_parts, below_cases, below_through, below_rank, below_same}
use Rattle.reg_laws.proofs.ReverseCuts.{RiseIn, cuts_rise}
use Rattle.reg_laws.specs.Rising.{IsBeforeAll, RisesByKey}
use Rattle.reg_laws.proofs.KeyOrder.{key_before_through, no_key_before_itself, key_behind}

-- ---- lists that rise by key

pub none_after : (k : Key) (os : List Object) → IsBeforeAll k os → object_at os k ≡ None
none_after k [] h = refl
none_after k (o ∷ os) h =
    cond-false (has_key k o) (Some o) (object_at os k)
    (false_from_ne_true (has_key k o) (λ t. no_key_before_itself k (subst (λ j. key_before k j ≡ true) (same_key-true (key_of o) k t) h.0)))
    ∙ none_after k os h.1

pub after_lower : (j k : Key) (os : List Object) → key_before j k ≡ true → IsBeforeAll k os → IsBeforeAll j os
after_lower j k [] e h = tt
after_lower j k (o ∷ os) e h = (key_before_through j k (key_of o) e h.0, after_lower j k os e h.1)

after_filter : (k : Key) (test : Object → Bool) (os : List Object) → IsBeforeAll k os → IsBeforeAll k (filter test os)
after_filter k test [] h = tt
after_filter k test (o ∷ os) h =
    cond_both (test o) (o ∷ filter test os) (filter test os) (IsBeforeAll k)
    (λ e. (h.0, after_filter k test os h.1))
    (λ e. after_filter k test os h.1)

rises_filter : (test : Object → Bool) (os : List Object) → RisesByKey os → RisesByKey (filter test os)
rises_filter test [] h = tt
rises_filter test (o ∷ os) h =
    cond_both (test o) (o ∷ filter test os) (filter test os) RisesByKey
    (λ e. (after_filter (key_of o) test os h.0, rises_filter test os h.1))
    (λ e. rises_filter test os h.1)

after_with : (k : Key) (os : List Object) (o : Object) → key_before k (key_of o) ≡ true → IsBeforeAll k os → IsBeforeAll k (with_object os o)
after_with k [] o e h = (e, tt)
after_with k (p ∷ os) o e h =
    cond_both (has_key (key_of o) p) (o ∷ os) (cond (key_before (key_of o) (key_of p)) (o ∷ p ∷ os) (p ∷ with_object os o)) (IsBeforeAll k)
    (λ t. (e, h.1))
    (λ f.
    cond_both (key_before (key_of o) (key_of p)) (o ∷ p ∷ os) (p ∷ with_object os o) (IsBeforeAll k)
    (λ b. (e, h))
    (λ b. (h.0, after_with k os o e h.1)))

rises_with : (os : List Object) (o : Object) → RisesByKey os → RisesByKey (with_object os o)
rises_with [] o h = (tt, tt)
rises_with (p ∷ os) o h =
    cond_both (has_key (key_of o) p) (o ∷ os) (cond (key_before (key_of o) (key_of p)) (o ∷ p ∷ os) (p ∷ with_object os o)) RisesByKey
    (λ t. (subst (λ k. IsBeforeAll k os) (same_key-true (key_of p) (key_of o) t) h.0, h.1))
    (λ f.
    cond_both (key_before (key_of o) (key_of p)) (o ∷ p ∷ os) (p ∷ with_object os o) RisesByKey
    (λ b. ((b, after_lower (key_of o) (key_of p) os b h.0), h))
    (λ b. (after_with (key_of p) os o (key_behind (key_of o) (key_of p) b f) h.0, rises_with os o h.1)))

rises_changed : (os : List Object) (c : Act × Object) → RisesByKey os → RisesByKey (changed os c)
rises_changed os (Add, o) h = rises_with os o h
rises_changed os (Del, o) h = rises_filter (λ p. not (has_key (key_of o) p)) os h

pub rises_played : (os : List Object) (cs : List (Act × Object)) → RisesByKey os → RisesByKey (played os cs)
rises_played os [] h = h
rises_played os (c ∷ cs) h = rises_played (changed os c) cs (rises_changed os c h)

rising_is_distinct : (os : List Object) → RisesByKey os → HaveDistinctKeys os
rising_is_distinct [] h = tt
rising_is_distinct (o ∷ os) h = (none_after (key_of o) os h.0, rising_is_distinct os h.1)

-- ---- the parts of the map

-- the part of the map where a key's object stands: holders, the pieces of each space, subs, reverse cuts
abbrev part_of : Key → ℕ
part_of (OrgKey handle) = 0
part_of (BlockKey range) = suc (space_rank range.space)
part_of (SubKey range) = 4
part_of (CutKey range) = 5

abbrev AllBefore : ℕ → List Object → Type 0
AllBefore n [] = Unit {0}
AllBefore n (o ∷ os) = (part_of (key_of o) < n) × AllBefore n os

abbrev AllIn : ℕ → List Object → Type 0
AllIn n [] = Unit {0}
AllIn n (o ∷ os) = (part_of (key_of o) ≡ n) × AllIn n os

before_append : (n m k : ℕ) (os ps : List Object) → n ≤ m → k < m → AllBefore n os → AllIn k ps → AllBefore m (os ++ ps)
before_append n m k [] [] h g before all = tt
before_append n m k [] (p ∷ ps) h g before all = (let e = all.0 in omega arith, before_append n m k [] ps h g tt all.1)
before_append n m k (o ∷ os) ps h g before all = (let e = before.0 in omega arith, before_append n m k os ps h g before.1 all)

rank_bound : (s : Space) → space_rank s ≤ 2
rank_bound Asn = omega arith
rank_bound Ipv4 = omega arith
rank_bound Ipv6 = omega arith

part_before : (j k : Key) → part_of j < part_of k → key_before j k ≡ true
part_before (OrgKey a) (OrgKey b) h = absurd (omega arith)
part_before (OrgKey a) (BlockKey b) h = refl
part_before (OrgKey a) (SubKey b) h = refl
part_before (OrgKey a) (CutKey b) h = refl
part_before (BlockKey a) (OrgKey b) h = absurd (omega arith)
part_before (BlockKey a) (BlockKey b) h =
    or_left (nat_lt (space_rank a.space) (space_rank b.space)) _ (lt-ltb (space_rank a.space) (space_rank b.space) (omega arith))
part_before (BlockKey a) (SubKey b) h = refl
part_before (BlockKey a) (CutKey b) h = refl
part_before (SubKey a) (OrgKey b) h = absurd (omega arith)
part_before (SubKey a) (BlockKey b) h = absurd (let r = rank_bound b.space in omega arith)
part_before (SubKey a) (SubKey b) h = absurd (omega arith)
part_before (SubKey a) (CutKey b) h = refl
part_before (CutKey a) (OrgKey b) h = absurd (omega arith)
part_before (CutKey a) (BlockKey b) h = absurd (let r = rank_bound b.space in omega arith)
part_before (CutKey a) (SubKey b) h = absurd (omega arith)
part_before (CutKey a) (CutKey b) h = absurd (omega arith)

after_part : (n : ℕ) (k : Key) (os : List Object) → part_of k < n → AllIn n os → IsBeforeAll k os
after_part n k [] h all = tt
after_part n k (o ∷ os) h all = (part_before k (key_of o) (let e = all.0 in omega arith), after_part n k os h all.1)

after_both : (k : Key) (os ps : List Object) → IsBeforeAll k os → IsBeforeAll k ps → IsBeforeAll k (os ++ ps)
after_both k [] ps h g = g
after_both k (o ∷ os) ps h g = (h.0, after_both k os ps h.1 g)

rises_append : (n : ℕ) (os ps : List Object) → AllBefore n os → AllIn n ps → RisesByKey os → RisesByKey ps → RisesByKey (os ++ ps)
rises_append n [] ps before all h g = g
rises_append n (o ∷ os) ps before all h g =
    (after_both (key_of o) os ps h.0 (after_part n (key_of o) ps before.0 all), rises_append n os ps before.1 all h.1 g)

-- ---- holders

orgs_rise : (os : List Object) (hs : List (Holder × ℕ)) → RisesByKey os → RisesByKey (fold with_object os (map org_of hs))
orgs_rise os [] h = h
orgs_rise os (m ∷ hs) h = orgs_rise (with_object os (org_of m)) hs (rises_with os (org_of m) h)

in_with : (n : ℕ) (os : List Object) (o : Object) → part_of (key_of o) ≡ n → AllIn n os → AllIn n (with_object os o)
in_with n [] o e h = (e, tt)
in_with n (p ∷ os) o e h =
    cond_both (has_key (key_of o) p) (o ∷ os) (cond (key_before (key_of o) (key_of p)) (o ∷ p ∷ os) (p ∷ with_object os o)) (AllIn n)
    (λ t. (e, h.1))
    (λ f.
    cond_both (key_before (key_of o) (key_of p)) (o ∷ p ∷ os) (p ∷ with_object os o) (AllIn n)
    (λ b. (e, h))
    (λ b. (h.0, in_with n os o e h.1)))

orgs_in : (os : List Object) (hs : List (Holder × ℕ)) → AllIn 0 os → AllIn 0 (fold with_object os (map org_of hs))
orgs_in os [] h = h
orgs_in os (m ∷ hs) h = orgs_in (with_object os (org_of m)) hs (in_with 0 os (org_of m) refl h)

before_next : (n : ℕ) (os : List Object) → AllIn n os → AllBefore (n + 1) os
before_next n [] h = tt
before_next n (o ∷ os) h = (let e = h.0 in omega arith, before_next n os h.1)

-- ---- pieces

blocks_after : (hs : List (Holder × ℕ)) (space : Space) (low : ℕ) (ps : List Piece) (r : PlainRange) → RisesFrom low ps → AllPiecesOf space ps
    → r.space ≡ space → r.first < low → IsBeforeAll (BlockKey r) (blocks_of hs ps)
blocks_after hs space low [] r rises each e h = tt
blocks_after hs space low (p ∷ ps) r rises each e h =
    let l : low ≤ p.range.first = rises.0 in
    let o : p.range.first ≤ p.range.last = rises.1 in (
      or_right (nat_lt (space_rank r.space) (space_rank p.range.space)) _
          (and_from (same_space r.space p.range.space) _ (eq-eqb (space_rank r.space) (space_rank p.range.space) (ap space_rank (e ∙ sym each.0.of_space)))
          (or_left (nat_lt r.first p.range.first) _ (lt-ltb r.first p.range.first (omega arith)))),
      blocks_after hs space (p.range.last + 1) ps r rises.2 each.1 e (omega arith),
    )

blocks_rise : (hs : List (Holder × ℕ)) (space : Space) (low : ℕ) (ps : List Piece) → RisesFrom low ps → AllPiecesOf space ps → RisesByKey (blocks_of hs ps)
blocks_rise hs space low [] rises each = tt
blocks_rise hs space low (p ∷ ps) rises each =
    let o : p.range.first ≤ p.range.last = rises.1 in
    (blocks_after hs space (p.range.last + 1) ps p.range rises.2 each.1 each.0.of_space (omega arith), blocks_rise hs space (p.range.last + 1) ps rises.2 each.1)

blocks_in : (hs : List (Holder × ℕ)) (space : Space) (ps : List Piece) → AllPiecesOf space ps → AllIn (suc (space_rank space)) (blocks_of hs ps)
blocks_in hs space [] h = tt
blocks_in hs space (p ∷ ps) h = (ap (λ s. suc (space_rank s)) h.0.of_space, blocks_in hs space ps h.1)

-- ---- subs

before_of_below : (r s : PlainRange) → r.first ≤ r.last → IsBelow r s → range_before r s ≡ true
before_of_below r s order h =
    elim (below_cases r s h) [
      | inl lt ↦ or_left (nat_lt (space_rank r.space) (space_rank s.space)) _ (lt-ltb (space_rank r.space) (space_rank s.space) lt)
      | inr eq ↦
          or_right (nat_lt (space_rank r.space) (space_rank s.space)) _
          (and_from (same_space r.space s.space) _ (eq-eqb (space_rank r.space) (space_rank s.space) eq.0)
          (or_left (nat_lt r.first s.first) _ (lt-ltb r.first s.first (let l = eq.1 in omega arith))))
    ]

subs_after : (hs : List (Holder × ℕ)) (q : PlainRange) (ss : List (PlainRange × SubCard)) → q.first ≤ q.last → RisesAfter q ss
    → IsBeforeAll (SubKey q) (map (sub_of hs) ss)
subs_after hs q [] order h = tt
subs_after hs q (s ∷ ss) order h =
    (before_of_below q s.0 order h.0, after_lower (SubKey q) (SubKey s.0) (map (sub_of hs) ss) (before_of_below q s.0 order h.0) (subs_after hs s.0 ss h.1.0 h.2))

subs_rise : (hs : List (Holder × ℕ)) (q : PlainRange) (ss : List (PlainRange × SubCard)) → RisesAfter q ss → RisesByKey (map (sub_of hs) ss)
subs_rise hs q [] h = tt
subs_rise hs q (s ∷ ss) h = (subs_after hs s.0 ss h.1.0 h.2, subs_rise hs s.0 ss h.2)

apart_subs_rise : (hs : List (Holder × ℕ)) (ss : List (PlainRange × SubCard)) → AreApart ss → RisesByKey (map (sub_of hs) ss)
apart_subs_rise hs [] h = tt
apart_subs_rise hs (s ∷ ss) h = let parts = apart_parts s ss h in (subs_after hs s.0 ss parts.0.0 parts.1, subs_rise hs s.0 ss parts.1)

subs_in_part : (hs : List (Holder × ℕ)) (ss : List (PlainRange × SubCard)) → AllIn 4 (map (sub_of hs) ss)
subs_in_part hs [] = tt
subs_in_part hs (s ∷ ss) = (refl, subs_in_part hs ss)

-- ---- reverse cuts

-- the cuts rise, and the first has this property
abbrev CutsFrom : (PlainRange → Type 0) → List Object → Type 0
CutsFrom P [] = Unit {0}
CutsFrom P (o ∷ os) = (b : PlainRange) × (key_of o ≡ CutKey b) × P b × (b.first ≤ b.last) × CutsFrom (IsBelow b) os

cuts_from_other : (P Q : PlainRange → Type 0) (os : List Object) → ((b : PlainRange) → P b → Q b) → CutsFrom P os → CutsFrom Q os
cuts_from_other P Q [] h cuts = tt
cuts_from_other P Q (o ∷ os) h cuts = (cuts.0, cuts.1, h cuts.0 cuts.2, cuts.3, cuts.4)

cuts_after : (q : PlainRange) (os : List Object) → q.first ≤ q.last → CutsFrom (IsBelow q) os → IsBeforeAll (CutKey q) os
cuts_after q [] order h = tt
cuts_after q (o ∷ os) order h =
    let here : key_before (CutKey q) (key_of o) ≡ true = ap (key_before (CutKey q)) h.1 ∙ before_of_below q h.0 order h.2 in
    (here, after_lower (CutKey q) (key_of o) os here (subst (λ k. IsBeforeAll k os) (sym h.1) (cuts_after h.0 os h.3 h.4)))

cuts_rise_by_key : (P : PlainRange → Type 0) (os : List Object) → CutsFrom P os → RisesByKey os
cuts_rise_by_key P [] h = tt
cuts_rise_by_key P (o ∷ os) h = (subst (λ k. IsBeforeAll k os) (sym h.1) (cuts_after h.0 os h.3 h.4), cuts_rise_by_key (IsBelow h.0) os h.4)

cuts_in : (P : PlainRange → Type 0) (os : List Object) → CutsFrom P os → AllIn 5 os
cuts_in P [] cuts = tt
cuts_in P (o ∷ os) cuts = (ap part_of cuts.1, cuts_in (IsBelow cuts.0) os cuts.4)

-- a range that ends no later than another lies below whatever the other does
ends_by : (b s c : PlainRange) → b.space ≡ s.space → b.last ≤ s.last → IsBelow s c → IsBelow b c
ends_by b s c e h below =
    let one : space_rank b.space ≡ space_rank s.space = ap space_rank e in
    elim (below_cases s c below) [
      | inl lt ↦ below_rank b c (omega arith)
      | inr eq ↦ below_same b c (one ∙ eq.0) (let l = eq.1 in omega arith)
    ]

-- a range below another lies below each range of the other's numbers
starts_behind : (q s b : PlainRange) → b.space ≡ s.space → s.first ≤ b.first → IsBelow q s → IsBelow q b
starts_behind q s b e h below =
    let one : space_rank b.space ≡ space_rank s.space = ap space_rank e in
    elim (below_cases q s below) [
      | inl lt ↦ below_rank q b (omega arith)
      | inr eq ↦ below_same q b (eq.0 ∙ sym one) (let l = eq.1 in omega arith)
    ]

-- the cuts of one range, and then those of the ranges behind it
cuts_then : (asked : ℕ → Bool) (P : PlainRange → Type 0) (s : PlainRange) (low end : ℕ) (bs : List PlainRange) (servers : List (List ℕ)) (rest : List Object)
    → RiseIn asked s low end bs → ((b : PlainRange) → b.space ≡ s.space → s.first ≤ b.first → low ≤ b.first → P b)
    → ((c : PlainRange) → IsBelow s c → P c) → CutsFrom (IsBelow s) rest → CutsFrom P (map (λ block. Cut block servers) bs ++ rest)
cuts_then asked P s low end [] servers rest rises inner behind cuts = cuts_from_other (IsBelow s) P rest behind cuts
cuts_then asked P s low end (b ∷ bs) servers rest rises inner behind cuts =
    let found = rises.0 in (
      b,
      refl,
      inner b found.of_space found.begins found.above,
      found.order,
      cuts_then asked (IsBelow b) s (b.last + 1) end bs servers rest rises.1
          (λ c e h l. below_same b c (ap space_rank found.of_space ∙ sym (ap space_rank e)) (omega arith))
          (λ c h. ends_by b s c found.of_space found.ends h) cuts,
    )

cuts_of_rising : (q : PlainRange) (ss : List (PlainRange × List (List ℕ))) → RisesAfter q ss → CutsFrom (IsBelow q) (flat_map cuts_of ss)
cuts_of_rising q [] h = tt
cuts_of_rising q (s ∷ ss) h =
    cuts_then (is_cut_length s.0.space) (IsBelow q) s.0 0 (block_size s.0.space 0) (reverse_cuts s.0) s.1 (flat_map cuts_of ss) (cuts_rise s.0)
    (λ b e k l. starts_behind q s.0 b e k h.0) (λ c k. below_through q s.0 c h.0 h.1.0 k) (cuts_of_rising s.0 ss h.2)

cuts_of_apart : (ss : List (PlainRange × List (List ℕ))) → AreApart ss → CutsFrom (λ b. Unit {0}) (flat_map cuts_of ss)
cuts_of_apart [] h = tt
cuts_of_apart (s ∷ ss) h =
    cuts_then (is_cut_length s.0.space) (λ b. Unit {0}) s.0 0 (block_size s.0.space 0) (reverse_cuts s.0) s.1 (flat_map cuts_of ss) (cuts_rise s.0)
    (λ b e k l. tt) (λ c k. tt) (cuts_of_rising s.0 ss (apart_parts s ss h).1)

-- ---- all objects

pub whole_rises : (r : Register) → IsWholeRegister r → RisesByKey (objects_of r)
whole_rises r h =
    let hs : List (Holder × ℕ) = r.holders in
    let orgs : List Object = orgs_of hs in
    let asn : List Object = blocks_of hs r.pool.asn in
    let ipv4 : List Object = blocks_of hs r.pool.ipv4 in
    let ipv6 : List Object = blocks_of hs r.pool.ipv6 in
    let subs : List Object = map (sub_of hs) r.subs in
    let cuts : List Object = flat_map cuts_of r.reverses in
    let pa = h.pieces.each Asn in
    let pb = h.pieces.each Ipv4 in
    let pc = h.pieces.each Ipv6 in
    let a = blocks_in hs Asn r.pool.asn pa.each in
    let b = blocks_in hs Ipv4 r.pool.ipv4 pb.each in
    let c = blocks_in hs Ipv6 r.pool.ipv6 pc.each in
    let d = subs_in_part hs r.subs in
    let all = cuts_of_apart r.reverses h.reverses_apart in
    let none : AllBefore 1 orgs = before_next 0 orgs (orgs_in [] hs tt) in
    let before_b : AllBefore 2 (orgs ++ asn) = before_append 1 2 1 orgs asn (omega arith) (omega arith) none a in
    let before_c : AllBefore 3 (orgs ++ asn ++ ipv4) = before_append 2 3 2 (orgs ++ asn) ipv4 (omega arith) (omega arith) before_b b in
    let before_d : AllBefore 4 (orgs ++ asn ++ ipv4 ++ ipv6) = before_append 3 4 3 (orgs ++ asn ++ ipv4) ipv6 (omega arith) (omega arith) before_c c in
    let before_e : AllBefore 5 (orgs ++ asn ++ ipv4 ++ ipv6 ++ subs) = before_append 4 5 4 (orgs ++ asn ++ ipv4 ++ ipv6) subs (omega arith) (omega arith) before_d d in
    rises_append 5 (orgs ++ asn ++ ipv4 ++ ipv6 ++ subs) cuts before_e (cuts_in (λ x. Unit {0}) cuts all)
    (rises_append 4 (orgs ++ asn ++ ipv4 ++ ipv6) subs before_d d
    (rises_append 3 (orgs ++ asn ++ ipv4) ipv6 before_c c
    (rises_append 2 (orgs ++ asn) ipv4 before_b b
    (rises_append 1 orgs asn none a (orgs_rise [] hs tt) (blocks_rise hs Asn 0 r.pool.asn pa.rises pa.each))
    (blocks_rise hs Ipv4 0 r.pool.ipv4 pb.rises pb.each))
    (blocks_rise hs Ipv6 0 r.pool.ipv6 pc.rises pc.each))
    (apart_subs_rise hs r.subs h.subs_apart))
    (cuts_rise_by_key (λ x. Unit {0}) cuts all)

pub whole_is_distinct : (r : Register) → IsWholeRegister r → HaveDistinctKeys (objects_of r)
whole_is_distinct r h = rising_is_distinct (objects_of r) (whole_rises r h)
