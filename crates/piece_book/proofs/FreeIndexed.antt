-- The index of a pool: what a change of the pool does to it, and the least block that it shows.
use Rattle.std.proofs.Common.{◌≡◌, ℕ, ◌+◌, ◌^◌, ◌<◌, ◌≤◌, Bool, true, cond, List, [], ◌∷◌, ◌++◌, ◌⊎◌, length, map, filter, refl, sym, ◌∙◌, ap, subst, inl, inr, arith}
use Rattle.std.specs.List.{AllByRecursion, count_by, sum_by}
use Rattle.std.proofs.lemmas.Bool.{cases_Bool}
use Rattle.std.proofs.lemmas.List.{length-map}
use Rattle.std.proofs.lemmas.List.Sums.{sum_by-cons, sum_by-append, length-filter, count_by-le-length}
use Rattle.num_range.specs.declared.space.Space.{Space}
use Rattle.num_range.specs.declared.space.Space.TheVariants.{Asn, Ipv4, Ipv6}
use Rattle.num_range.specs.Range.{size_of}
use Rattle.reg_entry.specs.declared.piece.Piece.{Piece}
use Rattle.reg_entry.specs.Card.{is_available}
use Rattle.reg_entry.specs.Pieces.{RisesFrom, AllPiecesOf, IsPieceOf, ArePieces}
use Rattle.reg_entry.specs.Partition.{Partition, pieces_in, with_pieces, piece_count, IsPartition}
use Rattle.piece_book.specs.Touched.{IsTouched}
use Rattle.piece_book.specs.declared.free.key.FreeKey.{FreeKey}
use Rattle.piece_book.specs.Free.{key_cmp, key_of, is_key, free_keys, keys_of_pool, passing, IsIndexOf, AreCounted}
use Rattle.piece_book.proofs.FreePairs.{counts-cons, count_all, equal_is}
use Rattle.piece_book.proofs.FreeChange.{same_key, weight, weight_of, weight_none, free_counts, free_counts-append}

abbrev Pairs : Type 0
Pairs = List (FreeKey × Unit {0})

-- the keys of the pairs pass as the pairs do
pub passing_keys : (passes : FreeKey → Bool) (ps : Pairs) → count_by passes (map (λ (p : FreeKey × Unit {0}). p.0) ps) ≡ passing passes ps
passing_keys passes [] = refl
passing_keys passes (p ∷ ps) =
    omega (arith, counts-cons passes p.0 (map (λ (q : FreeKey × Unit {0}). q.0) ps), counts-cons (λ (q : FreeKey × Unit {0}). passes q.0) p ps, passing_keys passes ps)

pub indexed_passing : (passes : FreeKey → Bool) (ps : Pairs) (pool : Partition) → IsIndexOf (map (λ (p : FreeKey × Unit {0}). p.0) ps) pool
    → passing passes ps ≡ count_by passes (keys_of_pool pool)
indexed_passing passes ps pool h = sym (passing_keys passes ps) ∙ h.same passes

-- ---- the keys of the three spaces

pub pool_counts : (passes : FreeKey → Bool) (pool : Partition)
    → count_by passes (keys_of_pool pool) ≡ count_by passes (free_keys pool.asn) + (count_by passes (free_keys pool.ipv4) + count_by passes (free_keys pool.ipv6))
pool_counts passes pool =
    let one : FreeKey → ℕ = λ k. cond (passes k) 1 0 in
    let outer = sum_by-append one (free_keys pool.asn) (free_keys pool.ipv4 ++ free_keys pool.ipv6) in
    let inner = sum_by-append one (free_keys pool.ipv4) (free_keys pool.ipv6) in
    omega arith

with_counts : (passes : FreeKey → Bool) (pool : Partition) (space : Space) (ps : List Piece)
    → count_by passes (keys_of_pool (with_pieces pool space ps)) + count_by passes (free_keys (pieces_in pool space)) ≡ count_by passes (keys_of_pool pool) + count_by passes (free_keys ps)
with_counts passes pool Asn ps = omega (arith, pool_counts passes pool, pool_counts passes (with_pieces pool Asn ps))
with_counts passes pool Ipv4 ps = omega (arith, pool_counts passes pool, pool_counts passes (with_pieces pool Ipv4 ps))
with_counts passes pool Ipv6 ps = omega (arith, pool_counts passes pool, pool_counts passes (with_pieces pool Ipv6 ps))

space_within : (passes : FreeKey → Bool) (pool : Partition) (space : Space) → count_by passes (free_keys (pieces_in pool space)) ≤ count_by passes (keys_of_pool pool)
space_within passes pool Asn = omega (arith, pool_counts passes pool)
space_within passes pool Ipv4 = omega (arith, pool_counts passes pool)
space_within passes pool Ipv6 = omega (arith, pool_counts passes pool)

-- ---- a change of the pieces of a space

-- the pieces of a space in the pool that has others there
pieces_with : (pool : Partition) (space : Space) (ps : List Piece) → pieces_in (with_pieces pool space ps) space ≡ ps
pieces_with pool Asn ps = refl
pieces_with pool Ipv4 ps = refl
pieces_with pool Ipv6 ps = refl

abbrev joined_counts : (FreeKey → Bool) → List Piece → List Piece → List Piece → ℕ
joined_counts passes front mid back = count_by passes (free_keys front) + (count_by passes (free_keys mid) + count_by passes (free_keys back))

parts_counts : (passes : FreeKey → Bool) (ps front mid back : List Piece) → ps ≡ front ++ (mid ++ back) → count_by passes (free_keys ps) ≡ joined_counts passes front mid back
parts_counts passes ps front mid back e =
    let whole : count_by passes (free_keys ps) ≡ count_by passes (free_keys (front ++ (mid ++ back))) = ap (λ qs. count_by passes (free_keys qs)) e in
    omega (arith, free_counts-append passes front (mid ++ back), free_counts-append passes mid back)

pub change_counts : (passes : FreeKey → Bool) (pool next : Partition) (space : Space) (pieces before after : List Piece) → next ≡ with_pieces pool space pieces
    → IsTouched (pieces_in pool space) (pieces_in next space) before after
    → count_by passes (keys_of_pool next) + count_by passes (free_keys before) ≡ count_by passes (keys_of_pool pool) + count_by passes (free_keys after)
change_counts passes pool next space pieces before after changed h =
    let same : pieces_in next space ≡ pieces = ap (λ (p : Partition). pieces_in p space) changed ∙ pieces_with pool space pieces in
    let whole : count_by passes (keys_of_pool next) ≡ count_by passes (keys_of_pool (with_pieces pool space pieces)) = ap (λ (p : Partition). count_by passes (keys_of_pool p)) changed in
    let there : count_by passes (free_keys (pieces_in next space)) ≡ count_by passes (free_keys pieces) = ap (λ ps. count_by passes (free_keys ps)) same in
    omega (arith, with_counts passes pool space pieces, parts_counts passes (pieces_in pool space) h.front before h.back h.was, parts_counts passes (pieces_in next space) h.front after h.back h.stands)

pub went_was_there : (passes : FreeKey → Bool) (pool : Partition) (space : Space) (pieces before after : List Piece) → IsTouched (pieces_in pool space) pieces before after
    → count_by passes (free_keys before) ≤ count_by passes (keys_of_pool pool)
went_was_there passes pool space pieces before after h =
    omega (arith, space_within passes pool space, parts_counts passes (pieces_in pool space) h.front before h.back h.was)

-- ---- no key stands twice

weight_is : (key : FreeKey) (p : Piece) → (weight (is_key key) p ≡ 0) ⊎ ((weight (is_key key) p ≡ 1) × (key_of p ≡ key))
weight_is key p = elim (cases_Bool (is_available p.card.status)) [
  | inr f ↦ inl (weight_none (is_key key) p f)
  | inl t ↦ elim (cases_Bool (is_key key (key_of p))) [
    | inl same ↦ inr (weight_of (is_key key) p t ∙ ap (λ b. cond b 1 0) same, same_key (key_of p) key (equal_is (key_cmp (key_of p) key) same))
    | inr other ↦ inl (weight_of (is_key key) p t ∙ ap (λ b. cond b 1 0) other)
  ]
]

none_below : (key : FreeKey) (low : ℕ) (ps : List Piece) → RisesFrom low ps → key.first < low → sum_by (weight (is_key key)) ps ≡ 0
none_below key low [] h less = refl
none_below key low (p ∷ ps) h less =
    let rest : sum_by (weight (is_key key)) ps ≡ 0 = none_below key (p.range.last + 1) ps h.2 (omega (arith, h.0, h.1)) in
    let cons = sum_by-cons (weight (is_key key)) p ps in
    elim (weight_is key p) [
      | inl none ↦ omega arith
      | inr one ↦ let same : p.range.first ≡ key.first = ap (λ (k : FreeKey). k.first) one.1 in absurd (omega (arith, h.0))
    ]

one_at_most : (key : FreeKey) (low : ℕ) (ps : List Piece) → RisesFrom low ps → sum_by (weight (is_key key)) ps ≤ 1
one_at_most key low [] h = omega arith
one_at_most key low (p ∷ ps) h =
    let rest : sum_by (weight (is_key key)) ps ≤ 1 = one_at_most key (p.range.last + 1) ps h.2 in
    let cons = sum_by-cons (weight (is_key key)) p ps in
    elim (weight_is key p) [
      | inl none ↦ omega arith
      | inr one ↦
          let same : p.range.first ≡ key.first = ap (λ (k : FreeKey). k.first) one.1 in
          let none : sum_by (weight (is_key key)) ps ≡ 0 = none_below key (p.range.last + 1) ps h.2 (omega (arith, h.1)) in
          let is = one.0 in
          omega arith
    ]

none_elsewhere : (key : FreeKey) (space : Space) (ps : List Piece) → AllPiecesOf space ps → (key.space ≡ space → ⊥) → sum_by (weight (is_key key)) ps ≡ 0
none_elsewhere key space [] h other = refl
none_elsewhere key space (p ∷ ps) h other =
    let rest : sum_by (weight (is_key key)) ps ≡ 0 = none_elsewhere key space ps h.1 other in
    let cons = sum_by-cons (weight (is_key key)) p ps in
    elim (weight_is key p) [
      | inl none ↦ omega arith
      | inr one ↦ absurd (other (sym (ap (λ (k : FreeKey). k.space) one.1) ∙ h.0.of_space))
    ]

-- at most one piece of a space has the key, and none where it's a key of another
record HasOne (key : FreeKey) (space : Space) (ps : List Piece) : Type 0 where
  most : count_by (is_key key) (free_keys ps) ≤ 1
  none : (key.space ≡ space → ⊥) → count_by (is_key key) (free_keys ps) ≡ 0

has_one : (key : FreeKey) (space : Space) (ps : List Piece) → ArePieces space ps → HasOne key space ps
has_one key space ps h = record {
  most = subst (λ n. n ≤ 1) (sym (free_counts (is_key key) ps)) (one_at_most key 0 ps h.rises);
  none = λ other. free_counts (is_key key) ps ∙ none_elsewhere key space ps h.each other;
}

other_spaces : (Asn ≡ Ipv4 → ⊥) × (Asn ≡ Ipv6 → ⊥) × (Ipv4 ≡ Ipv6 → ⊥)
other_spaces = (λ e. cc, λ e. cc, λ e. cc)

keys_differ_from : (key : FreeKey) (space : Space) → key.space ≡ space → (asn ipv4 ipv6 : List Piece) → HasOne key Asn asn → HasOne key Ipv4 ipv4 → HasOne key Ipv6 ipv6
    → count_by (is_key key) (free_keys asn) + (count_by (is_key key) (free_keys ipv4) + count_by (is_key key) (free_keys ipv6)) ≤ 1
keys_differ_from key Asn e asn ipv4 ipv6 h i j = omega (arith, h.most, i.none (λ f. other_spaces.0 (sym e ∙ f)), j.none (λ f. other_spaces.1 (sym e ∙ f)))
keys_differ_from key Ipv4 e asn ipv4 ipv6 h i j = omega (arith, i.most, h.none (λ f. other_spaces.0 (sym f ∙ e)), j.none (λ f. other_spaces.2 (sym e ∙ f)))
keys_differ_from key Ipv6 e asn ipv4 ipv6 h i j = omega (arith, j.most, h.none (λ f. other_spaces.1 (sym f ∙ e)), i.none (λ f. other_spaces.2 (sym f ∙ e)))

pub keys_differ : (key : FreeKey) (pool : Partition) → IsPartition pool → count_by (is_key key) (keys_of_pool pool) ≤ 1
keys_differ key pool h =
    let one : ℕ = count_by (is_key key) (free_keys pool.asn) + (count_by (is_key key) (free_keys pool.ipv4) + count_by (is_key key) (free_keys pool.ipv6)) in
    let most : one ≤ 1 =
    keys_differ_from key key.space refl pool.asn pool.ipv4 pool.ipv6 (has_one key Asn pool.asn (h.each Asn)) (has_one key Ipv4 pool.ipv4 (h.each Ipv4)) (has_one key Ipv6 pool.ipv6 (h.each Ipv6)) in
    omega (arith, pool_counts (is_key key) pool)

-- ---- room

keys_no_more : (ps : List Piece) → length (free_keys ps) ≤ length ps
keys_no_more ps =
    let available : Piece → Bool = λ p. is_available p.card.status in
    omega (arith, length-map (filter available ps) key_of, length-filter available ps, count_by-le-length available ps)

pub keys_fit : (pool : Partition) → count_by (λ _. true) (keys_of_pool pool) ≤ piece_count pool
keys_fit pool =
    omega (arith, pool_counts (λ _. true) pool, count_all (free_keys pool.asn), count_all (free_keys pool.ipv4), count_all (free_keys pool.ipv6), keys_no_more pool.asn, keys_no_more pool.ipv4, keys_no_more pool.ipv6)

-- ---- numbers that are counted

piece_counted : (space : Space) (p : Piece) → IsPieceOf space p → size_of p.range < 2 ^ 128
piece_counted Asn p h = let top = h.within in omega arith
piece_counted Ipv4 p h = let top = h.within in omega arith
piece_counted Ipv6 p h = let top = (h.pooled h.of_space).1 in omega arith

pieces_counted : (space : Space) (ps : List Piece) → AllPiecesOf space ps → AreCounted ps
pieces_counted space [] h = tt
pieces_counted space (p ∷ ps) h = (piece_counted space p h.0, pieces_counted space ps h.1)

all_front : {T : Type 0} (P : T → Type 0) (xs ys : List T) → AllByRecursion P (xs ++ ys) → AllByRecursion P xs
all_front P [] ys h = tt
all_front P (x ∷ xs) ys h = (h.0, all_front P xs ys h.1)

all_behind : {T : Type 0} (P : T → Type 0) (xs ys : List T) → AllByRecursion P (xs ++ ys) → AllByRecursion P ys
all_behind P [] ys h = h
all_behind P (x ∷ xs) ys h = all_behind P xs ys h.1

pub middle_counted : (space : Space) (ps front mid back : List Piece) → AllPiecesOf space ps → ps ≡ front ++ (mid ++ back) → AreCounted mid
middle_counted space ps front mid back h e =
    let counted : AreCounted (front ++ (mid ++ back)) = subst AreCounted e (pieces_counted space ps h) in
    let P : Piece → Type 0 = λ p. size_of p.range < 2 ^ 128 in
    all_front P mid back (all_behind P front (mid ++ back) counted)
