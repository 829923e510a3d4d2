-- The least block is that of the least first number among the keys that serve.
use Rattle.std.proofs.Common.{◌≡◌, ℕ, ◌+◌, ◌-◌, ◌^◌, ◌<◌, ◌≤◌, Bool, true, false, cond, ◌&&◌, ◌==◌, nat_lt, nat_le, List, [], ◌∷◌, map, Option, None, Some, refl, sym, ◌∙◌, ap, subst, inl, inr, arith}
use Rattle.std.specs.List.{AllByRecursion, count_by, sum_by}
use Rattle.std.specs.Option.{option_map}
use Rattle.std.proofs.lemmas.Bool.{cases_Bool, cases_order, and_parts, and_from, and_left, and_right, and_cases, ltb-true, ltb-false, le-ltb, lt-ltb, eq-eqb, ne_eqb, false_from_ne_true}
use Rattle.std.proofs.lemmas.List.Sums.{sum_by-cons}
use Rattle.std.proofs.lemmas.Nat.{pow_pos}
use Rattle.num_range.specs.declared.space.Space.{Space}
use Rattle.num_range.specs.declared.space.Space.TheVariants.{Asn, Ipv4, Ipv6}
use Rattle.num_range.specs.Space.{space_rank, same_space, top_of}
use Rattle.num_range.specs.Amount.{alignment}
use Rattle.reg_entry.specs.declared.piece.Piece.{Piece}
use Rattle.reg_entry.specs.Card.{is_available}
use Rattle.reg_entry.specs.Pieces.{RisesFrom, AllPiecesOf, ArePieces}
use Rattle.reg_entry.specs.Partition.{Partition, pieces_in, IsPartition}
use Rattle.reg_entry.specs.Blocks.{rounded_up, least_block, IsLeastBlock}
use Rattle.reg_entry.proofs.LeastBlock.{least_block_is_least}
use Rattle.piece_book.specs.declared.free.key.FreeKey.{FreeKey}
use Rattle.piece_book.specs.Free.{key_of, keys_of_pool, block_class, serves, passing, IsBlockSize, IsIndexOf, IsLeastFirst}
use Rattle.piece_book.proofs.FreePairs.{counts_none, none_counted, counted_at, all_weaker}
use Rattle.piece_book.proofs.FreeChange.{weight, weight_of, weight_none, free_counts}
use Rattle.piece_book.proofs.FreeClass.{IsClass, class_serves, class_within}
use Rattle.piece_book.proofs.FreeLeast.{serves_is}
use Rattle.piece_book.proofs.FreeIndexed.{indexed_passing, pool_counts}

abbrev Pairs : Type 0
Pairs = List (FreeKey × Unit {0})

-- ---- tests of keys

-- keys that serve and begin below a number, and those that begin at it
abbrev below : Space → ℕ → ℕ → FreeKey → Bool
below space class first key = serves space class key && nat_lt key.first first

abbrev at : Space → ℕ → ℕ → FreeKey → Bool
at space class first key = serves space class key && (key.first == first)

-- ---- in a space

module _ (space : Space) (size class : ℕ) (h : IsClass space size class) where
  abbrev fits : Piece → Bool
  fits p = nat_le (rounded_up p.range.first (alignment space size) + (size - 1)) p.range.last

  -- a piece's key serves where it has room for the block
  key_serves : (p : Piece) → p.range.space ≡ space → p.range.first ≤ p.range.last → serves space class (key_of p) ≡ fits p
  key_serves p e order =
      let same : same_space p.range.space space ≡ true = eq-eqb (space_rank p.range.space) (space_rank space) (ap space_rank e) in
      ap (λ b. b && nat_le class (block_class p.range.space p.range)) same
      ∙ ap (λ s. nat_le class (block_class s p.range)) e
      ∙ class_serves space p.range size class order h

  least_rest : (p : Piece) (ps : List Piece) → (is_available p.card.status && fits p) ≡ false → least_block (p ∷ ps) space size ≡ least_block ps space size
  least_rest p ps f = ap (λ b. cond b (Some (rounded_up p.range.first (alignment space size))) (least_block ps space size)) f

  pub none_where_none : (ps : List Piece) → (low : ℕ) → RisesFrom low ps → AllPiecesOf space ps → sum_by (weight (serves space class)) ps ≡ 0 → least_block ps space size ≡ None
  none_where_none [] low rises each none = refl
  none_where_none (p ∷ ps) low rises each none =
      let cons = sum_by-cons (weight (serves space class)) p ps in
      let rest : sum_by (weight (serves space class)) ps ≡ 0 = omega arith in
      let full : (is_available p.card.status && fits p) ≡ false = false_from_ne_true (is_available p.card.status && fits p) (λ t.
      let both = and_parts (is_available p.card.status) (fits p) t in
      let one : weight (serves space class) p ≡ 1 =
      weight_of (serves space class) p both.0 ∙ ap (λ b. cond b 1 0) (key_serves p each.0.of_space rises.1 ∙ both.1) in
      absurd (omega arith)) in
      least_rest p ps full ∙ none_where_none ps (p.range.last + 1) rises.2 each.1 rest

  none_at_below : (first low : ℕ) (ps : List Piece) → RisesFrom low ps → first < low → sum_by (weight (at space class first)) ps ≡ 0
  none_at_below first low [] rises less = refl
  none_at_below first low (p ∷ ps) rises less =
      let cons = sum_by-cons (weight (at space class first)) p ps in
      let rest : sum_by (weight (at space class first)) ps ≡ 0 = none_at_below first (p.range.last + 1) ps rises.2 (omega (arith, rises.0, rises.1)) in
      let other : at space class first (key_of p) ≡ false =
      and_right (serves space class (key_of p)) (p.range.first == first) (ne_eqb p.range.first first (λ e. omega (arith, rises.0))) in
      elim (cases_Bool (is_available p.card.status)) [
        | inl t ↦ let none : weight (at space class first) p ≡ 0 = weight_of (at space class first) p t ∙ ap (λ b. cond b 1 0) other in omega arith
        | inr f ↦ let none : weight (at space class first) p ≡ 0 = weight_none (at space class first) p f in omega arith
      ]

  pub least_is_first : (first low : ℕ) (ps : List Piece) → RisesFrom low ps → AllPiecesOf space ps
      → sum_by (weight (below space class first)) ps ≡ 0 → 0 < sum_by (weight (at space class first)) ps
      → least_block ps space size ≡ Some (rounded_up first (alignment space size))
  least_is_first first low [] rises each none some = absurd (omega arith)
  least_is_first first low (p ∷ ps) rises each none some =
      let lower = sum_by-cons (weight (below space class first)) p ps in
      let equal = sum_by-cons (weight (at space class first)) p ps in
      let rest : sum_by (weight (below space class first)) ps ≡ 0 = omega arith in
      elim (cases_Bool (is_available p.card.status && fits p)) [
        | inl t ↦
            let both = and_parts (is_available p.card.status) (fits p) t in
            let room : serves space class (key_of p) ≡ true = key_serves p each.0.of_space rises.1 ∙ both.1 in
            let here : least_block (p ∷ ps) space size ≡ Some (rounded_up p.range.first (alignment space size)) =
            ap (λ b. cond b (Some (rounded_up p.range.first (alignment space size))) (least_block ps space size)) t in
            elim (cases_order p.range.first first) [
              | inl same ↦ here ∙ ap (λ n. Some (rounded_up n (alignment space size))) same
              | inr other ↦ elim other [
                | inl less ↦
                    let one : weight (below space class first) p ≡ 1 =
                    weight_of (below space class first) p both.0
                    ∙ ap (λ b. cond b 1 0) (and_from (serves space class (key_of p)) (nat_lt p.range.first first) room (lt-ltb p.range.first first less)) in
                    absurd (omega arith)
                | inr more ↦
                    let nowhere : sum_by (weight (at space class first)) (p ∷ ps) ≡ 0 =
                    none_at_below first p.range.first (p ∷ ps) (omega arith, rises.1, rises.2) more in
                    absurd (omega arith)
              ]
            ]
        | inr f ↦
            let none_here : weight (at space class first) p ≡ 0 =
            elim (and_cases (is_available p.card.status) (fits p) f) [
              | inl held ↦ weight_none (at space class first) p held
              | inr full ↦ elim (cases_Bool (is_available p.card.status)) [
                | inr held ↦ weight_none (at space class first) p held
                | inl t ↦
                    weight_of (at space class first) p t
                    ∙ ap (λ b. cond b 1 0) (and_left (serves space class (key_of p)) (p.range.first == first) (key_serves p each.0.of_space rises.1 ∙ full))
              ]
            ] in
            least_rest p ps f ∙ least_is_first first (p.range.last + 1) ps rises.2 each.1 rest (omega arith)
      ]

-- ---- in a pool

-- keys that serve a space are those of its pieces
none_of_others : (space other : Space) (passes : FreeKey → Bool) → ((key : FreeKey) → passes key ≡ true → space_rank key.space ≡ space_rank space)
    → (space_rank other ≡ space_rank space → ⊥) → (ps : List Piece) → AllPiecesOf other ps → sum_by (weight passes) ps ≡ 0
none_of_others space other passes own apart [] each = refl
none_of_others space other passes own apart (p ∷ ps) each =
    let cons = sum_by-cons (weight passes) p ps in
    let rest : sum_by (weight passes) ps ≡ 0 = none_of_others space other passes own apart ps each.1 in
    let none : passes (key_of p) ≡ false = false_from_ne_true (passes (key_of p)) (λ t. apart (sym (ap space_rank each.0.of_space) ∙ own (key_of p) t)) in
    elim (cases_Bool (is_available p.card.status)) [
      | inl t ↦ let zero_here : weight passes p ≡ 0 = weight_of passes p t ∙ ap (λ b. cond b 1 0) none in omega arith
      | inr f ↦ let zero_here : weight passes p ≡ 0 = weight_none passes p f in omega arith
    ]

space_counts : (space : Space) (passes : FreeKey → Bool) → ((key : FreeKey) → passes key ≡ true → space_rank key.space ≡ space_rank space)
    → (pool : Partition) → IsPartition pool → count_by passes (keys_of_pool pool) ≡ sum_by (weight passes) (pieces_in pool space)
space_counts Asn passes own pool h =
    omega (
      arith,
      pool_counts passes pool,
      free_counts passes pool.asn,
      free_counts passes pool.ipv4,
      free_counts passes pool.ipv6,
      none_of_others Asn Ipv4 passes own (λ e. omega arith) pool.ipv4 (h.each Ipv4).each,
      none_of_others Asn Ipv6 passes own (λ e. omega arith) pool.ipv6 (h.each Ipv6).each,
    )
space_counts Ipv4 passes own pool h =
    omega (
      arith,
      pool_counts passes pool,
      free_counts passes pool.asn,
      free_counts passes pool.ipv4,
      free_counts passes pool.ipv6,
      none_of_others Ipv4 Asn passes own (λ e. omega arith) pool.asn (h.each Asn).each,
      none_of_others Ipv4 Ipv6 passes own (λ e. omega arith) pool.ipv6 (h.each Ipv6).each,
    )
space_counts Ipv6 passes own pool h =
    omega (
      arith,
      pool_counts passes pool,
      free_counts passes pool.asn,
      free_counts passes pool.ipv4,
      free_counts passes pool.ipv6,
      none_of_others Ipv6 Asn passes own (λ e. omega arith) pool.asn (h.each Asn).each,
      none_of_others Ipv6 Ipv4 passes own (λ e. omega arith) pool.ipv4 (h.each Ipv4).each,
    )

pub least_is_found : (pool : Partition) (space : Space) (size class : ℕ) (ps : Pairs) (least : Option ℕ)
    → IsIndexOf (map (λ (p : FreeKey × Unit {0}). p.0) ps) pool → IsPartition pool → IsClass space size class → IsLeastFirst (serves space class) ps least
    → least_block (pieces_in pool space) space size ≡ option_map (λ first. rounded_up first (alignment space size)) least
least_is_found pool space size class ps None indexed valid h least =
    let own : (key : FreeKey) → serves space class key ≡ true → space_rank key.space ≡ space_rank space = λ key t. (serves_is space class key t).spaces in
    let none : passing (serves space class) ps ≡ 0 = counts_none (λ (p : FreeKey × Unit {0}). serves space class p.0) ps least in
    none_where_none space size class h (pieces_in pool space) 0 (valid.each space).rises (valid.each space).each
    (sym (space_counts space (serves space class) own pool valid) ∙ (sym (indexed_passing (serves space class) ps pool indexed) ∙ none))
least_is_found pool space size class ps (Some first) indexed valid h least =
    let own_below : (key : FreeKey) → below space class first key ≡ true → space_rank key.space ≡ space_rank space =
    λ key t. (serves_is space class key (and_parts (serves space class key) (nat_lt key.first first) t).0).spaces in
    let own_at : (key : FreeKey) → at space class first key ≡ true → space_rank key.space ≡ space_rank space =
    λ key t. (serves_is space class key (and_parts (serves space class key) (key.first == first) t).0).spaces in
    let none : passing (below space class first) ps ≡ 0 =
    counts_none (λ (p : FreeKey × Unit {0}). below space class first p.0) ps
    (all_weaker (λ (p : FreeKey × Unit {0}). serves space class p.0 ≡ true → first ≤ p.0.first) (λ p. below space class first p.0 ≡ false)
    (λ p no_less. false_from_ne_true (below space class first p.0) (λ t.
    let both = and_parts (serves space class p.0) (nat_lt p.0.first first) t in
    let up : first ≤ p.0.first = no_less both.0 in
    let less : p.0.first < first = ltb-true p.0.first first both.1 in
    absurd (omega arith)))
    ps least.1) in
    let some : 0 < passing (at space class first) ps =
    counted_at (λ (p : FreeKey × Unit {0}). at space class first p.0) ps least.0.place least.0.pair least.0.stands
    (and_from (serves space class least.0.pair.0) (least.0.pair.0.first == first) least.0.passed (eq-eqb least.0.pair.0.first first least.0.begins)) in
    least_is_first space size class h first 0 (pieces_in pool space) (valid.each space).rises (valid.each space).each
    (sym (space_counts space (below space class first) own_below pool valid) ∙ (sym (indexed_passing (below space class first) ps pool indexed) ∙ none))
    (let count = space_counts space (at space class first) own_at pool valid in
    let same = indexed_passing (at space class first) ps pool indexed in
    omega arith)

-- ---- classes are small

classes_within : (ps : List Piece) → sum_by (weight (λ key. nat_lt 1024 key.class)) ps ≡ 0
classes_within [] = refl
classes_within (p ∷ ps) =
    let cons = sum_by-cons (weight (λ key. nat_lt 1024 key.class)) p ps in
    let rest : sum_by (weight (λ key. nat_lt 1024 key.class)) ps ≡ 0 = classes_within ps in
    let small : nat_lt 1024 (block_class p.range.space p.range) ≡ false = le-ltb 1024 (block_class p.range.space p.range) (class_within p.range.space p.range) in
    elim (cases_Bool (is_available p.card.status)) [
      | inl t ↦ let none : weight (λ key. nat_lt 1024 key.class) p ≡ 0 = weight_of (λ key. nat_lt 1024 key.class) p t ∙ ap (λ b. cond b 1 0) small in omega arith
      | inr f ↦ let none : weight (λ key. nat_lt 1024 key.class) p ≡ 0 = weight_none (λ key. nat_lt 1024 key.class) p f in omega arith
    ]

pub classes_are_small : (pool : Partition) (ps : Pairs) → IsIndexOf (map (λ (p : FreeKey × Unit {0}). p.0) ps) pool → AllByRecursion (λ p. p.0.class ≤ 1024) ps
classes_are_small pool ps indexed =
    let large : FreeKey → Bool = λ key. nat_lt 1024 key.class in
    let same = indexed_passing large ps pool indexed in
    let none : passing large ps ≡ 0 =
    omega (
      arith,
      pool_counts large pool,
      free_counts large pool.asn,
      free_counts large pool.ipv4,
      free_counts large pool.ipv6,
      classes_within pool.asn,
      classes_within pool.ipv4,
      classes_within pool.ipv6,
    ) in
    all_weaker (λ (p : FreeKey × Unit {0}). nat_lt 1024 p.0.class ≡ false) (λ p. p.0.class ≤ 1024) (λ p f. ltb-false 1024 p.0.class f) ps
    (none_counted (λ (p : FreeKey × Unit {0}). nat_lt 1024 p.0.class) ps none)

-- ---- the block that is found

pub sizes_are_positive : (space : Space) (size : ℕ) → IsBlockSize space size → 0 < size
sizes_are_positive Asn size h = omega (arith, h.0)
sizes_are_positive Ipv4 size h = omega (arith, h.2, pow_pos h.0)
sizes_are_positive Ipv6 size h = omega (arith, h.2, pow_pos h.0)

-- it lies within its space
pub found_within : (space : Space) (size : ℕ) (ps : List Piece) (start : ℕ) → 0 < size → ArePieces space ps
    → least_block ps space size ≡ Some start → start + (size - 1) ≤ top_of space
found_within space size ps start pos pieces e =
    let least : IsLeastBlock ps space size (Some start) = subst (IsLeastBlock ps space size) e (least_block_is_least space ps size pieces pos) in
    least.0.within

pub top_counted : (space : Space) → top_of space < 2 ^ 128
top_counted Asn = omega arith
top_counted Ipv4 = omega arith
top_counted Ipv6 = omega arith
