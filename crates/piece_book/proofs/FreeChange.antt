-- Keys that come and go, and the index that they leave.
use Rattle.std.proofs.Common.{◌≡◌, ℕ, ◌+◌, ◌<◌, ◌≤◌, Bool, true, false, cond, List, [], ◌∷◌, ◌++◌, length, get_or, take, map, filter, refl, sym, ◌∙◌, ap, inl, inr, arith}
use Rattle.std.specs.declared.cmp.Ordering.{Ordering}
use Rattle.std.specs.declared.cmp.Ordering.TheVariants.{Less, Equal, Greater}
use Rattle.std.specs.Ordering.{is_eq, is_lt, ordering_then, nat_cmp}
use Rattle.std.specs.Cmp.{IsTotalOrder}
use Rattle.std.specs.List.{count_by, sum_by}
use Rattle.std.proofs.lemmas.Bool.{cases_Bool}
use Rattle.std.proofs.lemmas.Cmp.{nat_cmp_total, on_total, then_total, ranked, tied_itself}
use Rattle.std.proofs.lemmas.List.Sums.{sum_by-cons, sum_by-append, sum_by_more, sum_by_more_le, prefix_len-le-length}
use Rattle.num_range.specs.declared.space.Space.{Space}
use Rattle.num_range.specs.declared.space.Space.TheVariants.{Asn, Ipv4, Ipv6}
use Rattle.num_range.specs.Space.{space_rank}
use Rattle.reg_entry.specs.declared.piece.Piece.{Piece}
use Rattle.reg_entry.specs.Card.{is_available}
use Rattle.page_dir.specs.Sorted.{Rises, rank}
use Rattle.page_dir.specs.Splices.{spliced}
use Rattle.piece_book.specs.declared.free.key.FreeKey.{FreeKey}
use Rattle.piece_book.specs.Free.{key_cmp, key_of, is_key, free_keys, passing}
use Rattle.piece_book.proofs.FreePairs.{counts-cons, none_counted, count_all, counts_without, StandsAt, stands_at_rank, rises_inserted}

-- ---- the order of keys

pub key_order : IsTotalOrder key_cmp
key_order =
    then_total (on_total (λ (k : FreeKey). space_rank k.space) nat_cmp_total)
    (then_total (on_total (λ (k : FreeKey). k.class) nat_cmp_total) (on_total (λ (k : FreeKey). k.first) nat_cmp_total))

both_equal : (r s : Ordering) → ordering_then r s ≡ Equal → (r ≡ Equal) × (s ≡ Equal)
both_equal Less s e = absurd (cc)
both_equal Equal s e = (refl, e)
both_equal Greater s e = absurd (cc)

numbers_equal : (x y : ℕ) → nat_cmp x y ≡ Equal → x ≡ y
numbers_equal x y e = ranked x y Equal (sym e)

pub same_rank : (a b : Space) → space_rank a ≡ space_rank b → a ≡ b
same_rank Asn Asn e = refl
same_rank Asn Ipv4 e = absurd (omega arith)
same_rank Asn Ipv6 e = absurd (omega arith)
same_rank Ipv4 Asn e = absurd (omega arith)
same_rank Ipv4 Ipv4 e = refl
same_rank Ipv4 Ipv6 e = absurd (omega arith)
same_rank Ipv6 Asn e = absurd (omega arith)
same_rank Ipv6 Ipv4 e = absurd (omega arith)
same_rank Ipv6 Ipv6 e = refl

pub same_key : (a b : FreeKey) → key_cmp a b ≡ Equal → a ≡ b
same_key a b e =
    let outer = both_equal (nat_cmp (space_rank a.space) (space_rank b.space)) (ordering_then (nat_cmp a.class b.class) (nat_cmp a.first b.first)) e in
    let inner = both_equal (nat_cmp a.class b.class) (nat_cmp a.first b.first) outer.1 in
    let spaces : a.space ≡ b.space = same_rank a.space b.space (numbers_equal (space_rank a.space) (space_rank b.space) outer.0) in
    let classes : a.class ≡ b.class = numbers_equal a.class b.class inner.0 in
    let firsts : a.first ≡ b.first = numbers_equal a.first b.first inner.1 in
    let from : Space → ℕ → ℕ → FreeKey = λ s c f. record { space = s; class = c; first = f } in
    ap (λ s. from s a.class a.first) spaces ∙ ap (λ c. from b.space c a.first) classes ∙ ap (λ f. from b.space b.class f) firsts

pub is_key_itself : (key : FreeKey) → is_key key key ≡ true
is_key_itself key = ap is_eq (tied_itself key_order key)

-- ---- one key comes, or goes

abbrev Pairs : Type 0
Pairs = List (FreeKey × Unit {0})

pub place_within : (key : FreeKey) (ps : Pairs) → rank key_cmp key ps + 0 ≤ length ps
place_within key ps = let within = prefix_len-le-length (λ (p : FreeKey × Unit {0}). is_lt (key_cmp p.0 key)) ps in omega arith

pub rises_with : (key : FreeKey) (ps : Pairs) → Rises key_cmp ps → passing (is_key key) ps ≡ 0 → Rises key_cmp (spliced (rank key_cmp key ps) 0 ((key, tt) ∷ []) ps)
rises_with key ps rises new = rises_inserted key_order key tt ps rises (none_counted (λ (p : FreeKey × Unit {0}). is_key key p.0) ps new)

pub stands : (key : FreeKey) (ps : Pairs) → Rises key_cmp ps → 0 < passing (is_key key) ps → StandsAt key_order key ps (rank key_cmp key ps)
stands key ps rises there = stands_at_rank key_order key ps rises there

pub passing_without : (key : FreeKey) (ps : Pairs) → Rises key_cmp ps → 0 < passing (is_key key) ps → (passes : FreeKey → Bool)
    → passing passes (spliced (rank key_cmp key ps) 1 [] ps) + cond (passes key) 1 0 ≡ passing passes ps
passing_without key ps rises there passes =
    let at : ℕ = rank key_cmp key ps in
    let here = stands key ps rises there in
    let d : FreeKey × Unit {0} = (key, tt) in
    let same : (get_or ps at d).0 ≡ key = same_key (get_or ps at d).0 key (here.is d) in
    let one : ◌≡◌ {A = ℕ} (cond (passes (get_or ps at d).0) 1 0) (cond (passes key) 1 0) = ap (λ k. cond (passes k) 1 0) same in
    let counts = counts_without (λ (p : FreeKey × Unit {0}). passes p.0) at ps d here.within in
    omega arith

-- ---- the keys of pieces

-- whether the piece's key is there and passes, as a count
pub weight : (FreeKey → Bool) → Piece → ℕ
weight passes p = cond (is_available p.card.status) (cond (passes (key_of p)) 1 0) 0

pub weight_of : (passes : FreeKey → Bool) (p : Piece) → is_available p.card.status ≡ true → weight passes p ≡ cond (passes (key_of p)) 1 0
unfolding weight
weight_of passes p e = ap (λ b. cond b (cond (passes (key_of p)) 1 0) 0) e

pub weight_none : (passes : FreeKey → Bool) (p : Piece) → is_available p.card.status ≡ false → weight passes p ≡ 0
unfolding weight
weight_none passes p e = ap (λ b. cond b (cond (passes (key_of p)) 1 0) 0) e

pub free_counts : (passes : FreeKey → Bool) (ps : List Piece) → count_by passes (free_keys ps) ≡ sum_by (weight passes) ps
free_counts passes [] = refl
free_counts passes (p ∷ ps) =
    let rest = free_counts passes ps in
    let sum = sum_by-cons (weight passes) p ps in
    elim (cases_Bool (is_available p.card.status)) [
      | inl t ↦
          let keys : free_keys (p ∷ ps) ≡ key_of p ∷ free_keys ps = ap (λ b. map key_of (cond b (p ∷ filter (λ (q : Piece). is_available q.card.status) ps) (filter (λ (q : Piece). is_available q.card.status) ps))) t in
          let is : count_by passes (free_keys (p ∷ ps)) ≡ count_by passes (key_of p ∷ free_keys ps) = ap (count_by passes) keys in
          omega (arith, weight_of passes p t, counts-cons passes (key_of p) (free_keys ps))
      | inr f ↦
          let keys : free_keys (p ∷ ps) ≡ free_keys ps = ap (λ b. map key_of (cond b (p ∷ filter (λ (q : Piece). is_available q.card.status) ps) (filter (λ (q : Piece). is_available q.card.status) ps))) f in
          let is : count_by passes (free_keys (p ∷ ps)) ≡ count_by passes (free_keys ps) = ap (count_by passes) keys in
          omega (arith, weight_none passes p f)
    ]

pub free_counts-append : (passes : FreeKey → Bool) (xs ys : List Piece) → count_by passes (free_keys (xs ++ ys)) ≡ count_by passes (free_keys xs) + count_by passes (free_keys ys)
free_counts-append passes xs ys = omega (arith, free_counts passes (xs ++ ys), free_counts passes xs, free_counts passes ys, sum_by-append (weight passes) xs ys)

pub free_counts_more : (passes : FreeKey → Bool) (ps : List Piece) (i : ℕ) (d : Piece) → i < length ps
    → count_by passes (free_keys (take (i + 1) ps)) ≡ count_by passes (free_keys (take i ps)) + weight passes (get_or ps i d)
free_counts_more passes ps i d h = omega (arith, free_counts passes (take (i + 1) ps), free_counts passes (take i ps), sum_by_more (weight passes) ps i d h)

pub free_counts_more_le : (passes : FreeKey → Bool) (ps : List Piece) (i : ℕ) (d : Piece) → i < length ps
    → count_by passes (free_keys (take i ps)) + weight passes (get_or ps i d) ≤ count_by passes (free_keys ps)
free_counts_more_le passes ps i d h = omega (arith, free_counts passes ps, free_counts passes (take i ps), sum_by_more_le (weight passes) ps i d h)

-- an available piece is counted with those before it
pub counted_with : (passes : FreeKey → Bool) (ps : List Piece) (i : ℕ) (p : Piece) → i < length ps → p ≡ get_or ps i p → is_available p.card.status ≡ true
    → passes (key_of p) ≡ true → count_by passes (free_keys (take i ps)) + 1 ≤ count_by passes (free_keys ps)
counted_with passes ps i p h here e t =
    let one : weight passes (get_or ps i p) ≡ 1 = ap (weight passes) (sym here) ∙ weight_of passes p e ∙ ap (λ b. cond b 1 0) t in
    omega (arith, free_counts_more_le passes ps i p h)

pub keys_counted : (ps : Pairs) → passing (λ _. true) ps ≡ length ps
keys_counted ps = count_all ps
