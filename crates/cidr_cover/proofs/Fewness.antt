-- How many reverse cuts a range has at most: so many for each block of its least cover.
use Rattle.std.proofs.Common.{◌≡◌, ℕ, zero, suc, ◌+◌, ◌-◌, ◌*◌, ◌^◌, ◌≤◌, Bool, true, cond, ◌&&◌, nat_le, inl, inr, length, sym, ◌∙◌, ap, subst, refl, arith}
use Rattle.std.proofs.lemmas.Bool.{cases_Bool, and_parts, and_from, and_left, and_right, cond-true, cond-false, leb-true}
use Rattle.std.proofs.lemmas.List.{length-append}
use Rattle.num_range.specs.declared.space.Space.{Space}
use Rattle.num_range.specs.declared.space.Space.TheVariants.{Asn, Ipv4, Ipv6}
use Rattle.num_range.specs.Space.{width_of}
use Rattle.num_range.specs.Range.{PlainRange}
use Rattle.num_range.specs.Block.{block_size}
use Rattle.num_range.specs.Cover.{blocks_inside, least_cover, is_cut_length, longest_cut, reverse_cuts}
use Rattle.cidr_cover.proofs.Sizes.{size_pos, size_halves}
use Rattle.cidr_cover.proofs.Halving.{is_inside, inside_from, inside_parts, IsPlace, place-first, place-second, blocks-whole, blocks-end, blocks-halves}
use Rattle.cidr_cover.proofs.Greedy.{place-whole}
use Rattle.cidr_cover.proofs.Covering.{each}
use Rattle.cidr_cover.proofs.Cutting.{longest_cut_within}
use Rattle.cidr_cover.proofs.Totals.{least_cover-few}

-- how many blocks of asked lengths are in a block that lies inside the range
abbrev most_in : (ℕ → Bool) → ℕ → ℕ → ℕ
most_in asked zero len = 1
most_in asked (suc left) len = cond (asked len) 1 (2 * most_in asked left (len + 1))

-- in none of this length or a greater one more than so many
abbrev all_within : (ℕ → Bool) → ℕ → ℕ → ℕ → Bool
all_within asked zero len most = nat_le 1 most
all_within asked (suc left) len most = nat_le (most_in asked (suc left) len) most && all_within asked left (len + 1) most

blocks-in : (asked : ℕ → Bool) (r : PlainRange) (deepest left len start : ℕ) → IsPlace r.space deepest left len start
    → is_inside r len start ≡ true → length (blocks_inside asked r left len start) ≤ most_in asked left len
blocks-in asked r deepest zero len start place inside =
    elim (cases_Bool (asked len)) [
      | inl t ↦
          subst (λ bs. length bs ≤ 1) (sym (blocks-whole asked r zero len start (and_from (asked len) (is_inside r len start) t inside))) (omega arith)
      | inr f ↦ subst (λ bs. length bs ≤ 1) (sym (blocks-end asked r len start (and_left (asked len) (is_inside r len start) f))) (omega arith)
    ]
blocks-in asked r deepest (suc left) len start place inside =
    let middle : ℕ = start + block_size r.space (len + 1) in
    let halves = size_halves r.space len (omega arith) in
    let pos = size_pos r.space (len + 1) in
    let parts = inside_parts r len start inside in
    let first = blocks-in asked r deepest left (len + 1) start (place-first r.space deepest left len start place)
    (inside_from r (len + 1) start parts.0 (let l = parts.1 in omega arith)) in
    let second = blocks-in asked r deepest left (len + 1) middle (place-second r.space deepest left len start place)
    (inside_from r (len + 1) middle (let l = parts.0 in omega arith) (let l = parts.1 in omega arith)) in
    let lengths = length-append (blocks_inside asked r left (len + 1) start) (blocks_inside asked r left (len + 1) middle) in
    elim (cases_Bool (asked len)) [
      | inl t ↦
          subst (λ n. length (blocks_inside asked r (suc left) len start) ≤ n) (sym (cond-true (asked len) 1 (2 * most_in asked left (len + 1)) t))
          (subst (λ bs. length bs ≤ 1) (sym (blocks-whole asked r (suc left) len start (and_from (asked len) (is_inside r len start) t inside))) (omega arith))
      | inr f ↦
          subst (λ n. length (blocks_inside asked r (suc left) len start) ≤ n) (sym (cond-false (asked len) 1 (2 * most_in asked left (len + 1)) f))
          (subst (λ bs. length bs ≤ 2 * most_in asked left (len + 1))
          (sym (blocks-halves asked r deepest left len start place (and_left (asked len) (is_inside r len start) f))) (omega arith))
    ]

shares : (m a b c d x y : ℕ) → x ≡ a + b → y ≡ c + d → a ≤ m * c → b ≤ m * d → x ≤ m * y
shares m a b c d x y e f h k = let g : m * (c + d) ≡ m * c + m * d = omega arith in subst (λ n. x ≤ m * n) (sym f) (omega arith)

-- so many blocks of asked lengths for each block of any length
blocks-share : (asked : ℕ → Bool) (r : PlainRange) (deepest left more len start most : ℕ) → IsPlace r.space deepest left len start
    → IsPlace r.space (width_of r.space) (left + more) len start → all_within asked left len most ≡ true
    → length (blocks_inside asked r left len start) ≤ most * length (blocks_inside each r (left + more) len start)
blocks-share asked r deepest zero more len start most place all within =
    elim (cases_Bool (is_inside r len start)) [
      | inl inside ↦
          let few : length (blocks_inside asked r zero len start) ≤ 1 = blocks-in asked r deepest zero len start place inside in
          let one : length (blocks_inside each r (zero + more) len start) ≡ 1 = ap length (blocks-whole each r (zero + more) len start inside) in
          let least : 1 ≤ most = leb-true 1 most within in
          subst (λ n. length (blocks_inside asked r zero len start) ≤ most * n) (sym one) (omega arith)
      | inr outside ↦
          subst (λ bs. length bs ≤ most * length (blocks_inside each r (zero + more) len start))
          (sym (blocks-end asked r len start (and_right (asked len) (is_inside r len start) outside))) (omega arith)
    ]
blocks-share asked r deepest (suc left) more len start most place all within =
    let bounds = and_parts (nat_le (most_in asked (suc left) len) most) (all_within asked left (len + 1) most) within in
    let levels : suc left + more ≡ suc (left + more) = omega arith in
    let every : IsPlace r.space (width_of r.space) (suc (left + more)) len start = subst (λ n. IsPlace r.space (width_of r.space) n len start) levels all in
    subst (λ n. length (blocks_inside asked r (suc left) len start) ≤ most * length (blocks_inside each r n len start)) (sym levels)
    (elim (cases_Bool (is_inside r len start)) [
      | inl inside ↦
          let few = blocks-in asked r deepest (suc left) len start place inside in
          let within_most = leb-true (most_in asked (suc left) len) most bounds.0 in
          let one : length (blocks_inside each r (suc (left + more)) len start) ≡ 1 = ap length (blocks-whole each r (suc (left + more)) len start inside) in
          subst (λ n. length (blocks_inside asked r (suc left) len start) ≤ most * n) (sym one) (omega arith)
      | inr outside ↦
          let middle : ℕ = start + block_size r.space (len + 1) in
          let a = blocks_inside asked r left (len + 1) start in
          let b = blocks_inside asked r left (len + 1) middle in
          let c = blocks_inside each r (left + more) (len + 1) start in
          let d = blocks_inside each r (left + more) (len + 1) middle in
          shares most (length a) (length b) (length c) (length d) (length (blocks_inside asked r (suc left) len start))
          (length (blocks_inside each r (suc (left + more)) len start))
          (ap length (blocks-halves asked r deepest left len start place (and_right (asked len) (is_inside r len start) outside)) ∙ length-append a b)
          (ap length (blocks-halves each r (width_of r.space) (left + more) len start every outside) ∙ length-append c d)
          (blocks-share asked r deepest left more (len + 1) start most (place-first r.space deepest left len start place)
          (place-first r.space (width_of r.space) (left + more) len start every) bounds.1)
          (blocks-share asked r deepest left more (len + 1) middle most (place-second r.space deepest left len start place)
          (place-second r.space (width_of r.space) (left + more) len start every) bounds.1)
    ])

cuts_within : (space : Space) → all_within (is_cut_length space) (longest_cut space) 0 65536 ≡ true
cuts_within Asn = refl
cuts_within Ipv4 = refl
cuts_within Ipv6 = refl

widest : (space : Space) → width_of space ≤ 128
widest Asn = omega arith
widest Ipv4 = omega arith
widest Ipv6 = omega arith

pub reverse_cuts-few : (r : PlainRange) → length (reverse_cuts r) ≤ 2 ^ 24
unfolding reverse_cuts least_cover
reverse_cuts-few r =
    let deepest : ℕ = longest_cut r.space in
    let width : ℕ = width_of r.space in
    let within : deepest ≤ width = longest_cut_within r.space in
    let more : (n : ℕ) × (deepest + n ≡ width) = (width - deepest, omega arith) in
    let all : IsPlace r.space width (deepest + more.0) 0 0 = subst (λ n. IsPlace r.space width n 0 0) (sym more.1) (place-whole r.space width (omega arith)) in
    let share : length (reverse_cuts r) ≤ 65536 * length (blocks_inside each r (deepest + more.0) 0 0) =
    blocks-share (is_cut_length r.space) r deepest deepest more.0 0 0 65536 (place-whole r.space deepest within) all (cuts_within r.space) in
    let cover : length (reverse_cuts r) ≤ 65536 * length (least_cover r) =
    subst (λ n. length (reverse_cuts r) ≤ 65536 * length (blocks_inside each r n 0 0)) more.1 share in
    let few : length (least_cover r) ≤ 2 * width = least_cover-few r in
    let most : width ≤ 128 = widest r.space in
    omega arith
