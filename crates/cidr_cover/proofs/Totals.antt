-- How many numbers the blocks of a least cover have together, and how many blocks they are.
use Rattle.std.proofs.Common.{◌≡◌, ℕ, zero, suc, ◌+◌, ◌-◌, ◌*◌, ◌^◌, ◌<◌, ◌≤◌, min, max, true, length, ◌⊎◌, inl, inr, sym, ◌∙◌, ap, subst, arith}
use Rattle.std.specs.List.{sum_by}
use Rattle.std.proofs.lemmas.List.{length-append}
use Rattle.std.proofs.lemmas.List.Sums.{sum_by-append}
use Rattle.std.proofs.lemmas.Bool.{cases_Bool, cases_lt, both_ways}
use Rattle.num_range.specs.declared.space.Space.{Space}
use Rattle.num_range.specs.declared.space.Space.TheVariants.{Asn, Ipv4, Ipv6}
use Rattle.num_range.specs.Space.{width_of}
use Rattle.num_range.specs.Range.{PlainRange, IsRange, size_of}
use Rattle.num_range.specs.Block.{block_size}
use Rattle.num_range.specs.Cover.{blocks_inside, least_cover}
use Rattle.num_range.proofs.BlockEnds.{top-below}
use Rattle.cidr_cover.proofs.Sizes.{size_pos, size_halves, size_of_whole}
use Rattle.cidr_cover.proofs.Halving.{is_inside, inside_from, inside_parts, IsPlace, place-first, place-second, blocks-whole, blocks-end, blocks-beside, blocks-halves}
use Rattle.cidr_cover.proofs.Greedy.{place-whole}
use Rattle.cidr_cover.proofs.Covering.{each}

-- ---- the numbers of the blocks are as many as the range has in the block that is looked at

shared : PlainRange → ℕ → ℕ → ℕ
shared r start end = min (r.last + 1) end - max r.first start

sum-whole : (r : PlainRange) (left len start : ℕ) → is_inside r len start ≡ true
    → sum_by size_of (blocks_inside each r left len start) ≡ shared r start (start + block_size r.space len)
unfolding shared
sum-whole r left len start inside =
    let pos = size_pos r.space len in
    let parts = inside_parts r len start inside in
    ap (sum_by size_of) (blocks-whole each r left len start inside) ∙ (omega arith)

blocks-sum : (r : PlainRange) (left len start : ℕ) → IsRange r → IsPlace r.space (width_of r.space) left len start
    → sum_by size_of (blocks_inside each r left len start) ≡ shared r start (start + block_size r.space len)
unfolding shared
blocks-sum r zero len start range place =
    elim (cases_Bool (is_inside r len start)) [
      | inl inside ↦ sum-whole r zero len start inside
      | inr outside ↦
          let one : block_size r.space len ≡ 1 = ap (λ k. 2 ^ k) (let none : width_of r.space - len ≡ 0 = omega arith in none) in
          let apart : (start < r.first) ⊎ (r.last < start) =
          elim (cases_lt start r.first) [
            | inl below ↦ inl below
            | inr low ↦ elim (cases_lt r.last start) [
              | inl above ↦ inr above
              | inr high ↦ absurd (both_ways (is_inside r len start) outside (inside_from r len start low (omega arith)))
            ]
          ] in
          let nothing : 0 ≡ shared r start (start + block_size r.space len) = elim apart [ inl below ↦ omega arith | inr above ↦ omega arith ] in
          ap (sum_by size_of) (blocks-end each r len start outside) ∙ nothing
    ]
blocks-sum r (suc left) len start range place =
    elim (cases_Bool (is_inside r len start)) [
      | inl inside ↦ sum-whole r (suc left) len start inside
      | inr outside ↦
          let deepest : ℕ = width_of r.space in
          let halves = size_halves r.space len (omega arith) in
          let pos = size_pos r.space (len + 1) in
          let middle : ℕ = start + block_size r.space (len + 1) in
          let first = blocks_inside each r left (len + 1) start in
          let second = blocks_inside each r left (len + 1) middle in
          let sum_first : sum_by size_of first ≡ shared r start (start + block_size r.space (len + 1)) =
          blocks-sum r left (len + 1) start range (place-first r.space deepest left len start place) in
          let sum_second : sum_by size_of second ≡ shared r middle (middle + block_size r.space (len + 1)) =
          blocks-sum r left (len + 1) middle range (place-second r.space deepest left len start place) in
          ap (sum_by size_of) (blocks-halves each r deepest left len start place outside)
          ∙ sum_by-append size_of first second
          ∙ ap (λ n. n + sum_by size_of second) sum_first
          ∙ ap (λ n. shared r start (start + block_size r.space (len + 1)) + n) sum_second
          ∙ omega arith
    ]

pub least_cover-size : (r : PlainRange) → IsRange r → sum_by size_of (least_cover r) ≡ size_of r
unfolding least_cover shared
least_cover-size r range =
    let deepest : ℕ = width_of r.space in
    let whole = size_of_whole r.space in
    let top = top-below r.space in
    blocks-sum r deepest 0 0 range (place-whole r.space deepest (omega arith)) ∙ omega arith

-- ---- at most two of each length

-- one of each length, where the range goes on past an end of the block that is looked at
few-ends : (r : PlainRange) (left len start : ℕ) → IsPlace r.space (width_of r.space) left len start
    → (r.first ≤ start) ⊎ (start + block_size r.space len ≤ r.last + 1) → length (blocks_inside each r left len start) ≤ left + 1
few-ends r zero len start place goes_on =
    elim (cases_Bool (is_inside r len start)) [
      | inl inside ↦ subst (λ bs. length bs ≤ 0 + 1) (sym (blocks-whole each r zero len start inside)) (omega arith)
      | inr outside ↦ subst (λ bs. length bs ≤ 0 + 1) (sym (blocks-end each r len start outside)) (omega arith)
    ]
few-ends r (suc left) len start place goes_on =
    elim (cases_Bool (is_inside r len start)) [
      | inl inside ↦ subst (λ bs. length bs ≤ suc left + 1) (sym (blocks-whole each r (suc left) len start inside)) (omega arith)
      | inr outside ↦
          let deepest : ℕ = width_of r.space in
          let halves = size_halves r.space len (omega arith) in
          let pos = size_pos r.space (len + 1) in
          let middle : ℕ = start + block_size r.space (len + 1) in
          let first = blocks_inside each r left (len + 1) start in
          let second = blocks_inside each r left (len + 1) middle in
          let first_place = place-first r.space deepest left len start place in
          let second_place = place-second r.space deepest left len start place in
          let lengths = length-append first second in
          subst (λ bs. length bs ≤ suc left + 1) (sym (blocks-halves each r deepest left len start place outside))
          (elim goes_on [
            | inl low ↦
                elim (cases_lt r.last middle) [
                  | inl below ↦
                      let none = ap length (blocks-beside each r deepest left (len + 1) middle second_place (inl below)) in
                      let few = few-ends r left (len + 1) start first_place (inl low) in
                      omega arith
                  | inr above ↦
                      let one = ap length (blocks-whole each r left (len + 1) start (inside_from r (len + 1) start low (omega arith))) in
                      let few = few-ends r left (len + 1) middle second_place (inl (omega arith)) in
                      omega arith
                ]
            | inr high ↦
                elim (cases_lt r.first middle) [
                  | inl below ↦
                      let one = ap length (blocks-whole each r left (len + 1) middle (inside_from r (len + 1) middle (omega arith) (omega arith))) in
                      let few = few-ends r left (len + 1) start first_place (inr (omega arith)) in
                      omega arith
                  | inr above ↦
                      let none = ap length (blocks-beside each r deepest left (len + 1) start first_place (inr above)) in
                      let few = few-ends r left (len + 1) middle second_place (inr (omega arith)) in
                      omega arith
                ]
          ])
    ]

few : (r : PlainRange) (left len start : ℕ) → IsPlace r.space (width_of r.space) left len start
    → length (blocks_inside each r left len start) ≤ max 1 (2 * left)
few r zero len start place =
    elim (cases_Bool (is_inside r len start)) [
      | inl inside ↦ subst (λ bs. length bs ≤ max 1 (2 * 0)) (sym (blocks-whole each r zero len start inside)) (omega arith)
      | inr outside ↦ subst (λ bs. length bs ≤ max 1 (2 * 0)) (sym (blocks-end each r len start outside)) (omega arith)
    ]
few r (suc left) len start place =
    elim (cases_Bool (is_inside r len start)) [
      | inl inside ↦ subst (λ bs. length bs ≤ max 1 (2 * suc left)) (sym (blocks-whole each r (suc left) len start inside)) (omega arith)
      | inr outside ↦
          let deepest : ℕ = width_of r.space in
          let halves = size_halves r.space len (omega arith) in
          let pos = size_pos r.space (len + 1) in
          let middle : ℕ = start + block_size r.space (len + 1) in
          let first = blocks_inside each r left (len + 1) start in
          let second = blocks_inside each r left (len + 1) middle in
          let first_place = place-first r.space deepest left len start place in
          let second_place = place-second r.space deepest left len start place in
          let lengths = length-append first second in
          subst (λ bs. length bs ≤ max 1 (2 * suc left)) (sym (blocks-halves each r deepest left len start place outside))
          (elim (cases_lt r.last middle) [
            | inl below ↦
                let none = ap length (blocks-beside each r deepest left (len + 1) middle second_place (inl below)) in
                let rest = few r left (len + 1) start first_place in
                omega arith
            | inr above ↦
                elim (cases_lt r.first middle) [
                  | inl low ↦
                      let few_first = few-ends r left (len + 1) start first_place (inr (omega arith)) in
                      let few_second = few-ends r left (len + 1) middle second_place (inl (omega arith)) in
                      omega arith
                  | inr high ↦
                      let none = ap length (blocks-beside each r deepest left (len + 1) start first_place (inr high)) in
                      let rest = few r left (len + 1) middle second_place in
                      omega arith
                ]
          ])
    ]

width_pos : (space : Space) → 1 ≤ width_of space
width_pos Asn = omega arith
width_pos Ipv4 = omega arith
width_pos Ipv6 = omega arith

pub least_cover-few : (r : PlainRange) → length (least_cover r) ≤ 2 * width_of r.space
unfolding least_cover
least_cover-few r =
    let deepest : ℕ = width_of r.space in
    let pos = width_pos r.space in
    let most = few r deepest 0 0 (place-whole r.space deepest (omega arith)) in
    omega arith
