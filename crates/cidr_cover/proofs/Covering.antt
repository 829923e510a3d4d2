-- The least cover of a range holds the range's numbers and no others, and rises.
use Rattle.std.proofs.Common.{◌≡◌, ℕ, zero, suc, ◌+◌, ◌-◌, ◌^◌, ◌<◌, ◌≤◌, Bool, true, ◌&&◌, List, [], ◌∷◌, ◌++◌, ◌⊎◌, inl, inr, length, slice_index_or, refl, sym, ◌∙◌, ap, subst, arith}
use Rattle.std.specs.List.{AllByRecursion, Any}
use Rattle.std.proofs.lemmas.List.Elements.{All-from_recursion}
use Rattle.std.proofs.lemmas.Bool.{cases_Bool, cases_lt}
use Rattle.num_range.specs.declared.space.Space.{Space}
use Rattle.num_range.specs.Space.{width_of}
use Rattle.num_range.specs.Number.{PlainNumber}
use Rattle.num_range.specs.Range.{PlainRange, IsRange, Holds, IsInside}
use Rattle.num_range.specs.Block.{block_size, IsBlockStart}
use Rattle.num_range.specs.Cover.{blocks_inside, least_cover}
use Rattle.num_range.proofs.BlockEnds.{top-below}
use Rattle.cidr_cover.specs.Blocks.{IsBlock, IsCoverOf, IsRising}
use Rattle.cidr_cover.proofs.Sizes.{size_pos, size_halves, size_of_whole}
use Rattle.cidr_cover.proofs.Halving.{is_inside, inside_from, inside_parts, IsPlace, place-first, place-second, IsWithin, blocks-whole, blocks-end, blocks-halves, not-held-whole, blocks-all}
use Rattle.cidr_cover.proofs.Greedy.{place-whole}

abbrev pub each : ℕ → Bool
each len = true

-- ---- the numbers

-- one of the ranges holds the number
abbrev pub SomeHolds : List PlainRange → PlainNumber → Type 0
SomeHolds [] n = ⊥
SomeHolds (b ∷ bs) n = Holds b n ⊎ SomeHolds bs n

some-at : (bs : List PlainRange) (n : PlainNumber) (k : ℕ) (b : PlainRange) → k < length bs → slice_index_or bs k b ≡ b → Holds b n → SomeHolds bs n
some-at [] n k b h is holds = absurd (omega arith)
some-at (c ∷ cs) n zero b h is holds = inl (subst (λ d. Holds d n) (sym is) holds)
some-at (c ∷ cs) n (suc k) b h is holds = inr (some-at cs n k b (omega arith) is holds)

pub some-from_any : (bs : List PlainRange) (n : PlainNumber) → Any (λ b. Holds b n) bs → SomeHolds bs n
some-from_any bs n any = some-at bs n any.0 any.1 any.2 any.3 any.4

pub any-from_some : (bs : List PlainRange) (n : PlainNumber) → SomeHolds bs n → Any (λ b. Holds b n) bs
any-from_some [] n h = absurd h
any-from_some (b ∷ bs) n h =
    elim h [
      | inl here ↦ (0, b, omega arith, refl, here)
      | inr there ↦ let any = any-from_some bs n there in (suc any.0, any.1, omega arith, any.3, any.4)
    ]

holds_left : (bs cs : List PlainRange) (n : PlainNumber) → SomeHolds bs n → SomeHolds (bs ++ cs) n
holds_left [] cs n h = absurd h
holds_left (b ∷ bs) cs n h = elim h [ inl here ↦ inl here | inr there ↦ inr (holds_left bs cs n there) ]

holds_right : (bs cs : List PlainRange) (n : PlainNumber) → SomeHolds cs n → SomeHolds (bs ++ cs) n
holds_right [] cs n h = h
holds_right (b ∷ bs) cs n h = inr (holds_right bs cs n h)

-- a number that one of some ranges inside r holds is one of r's
held_inside : (r : PlainRange) (bs : List PlainRange) (n : PlainNumber) → AllByRecursion (λ b. IsInside b r) bs → SomeHolds bs n → Holds r n
held_inside r [] n inside h = absurd h
held_inside r (b ∷ bs) n inside h =
    elim h [
      | inl here ↦ (sym inside.0.0 ∙ here.0, omega arith, omega arith)
      | inr there ↦ held_inside r bs n inside.1 there
    ]

-- each number of the range in the block that is looked at is held
blocks-hold : (r : PlainRange) (left len start : ℕ) (n : PlainNumber) → IsPlace r.space (width_of r.space) left len start → Holds r n
    → start ≤ n.value → n.value < start + block_size r.space len → SomeHolds (blocks_inside each r left len start) n
blocks-hold r zero len start n place holds low high =
    let one : block_size r.space len ≡ 1 = ap (λ k. 2 ^ k) (let none : width_of r.space - len ≡ 0 = omega arith in none) in
    let inside = inside_from r len start (omega arith) (omega arith) in
    subst (λ bs. SomeHolds bs n) (sym (blocks-whole each r zero len start inside)) (inl (holds.0, low, omega arith))
blocks-hold r (suc left) len start n place holds low high =
    elim (cases_Bool (is_inside r len start)) [
      | inl inside ↦
          subst (λ bs. SomeHolds bs n) (sym (blocks-whole each r (suc left) len start inside)) (inl (holds.0, low, omega arith))
      | inr outside ↦
          let deepest : ℕ = width_of r.space in
          let halves = size_halves r.space len (omega arith) in
          let middle : ℕ = start + block_size r.space (len + 1) in
          let first = blocks_inside each r left (len + 1) start in
          let second = blocks_inside each r left (len + 1) middle in
          subst (λ bs. SomeHolds bs n) (sym (blocks-halves each r deepest left len start place outside))
          (elim (cases_lt n.value middle) [
            | inl below ↦
                holds_left first second n
                (blocks-hold r left (len + 1) start n (place-first r.space deepest left len start place) holds low below)
            | inr above ↦
                holds_right first second n
                (blocks-hold r left (len + 1) middle n (place-second r.space deepest left len start place) holds above (omega arith))
          ])
    ]

-- ---- the order

-- the ranges lie from a number on and end before another, each before the next
RisesTo : ℕ → ℕ → List PlainRange → Type 0
RisesTo low high [] = low ≤ high
RisesTo low high (b ∷ bs) = (low ≤ b.first) × (b.first ≤ b.last) × RisesTo (b.last + 1) high bs

rises-lower : (lower low high : ℕ) (bs : List PlainRange) → lower ≤ low → RisesTo low high bs → RisesTo lower high bs
unfolding RisesTo
rises-lower lower low high [] h rises = omega arith
rises-lower lower low high (b ∷ bs) h rises = (omega arith, rises.1, rises.2)

rises-append : (low middle high : ℕ) (bs cs : List PlainRange) → RisesTo low middle bs → RisesTo middle high cs → RisesTo low high (bs ++ cs)
unfolding RisesTo
rises-append low middle high [] cs hb hc = rises-lower low middle high cs hb hc
rises-append low middle high (b ∷ bs) cs hb hc = (hb.0, hb.1, rises-append (b.last + 1) middle high bs cs hb.2 hc)

-- each of them starts at or above the lower bound
rises-above : (low high : ℕ) (bs : List PlainRange) (k : ℕ) (d : PlainRange) → RisesTo low high bs → k < length bs → low ≤ (slice_index_or bs k d).first
unfolding RisesTo
rises-above low high [] k d rises h = absurd (omega arith)
rises-above low high (b ∷ bs) zero d rises h = rises.0
rises-above low high (b ∷ bs) (suc k) d rises h = let above = rises-above (b.last + 1) high bs k d rises.2 (omega arith) in omega arith

rises-pairs : (low high : ℕ) (bs : List PlainRange) (i j : ℕ) (d : PlainRange) → RisesTo low high bs → i < j → j < length bs
    → (slice_index_or bs i d).last < (slice_index_or bs j d).first
unfolding RisesTo
rises-pairs low high [] i j d rises lt h = absurd (omega arith)
rises-pairs low high (b ∷ bs) i zero d rises lt h = absurd (omega arith)
rises-pairs low high (b ∷ bs) zero (suc j) d rises lt h = let above = rises-above (b.last + 1) high bs j d rises.2 (omega arith) in omega arith
rises-pairs low high (b ∷ bs) (suc i) (suc j) d rises lt h = rises-pairs (b.last + 1) high bs i j d rises.2 (omega arith) (omega arith)

blocks-rise : (asked : ℕ → Bool) (r : PlainRange) (deepest left len start : ℕ) → IsPlace r.space deepest left len start
    → RisesTo start (start + block_size r.space len) (blocks_inside asked r left len start)
unfolding RisesTo
blocks-rise asked r deepest zero len start place =
    let pos = size_pos r.space len in
    elim (cases_Bool (asked len && is_inside r len start)) [
      | inl taken ↦
          subst (RisesTo start (start + block_size r.space len)) (sym (blocks-whole asked r zero len start taken))
          (omega arith, omega arith, omega arith)
      | inr outside ↦ subst (RisesTo start (start + block_size r.space len)) (sym (blocks-end asked r len start outside)) (omega arith)
    ]
blocks-rise asked r deepest (suc left) len start place =
    let pos = size_pos r.space len in
    elim (cases_Bool (asked len && is_inside r len start)) [
      | inl taken ↦
          subst (RisesTo start (start + block_size r.space len)) (sym (blocks-whole asked r (suc left) len start taken))
          (omega arith, omega arith, omega arith)
      | inr outside ↦
          let halves = size_halves r.space len (omega arith) in
          let middle : ℕ = start + block_size r.space (len + 1) in
          let ends : middle + block_size r.space (len + 1) ≡ start + block_size r.space len = omega arith in
          let first = blocks_inside asked r left (len + 1) start in
          let second = blocks_inside asked r left (len + 1) middle in
          subst (RisesTo start (start + block_size r.space len)) (sym (blocks-halves asked r deepest left len start place outside))
          (rises-append start middle (start + block_size r.space len) first second
          (blocks-rise asked r deepest left (len + 1) start (place-first r.space deepest left len start place))
          (subst (λ high. RisesTo middle high second) ends
          (blocks-rise asked r deepest left (len + 1) middle (place-second r.space deepest left len start place))))
    ]

-- ---- the least cover

pub block-within : (space : Space) (deepest k at : ℕ) → deepest ≤ width_of space → IsWithin space deepest 0 0 k at → IsBlockStart space at k
block-within space deepest k at h within =
    let whole = size_of_whole space in
    let top = top-below space in
    let pos = size_pos space k in
    let before = within.before in
    let deep = within.deep in
    (omega arith, omega arith, within.aligned)

pub blocks-are_rising : (asked : ℕ → Bool) (r : PlainRange) (deepest : ℕ) → deepest ≤ width_of r.space → IsRising (blocks_inside asked r deepest 0 0)
blocks-are_rising asked r deepest h =
    λ i j d lt within.
    rises-pairs 0 (0 + block_size r.space 0) (blocks_inside asked r deepest 0 0) i j d
    (blocks-rise asked r deepest deepest 0 0 (place-whole r.space deepest h)) lt within

pub least_cover-exact : (r : PlainRange) → IsRange r → IsCoverOf r (least_cover r)
unfolding least_cover
least_cover-exact r range =
    let deepest : ℕ = width_of r.space in
    let whole = size_of_whole r.space in
    let top = top-below r.space in
    let place = place-whole r.space deepest (omega arith) in
    let found = blocks_inside each r deepest 0 0 in
    record {
      blocks = All-from_recursion IsBlock found
          (blocks-all IsBlock each r deepest deepest 0 0 place (not-held-whole each r)
          (λ k at within _ _ _. record { length = k; starts = block-within r.space deepest k at (omega arith) within; is_block = refl }));
      exact = λ n. (
        λ any. held_inside r found n
            (blocks-all (λ b. IsInside b r) each r deepest deepest 0 0 place (not-held-whole each r)
            (λ k at within _ inside _. let parts = inside_parts r k at inside in (refl, parts.0, parts.1)))
            (some-from_any found n any),
        λ holds. any-from_some found n (blocks-hold r deepest 0 0 n place holds (omega arith) (omega arith)),
      );
    }

pub least_cover-rises : (r : PlainRange) → IsRising (least_cover r)
unfolding least_cover
least_cover-rises r = blocks-are_rising each r (width_of r.space) (omega arith)
