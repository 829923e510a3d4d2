-- What halving finds in the block of a length that starts at a number.
use Rattle.std.proofs.Common.{◌≡◌, ℕ, zero, suc, ◌+◌, ◌-◌, ◌%◌, ◌<◌, ◌≤◌, Bool, true, false, ◌&&◌, nat_le, List, [], ◌∷◌, ◌++◌, ◌⊎◌, inl, inr, sym, ◌∙◌, ap, subst, arith}
use Rattle.std.specs.List.{AllByRecursion, Contains}
use Rattle.std.proofs.lemmas.List.Elements.{Contains-append_left, Contains-append_right}
use Rattle.std.proofs.lemmas.Bool.{cond-true, cond-false, and_parts, and_from, leb-true, leb-false, le-leb, cases_Bool, cases_lt, and_cases, both_ways, false_from_ne_true}
use Rattle.num_range.specs.declared.space.Space.{Space}
use Rattle.num_range.specs.Space.{width_of}
use Rattle.num_range.specs.Range.{PlainRange}
use Rattle.num_range.specs.Block.{block_size, block_of}
use Rattle.num_range.specs.Cover.{is_part_of, has_some_of, blocks_inside}
use Rattle.cidr_cover.proofs.Sizes.{size_pos, size_halves, sum_of_multiples, multiples_apart, multiple_of_longer, size_is_multiple}

-- the block of this length that starts here lies inside the range
abbrev pub is_inside : PlainRange → ℕ → ℕ → Bool
is_inside r len start = is_part_of (block_of r.space start len) r

pub inside_from : (r : PlainRange) (len start : ℕ) → r.first ≤ start → start + (block_size r.space len - 1) ≤ r.last → is_inside r len start ≡ true
inside_from r len start h k =
    and_from (nat_le r.first start) (nat_le (start + (block_size r.space len - 1)) r.last) (le-leb r.first start h)
    (le-leb (start + (block_size r.space len - 1)) r.last k)

pub inside_parts : (r : PlainRange) (len start : ℕ) → is_inside r len start ≡ true → (r.first ≤ start) × (start + (block_size r.space len - 1) ≤ r.last)
inside_parts r len start e =
    let both = and_parts (nat_le r.first start) (nat_le (start + (block_size r.space len - 1)) r.last) e in
    (leb-true r.first start both.0, leb-true (start + (block_size r.space len - 1)) r.last both.1)

-- ---- the cases of the definition

pub blocks-whole : (asked : ℕ → Bool) (r : PlainRange) (left len start : ℕ) → (asked len && is_inside r len start) ≡ true
    → blocks_inside asked r left len start ≡ block_of r.space start len ∷ []
unfolding blocks_inside
blocks-whole asked r zero len start e = cond-true (asked len && is_inside r len start) _ _ e
blocks-whole asked r (suc left) len start e = rw (e, blocks_inside)

pub blocks-end : (asked : ℕ → Bool) (r : PlainRange) (len start : ℕ) → (asked len && is_inside r len start) ≡ false
    → blocks_inside asked r zero len start ≡ []
unfolding blocks_inside
blocks-end asked r len start e = cond-false (asked len && is_inside r len start) _ _ e

blocks-missed : (asked : ℕ → Bool) (r : PlainRange) (left len start : ℕ) → (asked len && is_inside r len start) ≡ false
    → has_some_of (block_of r.space start len) r ≡ false → blocks_inside asked r (suc left) len start ≡ []
unfolding blocks_inside
blocks-missed asked r left len start e missed = rw (e, missed, blocks_inside)

blocks-met : (asked : ℕ → Bool) (r : PlainRange) (left len start : ℕ) → (asked len && is_inside r len start) ≡ false
    → has_some_of (block_of r.space start len) r ≡ true
    → blocks_inside asked r (suc left) len start
    ≡ blocks_inside asked r left (len + 1) start ++ blocks_inside asked r left (len + 1) (start + block_size r.space (len + 1))
unfolding blocks_inside
blocks-met asked r left len start e met = rw (e, met, blocks_inside)

-- ---- places

-- a block that halving looks at has this many lengths left, down to the deepest, and starts at a multiple of its size
pub record IsPlace (space : Space) (deepest left len start : ℕ) : Type 0 where
  pub levels : len + left ≡ deepest
  pub fits : deepest ≤ width_of space
  pub aligned : start % block_size space len ≡ 0

pub place-first : (space : Space) (deepest left len start : ℕ) → IsPlace space deepest (suc left) len start → IsPlace space deepest left (len + 1) start
place-first space deepest left len start h = record {
  levels = omega arith;
  fits = h.fits;
  aligned = multiple_of_longer space start len (len + 1) (omega arith) h.aligned;
}

pub place-second : (space : Space) (deepest left len start : ℕ) → IsPlace space deepest (suc left) len start
    → IsPlace space deepest left (len + 1) (start + block_size space (len + 1))
place-second space deepest left len start h = record {
  levels = omega arith;
  fits = h.fits;
  aligned =
      sum_of_multiples start (block_size space (len + 1)) (block_size space (len + 1)) (place-first space deepest left len start h).aligned
      (size_is_multiple space (len + 1) (len + 1) (omega arith));
}

-- a block of some length lies in the block of a lesser one, and starts at a multiple of its own size
pub record IsWithin (space : Space) (deepest len start k at : ℕ) : Type 0 where
  pub deep : k ≤ deepest
  pub after : start ≤ at
  pub before : at + block_size space k ≤ start + block_size space len
  pub aligned : at % block_size space k ≡ 0

within-self : (space : Space) (deepest left len start : ℕ) → IsPlace space deepest left len start → IsWithin space deepest len start len start
within-self space deepest left len start h = record {
  deep = omega arith;
  after = omega arith;
  before = omega arith;
  aligned = h.aligned;
}

within-first : (space : Space) (deepest len start k at : ℕ) → len < width_of space → IsWithin space deepest (len + 1) start k at
    → IsWithin space deepest len start k at
within-first space deepest len start k at lt h =
    let halves = size_halves space len lt in
    record { deep = h.deep; after = h.after; before = omega arith; aligned = h.aligned }

within-second : (space : Space) (deepest len start k at : ℕ) → len < width_of space
    → IsWithin space deepest (len + 1) (start + block_size space (len + 1)) k at → IsWithin space deepest len start k at
within-second space deepest len start k at lt h =
    let halves = size_halves space len lt in
    record { deep = h.deep; after = omega arith; before = omega arith; aligned = h.aligned }

-- ---- nothing is found where no asked block lies inside

not_both : (x y : Bool) → (x ≡ true → y ≡ true → ⊥) → (x && y) ≡ false
not_both x y h = false_from_ne_true (x && y) (λ e. let both = and_parts x y e in h both.0 both.1)

pub blocks-none : (asked : ℕ → Bool) (r : PlainRange) (deepest left len start : ℕ) → IsPlace r.space deepest left len start
    → ((k at : ℕ) → IsWithin r.space deepest len start k at → asked k ≡ true → is_inside r k at ≡ true → ⊥)
    → blocks_inside asked r left len start ≡ []
blocks-none asked r deepest zero len start place none =
    blocks-end asked r len start
    (not_both (asked len) (is_inside r len start) (none len start (within-self r.space deepest zero len start place)))
blocks-none asked r deepest (suc left) len start place none =
    let lt : len < width_of r.space = omega arith in
    let middle : ℕ = start + block_size r.space (len + 1) in
    let outside = not_both (asked len) (is_inside r len start) (none len start (within-self r.space deepest (suc left) len start place)) in
    elim (cases_Bool (has_some_of (block_of r.space start len) r)) [
      | inl met ↦
          blocks-met asked r left len start outside met
          ∙ ap (λ bs. bs ++ blocks_inside asked r left (len + 1) middle)
          (blocks-none asked r deepest left (len + 1) start (place-first r.space deepest left len start place)
          (λ k at h. none k at (within-first r.space deepest len start k at lt h)))
          ∙ blocks-none asked r deepest left (len + 1) middle (place-second r.space deepest left len start place)
          (λ k at h. none k at (within-second r.space deepest len start k at lt h))
      | inr missed ↦ blocks-missed asked r left len start outside missed
    ]

-- a block that lies beside the range has none of its numbers
pub blocks-beside : (asked : ℕ → Bool) (r : PlainRange) (deepest left len start : ℕ) → IsPlace r.space deepest left len start
    → (r.last < start) ⊎ (start + block_size r.space len ≤ r.first) → blocks_inside asked r left len start ≡ []
blocks-beside asked r deepest left len start place beside =
    blocks-none asked r deepest left len start place
    (λ k at h _ e.
    let pos = size_pos r.space k in
    let parts = inside_parts r k at e in
    elim beside [ inl below ↦ omega arith | inr above ↦ omega arith ])

-- an empty range has no blocks
pub blocks-empty : (asked : ℕ → Bool) (r : PlainRange) (deepest left len start : ℕ) → IsPlace r.space deepest left len start
    → r.last < r.first → blocks_inside asked r left len start ≡ []
blocks-empty asked r deepest left len start place lt =
    blocks-none asked r deepest left len start place
    (λ k at h _ e. let parts = inside_parts r k at e in omega arith)

-- ---- a block that isn't taken gives what its halves give

pub blocks-halves : (asked : ℕ → Bool) (r : PlainRange) (deepest left len start : ℕ) → IsPlace r.space deepest (suc left) len start
    → (asked len && is_inside r len start) ≡ false
    → blocks_inside asked r (suc left) len start
    ≡ blocks_inside asked r left (len + 1) start ++ blocks_inside asked r left (len + 1) (start + block_size r.space (len + 1))
blocks-halves asked r deepest left len start place outside =
    let lt : len < width_of r.space = omega arith in
    let halves = size_halves r.space len lt in
    let pos = size_pos r.space len in
    let middle : ℕ = start + block_size r.space (len + 1) in
    let first = place-first r.space deepest left len start place in
    let second = place-second r.space deepest left len start place in
    let nothing = λ (beside : (r.last < start) ⊎ (start + block_size r.space len ≤ r.first)).
    ap (λ bs. bs ++ blocks_inside asked r left (len + 1) middle)
    (blocks-beside asked r deepest left (len + 1) start first (elim beside [ inl below ↦ inl below | inr above ↦ inr (omega arith) ]))
    ∙ blocks-beside asked r deepest left (len + 1) middle second (elim beside [ inl below ↦ inl (omega arith) | inr above ↦ inr (omega arith) ]) in
    elim (cases_Bool (has_some_of (block_of r.space start len) r)) [
      | inl met ↦ blocks-met asked r left len start outside met
      | inr missed ↦
          blocks-missed asked r left len start outside missed
          ∙ sym (nothing
          (elim (and_cases (nat_le r.first (start + (block_size r.space len - 1))) (nat_le start r.last) missed) [
            | inl e ↦ let above = leb-false r.first (start + (block_size r.space len - 1)) e in inr (omega arith)
            | inr e ↦ inl (leb-false start r.last e)
          ]))
    ]

-- ---- two ranges with the same blocks inside

abbrev pub with_ends : PlainRange → ℕ → ℕ → PlainRange
with_ends r first last = record { space = r.space; first = first; last = last }

pub blocks-agree : (asked : ℕ → Bool) (r : PlainRange) (first last deepest left len start : ℕ) → IsPlace r.space deepest left len start
    → ((k at : ℕ) → IsWithin r.space deepest len start k at → is_inside r k at ≡ is_inside (with_ends r first last) k at)
    → blocks_inside asked r left len start ≡ blocks_inside asked (with_ends r first last) left len start
blocks-agree asked r first last deepest zero len start place agree =
    let other : PlainRange = with_ends r first last in
    let same = ap (λ b. asked len && b) (agree len start (within-self r.space deepest zero len start place)) in
    elim (cases_Bool (asked len && is_inside r len start)) [
      | inl whole ↦ blocks-whole asked r zero len start whole ∙ sym (blocks-whole asked other zero len start (sym same ∙ whole))
      | inr outside ↦ blocks-end asked r len start outside ∙ sym (blocks-end asked other len start (sym same ∙ outside))
    ]
blocks-agree asked r first last deepest (suc left) len start place agree =
    let other : PlainRange = with_ends r first last in
    let lt : len < width_of r.space = omega arith in
    let middle : ℕ = start + block_size r.space (len + 1) in
    let same = ap (λ b. asked len && b) (agree len start (within-self r.space deepest (suc left) len start place)) in
    elim (cases_Bool (asked len && is_inside r len start)) [
      | inl whole ↦ blocks-whole asked r (suc left) len start whole ∙ sym (blocks-whole asked other (suc left) len start (sym same ∙ whole))
      | inr outside ↦
          blocks-halves asked r deepest left len start place outside
          ∙ ap (λ bs. bs ++ blocks_inside asked r left (len + 1) middle)
          (blocks-agree asked r first last deepest left (len + 1) start (place-first r.space deepest left len start place)
          (λ k at h. agree k at (within-first r.space deepest len start k at lt h)))
          ∙ ap (λ bs. blocks_inside asked other left (len + 1) start ++ bs)
          (blocks-agree asked r first last deepest left (len + 1) middle (place-second r.space deepest left len start place)
          (λ k at h. agree k at (within-second r.space deepest len start k at lt h)))
          ∙ sym (blocks-halves asked other deepest left len start place (sym same ∙ outside))
    ]

-- ---- what is true of each block found

-- no block of an asked length less than this one lies inside the range and holds the block
abbrev pub IsNotHeld : (ℕ → Bool) → PlainRange → ℕ → ℕ → Type 0
IsNotHeld asked r len start =
    (k at : ℕ) → k < len → asked k ≡ true → at % block_size r.space k ≡ 0 → is_inside r k at ≡ true
    → at ≤ start → start + block_size r.space len ≤ at + block_size r.space k → ⊥

pub not-held-whole : (asked : ℕ → Bool) (r : PlainRange) → IsNotHeld asked r 0 0
not-held-whole asked r = λ k at lt _ _ _ _ _. omega arith

-- where a block isn't taken, what doesn't hold it doesn't hold its half
not-held-half : (asked : ℕ → Bool) (r : PlainRange) (deepest left len start half : ℕ) → IsPlace r.space deepest (suc left) len start
    → (asked len && is_inside r len start) ≡ false → IsNotHeld asked r len start → start ≤ half
    → half + block_size r.space (len + 1) ≤ start + block_size r.space len → IsNotHeld asked r (len + 1) half
not-held-half asked r deepest left len start half place outside clear low high =
    λ k at lt is_asked aligned inside before behind.
    let pos = size_pos r.space (len + 1) in
    let size = block_size r.space len in
    let at_multiple = multiple_of_longer r.space at k len (omega arith) aligned in
    let end_multiple = sum_of_multiples at (block_size r.space k) size at_multiple (size_is_multiple r.space k len (omega arith)) in
    let whole_end = sum_of_multiples start size size place.aligned (size_is_multiple r.space len len (omega arith)) in
    let starts : at ≤ start =
    elim (cases_lt start at) [
      | inl after ↦ let apart = multiples_apart start at size place.aligned at_multiple after in omega arith
      | inr le ↦ le
    ] in
    let ends : start + size ≤ at + block_size r.space k =
    elim (cases_lt (at + block_size r.space k) (start + size)) [
      | inl short ↦ let apart = multiples_apart (at + block_size r.space k) (start + size) size end_multiple whole_end short in omega arith
      | inr le ↦ le
    ] in
    elim (cases_lt k len) [
      | inl shorter ↦ clear k at shorter is_asked aligned inside starts ends
      | inr no_shorter ↦
          let same : k ≡ len = omega arith in
          let sizes : block_size r.space k ≡ size = ap (λ j. block_size r.space j) same in
          let here : at ≡ start = omega arith in
          both_ways (asked len && is_inside r len start) outside
          (and_from (asked len) (is_inside r len start) (ap asked (sym same) ∙ is_asked)
          (ap (λ j. is_inside r j start) (sym same) ∙ ap (is_inside r k) (sym here) ∙ inside))
    ]

pub All-append : (P : PlainRange → Type 0) (bs cs : List PlainRange) → AllByRecursion P bs → AllByRecursion P cs → AllByRecursion P (bs ++ cs)
All-append P [] cs hb hc = hc
All-append P (b ∷ bs) cs hb hc = (hb.0, All-append P bs cs hb.1 hc)

pub blocks-all : (P : PlainRange → Type 0) (asked : ℕ → Bool) (r : PlainRange) (deepest left len start : ℕ) → IsPlace r.space deepest left len start
    → IsNotHeld asked r len start
    → ((k at : ℕ) → IsWithin r.space deepest len start k at → asked k ≡ true → is_inside r k at ≡ true → IsNotHeld asked r k at → P (block_of r.space at k))
    → AllByRecursion P (blocks_inside asked r left len start)
blocks-all P asked r deepest zero len start place clear found =
    elim (cases_Bool (asked len && is_inside r len start)) [
      | inl taken ↦
          let both = and_parts (asked len) (is_inside r len start) taken in
          subst (AllByRecursion P) (sym (blocks-whole asked r zero len start taken))
          (found len start (within-self r.space deepest zero len start place) both.0 both.1 clear, tt)
      | inr outside ↦ subst (AllByRecursion P) (sym (blocks-end asked r len start outside)) tt
    ]
blocks-all P asked r deepest (suc left) len start place clear found =
    let lt : len < width_of r.space = omega arith in
    let halves = size_halves r.space len lt in
    let middle : ℕ = start + block_size r.space (len + 1) in
    elim (cases_Bool (asked len && is_inside r len start)) [
      | inl taken ↦
          let both = and_parts (asked len) (is_inside r len start) taken in
          subst (AllByRecursion P) (sym (blocks-whole asked r (suc left) len start taken))
          (found len start (within-self r.space deepest (suc left) len start place) both.0 both.1 clear, tt)
      | inr outside ↦
          subst (AllByRecursion P) (sym (blocks-halves asked r deepest left len start place outside))
          (All-append P (blocks_inside asked r left (len + 1) start) (blocks_inside asked r left (len + 1) middle)
          (blocks-all P asked r deepest left (len + 1) start (place-first r.space deepest left len start place)
          (not-held-half asked r deepest left len start start place outside clear (omega arith) (omega arith))
          (λ k at h. found k at (within-first r.space deepest len start k at lt h)))
          (blocks-all P asked r deepest left (len + 1) middle (place-second r.space deepest left len start place)
          (not-held-half asked r deepest left len start middle place outside clear (omega arith) (omega arith))
          (λ k at h. found k at (within-second r.space deepest len start k at lt h))))
    ]

-- ---- a block of an asked length inside the range that no shorter such one holds is found

contains-itself : (asked : ℕ → Bool) (r : PlainRange) (deepest left len start k at : ℕ) → len ≡ k → asked k ≡ true → is_inside r k at ≡ true
    → IsWithin r.space deepest len start k at → Contains (blocks_inside asked r left len start) (block_of r.space at k)
contains-itself asked r deepest left len start k at same is_asked inside within =
    let sizes : block_size r.space len ≡ block_size r.space k = ap (λ j. block_size r.space j) same in
    let after = within.after in
    let before = within.before in
    let here : start ≡ at = omega arith in
    let taken : (asked len && is_inside r len start) ≡ true =
    and_from (asked len) (is_inside r len start) (ap asked same ∙ is_asked)
    (ap (λ j. is_inside r j start) same ∙ ap (is_inside r k) here ∙ inside) in
    let is : block_of r.space start len ≡ block_of r.space at k =
    ap (λ j. block_of r.space start j) same ∙ ap (λ first. block_of r.space first k) here in
    subst (λ bs. Contains bs (block_of r.space at k)) (sym (blocks-whole asked r left len start taken)) (0, omega arith, is)

pub blocks-contain : (asked : ℕ → Bool) (r : PlainRange) (deepest left len start k at : ℕ) → IsPlace r.space deepest left len start
    → asked k ≡ true → is_inside r k at ≡ true → IsNotHeld asked r k at → IsWithin r.space deepest len start k at → len ≤ k
    → Contains (blocks_inside asked r left len start) (block_of r.space at k)
blocks-contain asked r deepest zero len start k at place is_asked inside clear within le =
    let deep = within.deep in
    contains-itself asked r deepest zero len start k at (omega arith) is_asked inside within
blocks-contain asked r deepest (suc left) len start k at place is_asked inside clear within le =
    elim (cases_lt len k) [
      | inr no_shorter ↦ contains-itself asked r deepest (suc left) len start k at (omega arith) is_asked inside within
      | inl shorter ↦
          let halves = size_halves r.space len (omega arith) in
          let middle : ℕ = start + block_size r.space (len + 1) in
          let first = blocks_inside asked r left (len + 1) start in
          let second = blocks_inside asked r left (len + 1) middle in
          let first_place = place-first r.space deepest left len start place in
          let second_place = place-second r.space deepest left len start place in
          let before = within.before in
          let outside = not_both (asked len) (is_inside r len start)
          (λ len_asked whole. clear len start shorter len_asked place.aligned whole within.after within.before) in
          subst (λ bs. Contains bs (block_of r.space at k)) (sym (blocks-halves asked r deepest left len start place outside))
          (elim (cases_lt at middle) [
            | inl low ↦
                let ends =
                multiples_apart at middle (block_size r.space k) within.aligned
                (multiple_of_longer r.space middle (len + 1) k (omega arith) second_place.aligned) low in
                Contains-append_left first second (block_of r.space at k)
                (blocks-contain asked r deepest left (len + 1) start k at first_place is_asked inside clear
                (record { deep = within.deep; after = within.after; before = ends; aligned = within.aligned }) (omega arith))
            | inr high ↦
                Contains-append_right first second (block_of r.space at k)
                (blocks-contain asked r deepest left (len + 1) middle k at second_place is_asked inside clear
                (record { deep = within.deep; after = high; before = omega arith; aligned = within.aligned }) (omega arith))
          ])
    ]
