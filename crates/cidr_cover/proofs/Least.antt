-- No list of blocks with a range's numbers is shorter than its least cover.
use Rattle.std.proofs.Common.{◌≡◌, ℕ, zero, suc, ◌+◌, ◌-◌, ◌%◌, ◌<◌, ◌≤◌, Bool, false, ◌&&◌, nat_lt, nat_le, if◌then◌else◌, List, [], ◌∷◌, length, ◌⊎◌, inl, inr, refl, sym, ap, subst, arith}
use Rattle.std.specs.List.{AllByRecursion}
use Rattle.std.proofs.lemmas.List.{length-append}
use Rattle.std.proofs.lemmas.List.Elements.{recursion_from_All}
use Rattle.std.proofs.lemmas.Bool.Decides.{nat_tests}
use Rattle.std.proofs.lemmas.Bool.{cases_Bool, cases_lt, both_ways, and_from, cond-true, le-leb, lt-ltb, cond_both}
use Rattle.num_range.specs.Space.{width_of}
use Rattle.num_range.specs.Number.{PlainNumber}
use Rattle.num_range.specs.Range.{PlainRange, IsRange, Holds}
use Rattle.num_range.specs.Block.{block_size}
use Rattle.num_range.specs.Cover.{blocks_inside, least_cover}
use Rattle.num_range.proofs.BlockEnds.{top-below}
use Rattle.cidr_cover.specs.Blocks.{IsBlock, IsCoverOf}
use Rattle.cidr_cover.proofs.Sizes.{size_pos, size_halves, size_falls, size_of_whole, multiples_apart, multiple_of_longer}
use Rattle.cidr_cover.proofs.Halving.{is_inside, inside_from, inside_parts, IsPlace, place-first, place-second, blocks-whole, blocks-end, blocks-halves}
use Rattle.cidr_cover.proofs.Greedy.{place-whole}
use Rattle.cidr_cover.proofs.Covering.{each, SomeHolds, some-from_any, any-from_some}

-- a block of the list holds numbers of the range alone
pub record IsBlockIn (r b : PlainRange) : Type 0 where
  pub length : ℕ
  pub of_space : r.space ≡ b.space
  pub aligned : b.first % block_size r.space length ≡ 0
  pub last : b.last ≡ b.first + (block_size r.space length - 1)
  pub low : r.first ≤ b.first
  pub high : b.last ≤ r.last

-- the numbers from start up to end are apart from the block's, or hold all of them
abbrev IsClear : ℕ → ℕ → PlainRange → Type 0
IsClear start end b = (b.last < start) ⊎ ((end ≤ b.first) ⊎ ((start ≤ b.first) × (b.last < end)))

-- the block lies between
abbrev lies_between : ℕ → ℕ → PlainRange → Bool
lies_between start end b = nat_le start b.first && nat_lt b.last end

abbrev one_between : ℕ → ℕ → PlainRange → ℕ
one_between start end b = if lies_between start end b then 1 else 0

-- how many of the blocks lie between
count_between : ℕ → ℕ → List PlainRange → ℕ
count_between start end [] = 0
count_between start end (b ∷ bs) = one_between start end b + count_between start end bs

count-most : (start end : ℕ) (bs : List PlainRange) → count_between start end bs ≤ length bs
unfolding count_between
count-most start end [] = omega arith
count-most start end (b ∷ bs) =
    let rest = count-most start end bs in
    cond_both (lies_between start end b) 1 0 (λ n. n + count_between start end bs ≤ length (b ∷ bs)) (λ _. omega arith) (λ _. omega arith)

-- a block in one half isn't in the other
count-halves : (r : PlainRange) (start middle end : ℕ) (bs : List PlainRange) → start ≤ middle → middle ≤ end → AllByRecursion (IsBlockIn r) bs
    → count_between start middle bs + count_between middle end bs ≤ count_between start end bs
unfolding count_between
count-halves r start middle end [] h k all = omega arith
count-halves r start middle end (b ∷ bs) h k all =
    let rest = count-halves r start middle end bs h k all.1 in
    let pos = size_pos r.space all.0.length in
    let last = all.0.last in
    let here : one_between start middle b + one_between middle end b ≤ one_between start end b =
    grind (arith, nat_tests) in
    omega arith

-- where a number between is held, a block lies between
count-some : (start end : ℕ) (n : PlainNumber) (bs : List PlainRange) → start ≤ n.value → n.value < end → AllByRecursion (IsClear start end) bs
    → SomeHolds bs n → 1 ≤ count_between start end bs
unfolding count_between
count-some start end n [] low high clear h = absurd h
count-some start end n (b ∷ bs) low high clear h =
    elim h [
      | inl here ↦
          let between : (start ≤ b.first) × (b.last < end) =
          elim clear.0 [ inl below ↦ absurd (omega arith) | inr more ↦ elim more [ inl above ↦ absurd (omega arith) | inr between ↦ between ] ] in
          let counted : one_between start end b ≡ 1 =
          cond-true (lies_between start end b) 1 0
          (and_from (nat_le start b.first) (nat_lt b.last end) (le-leb start b.first between.0) (lt-ltb b.last end between.1)) in
          omega arith
      | inr there ↦ let rest = count-some start end n bs low high clear.1 there in omega arith
    ]

-- a block that is clear of what is looked at, which isn't inside the range, is clear of its halves
clear-halves : (r : PlainRange) (left len start : ℕ) (b : PlainRange) → IsPlace r.space (width_of r.space) (suc left) len start
    → is_inside r len start ≡ false → IsBlockIn r b → IsClear start (start + block_size r.space len) b
    → IsClear start (start + block_size r.space (len + 1)) b
    × IsClear (start + block_size r.space (len + 1)) (start + block_size r.space len) b
clear-halves r left len start b place outside block clear =
    let halves = size_halves r.space len (omega arith) in
    let pos = size_pos r.space block.length in
    let half = size_pos r.space (len + 1) in
    let last = block.last in
    let middle : ℕ = start + block_size r.space (len + 1) in
    elim clear [
      | inl below ↦ (inl below, inl (omega arith))
      | inr more ↦ elim more [
        | inl above ↦ (inr (inl (omega arith)), inr (inl above))
        | inr between ↦
            elim (cases_lt len block.length) [
              | inr wider ↦
                  let size = size_falls r.space block.length len wider in
                  let low = block.low in
                  let high = block.high in
                  absurd (both_ways (is_inside r len start) outside (inside_from r len start (omega arith) (omega arith)))
              | inl smaller ↦
                  let aligned = multiple_of_longer r.space middle (len + 1) block.length (omega arith)
                  (place-second r.space (width_of r.space) left len start place).aligned in
                  elim (cases_lt b.first middle) [
                    | inl before ↦
                        let ends = multiples_apart b.first middle (block_size r.space block.length) block.aligned aligned before in
                        (inr (inr (between.0, omega arith)), inl (omega arith))
                    | inr after ↦ (inr (inl after), inr (inr (after, between.1)))
                  ]
            ]
      ]
    ]

all-clear-halves : (r : PlainRange) (left len start : ℕ) (bs : List PlainRange) → IsPlace r.space (width_of r.space) (suc left) len start
    → is_inside r len start ≡ false → AllByRecursion (IsBlockIn r) bs
    → AllByRecursion (IsClear start (start + block_size r.space len)) bs
    → AllByRecursion (IsClear start (start + block_size r.space (len + 1))) bs
    × AllByRecursion (IsClear (start + block_size r.space (len + 1)) (start + block_size r.space len)) bs
all-clear-halves r left len start [] place outside all clear = (tt, tt)
all-clear-halves r left len start (b ∷ bs) place outside all clear =
    let here = clear-halves r left len start b place outside all.0 clear.0 in
    let rest = all-clear-halves r left len start bs place outside all.1 clear.1 in
    ((here.0, rest.0), (here.1, rest.1))

-- the least cover of what is looked at has no more blocks than lie there
blocks-fewest : (r : PlainRange) (left len start : ℕ) (bs : List PlainRange) → IsPlace r.space (width_of r.space) left len start
    → AllByRecursion (IsBlockIn r) bs → ((n : PlainNumber) → Holds r n → SomeHolds bs n)
    → AllByRecursion (IsClear start (start + block_size r.space len)) bs
    → length (blocks_inside each r left len start) ≤ count_between start (start + block_size r.space len) bs
blocks-fewest r zero len start bs place all held clear =
    let pos = size_pos r.space len in
    elim (cases_Bool (is_inside r len start)) [
      | inl inside ↦
          let parts = inside_parts r len start inside in
          let some = count-some start (start + block_size r.space len) (record { space = r.space; value = start }) bs (omega arith) (omega arith) clear
          (held (record { space = r.space; value = start }) (refl, parts.0, omega arith)) in
          subst (λ cs. length cs ≤ count_between start (start + block_size r.space len) bs) (sym (blocks-whole each r zero len start inside)) some
      | inr outside ↦
          subst (λ cs. length cs ≤ count_between start (start + block_size r.space len) bs) (sym (blocks-end each r len start outside)) (omega arith)
    ]
blocks-fewest r (suc left) len start bs place all held clear =
    let pos = size_pos r.space len in
    elim (cases_Bool (is_inside r len start)) [
      | inl inside ↦
          let parts = inside_parts r len start inside in
          let some = count-some start (start + block_size r.space len) (record { space = r.space; value = start }) bs (omega arith) (omega arith) clear
          (held (record { space = r.space; value = start }) (refl, parts.0, omega arith)) in
          subst (λ cs. length cs ≤ count_between start (start + block_size r.space len) bs) (sym (blocks-whole each r (suc left) len start inside)) some
      | inr outside ↦
          let deepest : ℕ = width_of r.space in
          let halves = size_halves r.space len (omega arith) in
          let middle : ℕ = start + block_size r.space (len + 1) in
          let end : ℕ = start + block_size r.space len in
          let ends : middle + block_size r.space (len + 1) ≡ end = omega arith in
          let first = blocks_inside each r left (len + 1) start in
          let second = blocks_inside each r left (len + 1) middle in
          let clears = all-clear-halves r left len start bs place outside all clear in
          let few_first = blocks-fewest r left (len + 1) start bs (place-first r.space deepest left len start place) all held clears.0 in
          let few_second = subst (λ e. length second ≤ count_between middle e bs) ends
          (blocks-fewest r left (len + 1) middle bs (place-second r.space deepest left len start place) all held
          (subst (λ e. AllByRecursion (IsClear middle e) bs) (sym ends) clears.1)) in
          let counts = count-halves r start middle end bs (omega arith) (omega arith) all in
          let lengths = length-append first second in
          subst (λ cs. length cs ≤ count_between start end bs) (sym (blocks-halves each r deepest left len start place outside)) (omega arith)
    ]

-- ---- the law

-- the blocks of a cover of the range
blocks-in : (r : PlainRange) (bs : List PlainRange) → AllByRecursion IsBlock bs → ((n : PlainNumber) → SomeHolds bs n → Holds r n)
    → AllByRecursion (IsBlockIn r) bs
blocks-in r [] blocks inside = tt
blocks-in r (b ∷ bs) blocks inside =
    let len : ℕ = blocks.0.length in
    let pos = size_pos b.space len in
    let last : b.last ≡ b.first + (block_size b.space len - 1) = ap (λ (c : PlainRange). c.last) blocks.0.is_block in
    let at_first = inside (record { space = b.space; value = b.first }) (inl (refl, omega arith, omega arith)) in
    let at_last = inside (record { space = b.space; value = b.last }) (inl (refl, omega arith, omega arith)) in
    let space : b.space ≡ r.space = sym at_first.0 in (
      record {
        length = len;
        of_space = at_first.0;
        aligned = subst (λ s. b.first % block_size s len ≡ 0) space blocks.0.starts.2;
        last = subst (λ s. b.last ≡ b.first + (block_size s len - 1)) space last;
        low = at_first.1;
        high = at_last.2;
      },
      blocks-in r bs blocks.1 (λ n h. inside n (inr h)),
    )

all-within-space : (r : PlainRange) (bs : List PlainRange) → IsRange r → AllByRecursion (IsBlockIn r) bs
    → AllByRecursion (IsClear 0 (0 + block_size r.space 0)) bs
all-within-space r [] range all = tt
all-within-space r (b ∷ bs) range all =
    let whole = size_of_whole r.space in
    let top = top-below r.space in
    let high = all.0.high in
    (inr (inr (omega arith, omega arith)), all-within-space r bs range all.1)

pub least_cover-least : (r : PlainRange) (bs : List PlainRange) → IsRange r → IsCoverOf r bs → length (least_cover r) ≤ length bs
unfolding least_cover
least_cover-least r bs range cover =
    let deepest : ℕ = width_of r.space in
    let all = blocks-in r bs (recursion_from_All IsBlock bs cover.blocks) (λ n h. (cover.exact n).0 (any-from_some bs n h)) in
    let few = blocks-fewest r deepest 0 0 bs (place-whole r.space deepest (omega arith)) all (λ n h. some-from_any bs n ((cover.exact n).1 h)) (all-within-space r bs range all) in
    let most = count-most 0 (0 + block_size r.space 0) bs in
    omega arith
