-- How many pages a list has at most, where two neighbours have more than 64 items together.
use Rattle.std.proofs.Common.{◌≡◌, ℕ, zero, suc, ◌+◌, ◌-◌, ◌*◌, ◌/◌, ◌<◌, ◌≤◌, List, [], ◌∷◌, ◌++◌, length, refl, ap, sym, inl, inr, subst, arith, ◌^◌, length-append}
use Rattle.std.specs.declared.cmp.Ordering.{Ordering}
use Rattle.std.proofs.lemmas.Bool.{cases_lt}
use Rattle.page_dir.specs.Directory.{IsDir, pages_for}
use Rattle.page_dir.specs.Pages.{ArePages, HoldsEnough, joined, page_of, pages_at}
use Rattle.page_dir.specs.Sorted.{Rises}
use Rattle.page_dir.specs.Spread.{PlainSpread, pages_in}

pairs_hold : {T : Type 0} (m : ℕ) (ps : List (List T)) → ((i : ℕ) → suc i < length ps → 64 < length (page_of ps i) + length (page_of ps (suc i)))
    → 2 * m ≤ length ps → 65 * m ≤ length (joined ps)
pairs_hold zero ps both h = omega arith
pairs_hold (suc m) [] both h = absurd (omega arith)
pairs_hold (suc m) (p ∷ []) both h = absurd (omega arith)
pairs_hold (suc m) (p ∷ q ∷ ps) both h =
    let rest = pairs_hold m ps (λ i lt. both (suc (suc i)) (omega arith)) (omega arith) in
    let here = both 0 (omega arith) in
    let len = length-append p (q ++ joined ps) in
    let len' = length-append q (joined ps) in
    omega (arith, rest, here, len, len')

-- two by two the pages have 65 items
pub half_of_pages : {T : Type 0} (ps : List (List T)) → ((i : ℕ) → i < length ps → HoldsEnough ps i) → 65 * (length ps / 2) ≤ length (joined ps)
half_of_pages ps enough =
    pairs_hold (length ps / 2) ps (λ i lt. (
    let h = (enough (suc i) lt).both (omega arith) in
    let e : suc i - 1 ≡ i = omega arith in
    omega (arith, h, ap (λ k. length (page_of ps k)) e))) (omega arith)

pub page-le-items : {T : Type 0} (ps : List (List T)) (i : ℕ) → length (page_of ps i) ≤ length (joined ps)
page-le-items [] i = omega arith
page-le-items (p ∷ ps) zero = omega (arith, length-append p (joined ps))
page-le-items (p ∷ ps) (suc i) =
    let rest = page-le-items ps i in
    omega (arith, rest, length-append p (joined ps))

-- of the pages for a room, two are spare
pub two_spare : {T : Type 0} (ps : List (List T)) (spare room : ℕ) → ((i : ℕ) → i < length ps → HoldsEnough ps i)
    → length ps + spare ≡ pages_for room → length (joined ps) ≤ room → 2 ≤ spare
two_spare ps spare room enough reserved within = elim (cases_lt spare 2) [
  | inl few ↦ (
      let both = λ (i : ℕ) (lt : suc i < length ps). (
      let h = (enough (suc i) lt).both (omega arith) in
      let e : suc i - 1 ≡ i = omega arith in
      let s : 64 < length (page_of ps i) + length (page_of ps (suc i)) = omega (arith, h, ap (λ k. length (page_of ps k)) e) in s) in
      let hold = pairs_hold (room / 65 + 1) ps both (omega (arith, reserved)) in
      absurd (omega (arith, hold, within)))
  | inr more ↦ more
]

-- a directory without pairs
pub no_dir : {K V : Type 0} (cmp : K → K → Ordering) (spread : PlainSpread (K × V)) (room carry : ℕ) → spread.order ≡ [] → spread.spare ≡ pages_for room
    → room ≤ 2 ^ 30 → 64 ≤ carry → IsDir cmp spread 0 room carry
no_dir {K} {V} cmp spread room carry none spare most more =
    let no_pages : pages_in spread ≡ [] = ap (pages_at spread.pool) none in
    let D = λ (ps : List (List (K × V))). ArePages ps × Rises cmp (joined ps) × (0 ≡ length (joined ps)) × (length ps + spread.spare ≡ pages_for room) in
    let empty : D (pages_in spread) = subst D (sym no_pages) (record { enough = λ i h. absurd (omega arith); within = λ i. omega arith }, tt, refl, omega (arith, spare)) in
    record { pages = empty.0; rises = empty.1; count = empty.2; within = omega arith; most = most; reserved = empty.3; carry = more }
