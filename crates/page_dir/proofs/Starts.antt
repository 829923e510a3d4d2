-- Where pages begin among all items.
use Rattle.std.proofs.Common.{◌≡◌, ℕ, zero, suc, ◌+◌, ◌<◌, ◌≤◌, List, [], ◌∷◌, length, take, drop, ap, arith, length-append}
use Rattle.page_dir.specs.Pages.{joined, page_of}
use Rattle.page_dir.specs.Spread.{IsWalk, start}
use Rattle.page_dir.proofs.Joining.{joined-split, start_next}

pub start-le-all : {T : Type 0} (ps : List (List T)) (i : ℕ) → start ps i ≤ length (joined ps)
start-le-all ps i =
    let whole = ap length (joined-split ps i) in
    let sum = length-append (joined (take i ps)) (joined (drop i ps)) in
    omega (arith, whole, sum)

pub start_rises : {T : Type 0} (ps : List (List T)) (i j : ℕ) → i ≤ j → start ps i ≤ start ps j
start_rises [] zero zero h = omega arith
start_rises [] zero (suc j) h = omega arith
start_rises [] (suc i) zero h = absurd (omega arith)
start_rises [] (suc i) (suc j) h = omega arith
start_rises (p ∷ ps) zero j h = omega arith
start_rises (p ∷ ps) (suc i) zero h = absurd (omega arith)
start_rises (p ∷ ps) (suc i) (suc j) h =
    let rest = start_rises ps i j (omega arith) in
    let one = length-append p (joined (take i ps)) in
    let two = length-append p (joined (take j ps)) in
    omega (arith, rest, one, two)

-- one page more is counted
pub page_counted : {T : Type 0} (ps : List (List T)) (page : List T) (first i count : ℕ) → i < length ps → page ≡ page_of ps i
    → start ps first + count ≡ start ps i → start ps first + (count + length page) ≡ start ps (i + 1)
page_counted ps page first i count h e was =
    let next = start_next ps i h in
    let len = ap length e in
    omega (arith, next, len, was)

-- a place in a page below stands no later
pub later_page : {T : Type 0} (ps : List (List T)) (first at last end : ℕ) → last < first → first ≤ length ps → IsWalk ps last end → start ps last + end ≤ start ps first + at
later_page ps first at last end h there place =
    let inside = place.inside (omega arith) in
    let next = start_next ps last (omega arith) in
    let rest = start_rises ps (last + 1) first (omega arith) in
    omega (arith, inside, next, rest)
