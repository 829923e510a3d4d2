-- What halving a window costs, and what was read at a place.
use Rattle.std.proofs.Common.{◌≡◌, ℕ, zero, suc, ◌+◌, ◌-◌, ◌*◌, ◌/◌, ◌^◌, ◌<◌, ◌≤◌, Bool, List, [], ◌∷◌, length, get_or, ap, sym, true≢false, pow-suc, ◌∙◌, subst, arith, inl, inr, ◌⊎◌}
use Rattle.std.specs.List.{slice_get}
use Rattle.std.specs.Option.{IsSomeAnd}
use Rattle.std.proofs.lemmas.Bool.{cases_Bool, cases_lt}
use Rattle.std.proofs.lemmas.Bool.Decides.{nat_tests}
use Rattle.std.proofs.lemmas.Nat.{pow-add}
use Rattle.std.proofs.Math.Nat.{mul-le-mul_left, mul-le-mul_right, one-le-pow}
use Rattle.std.proofs.lemmas.Option.{slice_get-get_or}
use Rattle.page_dir.specs.Searching.{FailsAt, IsDown, IsHalved, PassesAt, power_bound}

bound_of_one : (count : ℕ) → count ≤ 1 → power_bound count ≡ 1
bound_of_one count h = grind (arith, nat_tests)

bound_of_more : (count : ℕ) → 1 < count → power_bound count ≡ 2 * (count - 1)
bound_of_more count h = grind (arith, nat_tests)

pub bound_within : (count : ℕ) → power_bound count ≤ 2 * count + 1
bound_within count = elim (cases_lt 1 count) [
  | inl h ↦ (let e = bound_of_more count h in omega (arith, e))
  | inr h ↦ (let e = bound_of_one count (omega arith) in omega (arith, e))
]

-- one halving
fewer : (count : ℕ) → 1 < count → 2 * power_bound (count - count / 2) ≤ power_bound count
fewer count more =
    let whole = bound_of_more count more in
    elim (cases_lt 1 (count - count / 2)) [
      | inl h ↦ (let e = bound_of_more (count - count / 2) h in omega (arith, e, whole))
      | inr h ↦ (let e = bound_of_one (count - count / 2) (omega arith) in omega (arith, e, whole))
    ]

pub halved_once : (old new count : ℕ) → new ≡ old + 1 → 1 < count → 2 ^ (new - old) * power_bound (count - count / 2) ≤ power_bound count
halved_once old new count e more =
    let one : 2 ^ (new - old) ≡ 2 = (let d : new - old ≡ 1 = omega arith in ap (λ k. 2 ^ k) d) in
    let small = fewer count more in
    rw one small

-- what halvings cost, one after another
pub costs_join : (first then last all some few : ℕ) → first ≤ then → then ≤ last → 2 ^ (then - first) * some ≤ all → 2 ^ (last - then) * few ≤ some
    → 2 ^ (last - first) * few ≤ all
costs_join first then last all some few le le' one two =
    let sum : last - first ≡ (then - first) + (last - then) = omega arith in
    let power = ap (λ k. 2 ^ k) sum ∙ pow-add 2 (then - first) (last - then) in
    let bound = mul-le-mul_left (2 ^ (then - first)) two in
    let regrouped : 2 ^ (then - first) * 2 ^ (last - then) * few ≡ 2 ^ (then - first) * (2 ^ (last - then) * few) = grind arith in
    let whole = ap (λ k. k * few) power in
    omega (arith, whole, regrouped, bound, one)

-- and the comparison of the row that is left
pub cost_of_all : (first then last count left : ℕ) → first ≤ then → last ≡ then + 1 → left ≤ 1 → 2 ^ (then - first) * power_bound left ≤ power_bound count
    → 2 ^ (last - first) ≤ 2 * power_bound count
cost_of_all first then last count left le e few cost =
    let next : last - first ≡ suc (then - first) = omega arith in
    let power = ap (λ k. 2 ^ k) next ∙ pow-suc 2 (then - first) in
    let one = ap (λ k. 2 ^ (then - first) * k) (bound_of_one left few) in
    omega (arith, power, one, cost)

twice : (initial steps : ℕ) → initial ≤ steps → 2 ^ (steps + 1 - initial) ≡ 2 * 2 ^ (steps - initial)
twice initial steps h = let e : steps + 1 - initial ≡ suc (steps - initial) = omega arith in ap (λ k. 2 ^ k) e ∙ omega (arith, pow-suc 2 (steps - initial))

halved : (power left left' all : ℕ) → IsHalved power left all → 0 < left → left' + left' ≤ left → IsHalved (2 * power) left' all
halved power left left' all h more less =
    let small = mul-le-mul_left power less in
    let sum : power * (left' + left') ≡ 2 * power * left' = grind arith in
    let one : power * 1 ≤ power * left = mul-le-mul_left power more in
    record { rest = omega (arith, small, sum, h.rest); spent = omega (arith, one, h.rest) }

pub halved_after : (initial steps steps' left left' all : ℕ) → initial ≤ steps → steps' ≡ steps + 1 → IsHalved (2 ^ (steps - initial)) left all
    → 0 < left → left' + left' ≤ left → IsHalved (2 ^ (steps' - initial)) left' all
halved_after initial steps steps' left left' all h e was more less =
    subst (λ power. IsHalved power left' all) (sym (ap (λ k. 2 ^ (k - initial)) e ∙ twice initial steps h))
    (halved (2 ^ (steps - initial)) left left' all was more less)

pub read_at : {T : Type 0} (test : T → Bool) (ts : List T) (i : ℕ) (d : T) (b : Bool) → i < length ts → test (get_or ts i d) ≡ b
    → IsSomeAnd (slice_get ts i) (λ x. test x ≡ b)
read_at test ts i d b h is = subst (λ o. IsSomeAnd o (λ x. test x ≡ b)) (sym (slice_get-get_or ts i d h)) is

-- no item passes a test and fails it
pub not_both : {T : Type 0} (test : T → Bool) (ts : List T) (i : ℕ) → PassesAt test ts i → FailsAt test ts i → ⊥
not_both test [] i passes fails = passes
not_both test (t ∷ ts) zero passes fails = true≢false (sym passes ∙ fails)
not_both test (t ∷ ts) (suc i) passes fails = not_both test ts i passes fails

passes_or_fails : {T : Type 0} (test : T → Bool) (ts : List T) (i : ℕ) → i < length ts → PassesAt test ts i ⊎ FailsAt test ts i
passes_or_fails test [] i h = absurd (omega arith)
passes_or_fails test (t ∷ ts) zero h = cases_Bool (test t)
passes_or_fails test (t ∷ ts) (suc i) h = passes_or_fails test ts i (omega arith)

-- behind an item that fails all do
pub fails_above : {T : Type 0} (test : T → Bool) (ts : List T) (i j : ℕ) → IsDown test ts → i ≤ j → j < length ts → FailsAt test ts i → FailsAt test ts j
fails_above test ts i j down le h fails = elim (passes_or_fails test ts j h) [
  | inl passes ↦ absurd (not_both test ts i (down i j le passes) fails)
  | inr there ↦ there
]

-- a power of two below 256 is at most 128
below_256 : (k : ℕ) → 2 ^ k < 256 → 2 ^ k ≤ 128
below_256 k h = elim (cases_lt k 8) [
  | inl small ↦ (
      let sum : 7 ≡ k + (7 - k) = omega arith in
      let power = ap (λ n. 2 ^ n) sum ∙ pow-add 2 k (7 - k) in
      let more : 1 ≤ 2 ^ (7 - k) = one-le-pow (7 - k) 2 (omega arith) in
      let bound = mul-le-mul_left (2 ^ k) more in
      omega (arith, power, bound))
  | inr large ↦ (
      let sum : k ≡ 8 + (k - 8) = omega arith in
      let power = ap (λ n. 2 ^ n) sum ∙ pow-add 2 8 (k - 8) in
      let more : 1 ≤ 2 ^ (k - 8) = one-le-pow (k - 8) 2 (omega arith) in
      absurd (omega (arith, power, more, h)))
]

pow_rises : (a b : ℕ) → a ≤ b → 2 ^ a ≤ 2 ^ b
pow_rises a b le =
    let sum : b ≡ a + (b - a) = omega arith in
    let power = ap (λ n. 2 ^ n) sum ∙ pow-add 2 a (b - a) in
    let more : 1 ≤ 2 ^ (b - a) = one-le-pow (b - a) 2 (omega arith) in
    let bound = mul-le-mul_left (2 ^ a) more in
    omega (arith, power, bound)

bound_is_some : (count : ℕ) → 1 ≤ power_bound count
bound_is_some count = elim (cases_lt 1 count) [
  | inl h ↦ (let e = bound_of_more count h in omega (arith, e))
  | inr h ↦ (let e = bound_of_one count (omega arith) in omega (arith, e))
]

-- four comparisons alone
pub four_alone : (first last count : ℕ) → last ≤ first + 4 → 2 ^ (last - first) ≤ 32 * power_bound count
four_alone first last count few =
    let most = pow_rises (last - first) 4 (omega arith) in
    let some = bound_is_some count in
    omega (arith, most, some)

-- four comparisons before halvings
pub four_first : (first then last count : ℕ) → first ≤ then → then ≤ first + 4 → then ≤ last → 2 ^ (last - then) ≤ 2 * power_bound count
    → 2 ^ (last - first) ≤ 32 * power_bound count
four_first first then last count le few le' cost =
    let sum : last - first ≡ (then - first) + (last - then) = omega arith in
    let power = ap (λ k. 2 ^ k) sum ∙ pow-add 2 (then - first) (last - then) in
    let bound = mul-le-mul_left (2 ^ (then - first)) cost in
    let most = mul-le-mul_right (2 * power_bound count) (pow_rises (then - first) 4 (omega arith)) in
    omega (arith, power, bound, most)

-- halving pages and then a page, where two neighbours have more than 64 items together
pub both_halved : (first then last pages page items : ℕ) → first ≤ then → then ≤ last → 2 ^ (then - first) ≤ 32 * power_bound pages → 2 ^ (last - then) ≤ 2 * page + 1
    → page ≤ 64 → page ≤ items → 65 * (pages / 2) ≤ items → 2 ^ (last - first) ≤ 256 * (2 * items + 1)
both_halved first then last pages page items le le' one two small inside few =
    let sum : last - first ≡ (then - first) + (last - then) = omega arith in
    let power = ap (λ k. 2 ^ k) sum ∙ pow-add 2 (then - first) (last - then) in
    elim (cases_lt 1 pages) [
      | inl more ↦ (
          let most = below_256 (last - then) (omega (arith, two, small)) in
          let bound = mul-le-mul_left (2 ^ (then - first)) most in
          let all = bound_of_more pages more in
          omega (arith, power, bound, one, few, all))
      | inr single ↦ (
          let all = bound_of_one pages (omega arith) in
          let bound = mul-le-mul_left (2 ^ (then - first)) two in
          let least = mul-le-mul_right (2 * page + 1) (let h : 2 ^ (then - first) ≤ 32 = omega (arith, one, all) in h) in
          omega (arith, power, bound, least, inside))
    ]

-- halving pages alone
pub pages_halved : (first last pages items : ℕ) → 2 ^ (last - first) ≤ 32 * power_bound pages → pages ≤ items + 1 → 2 ^ (last - first) ≤ 256 * (2 * items + 1)
pages_halved first last pages items one few =
    let all = bound_within pages in
    omega (arith, one, few, all)
