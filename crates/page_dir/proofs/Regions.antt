-- What is written in a list of cells changes the region that it lies in, and no other.
use Rattle.std.proofs.Common.{◌≡◌, ℕ, ◌+◌, ◌-◌, ◌≤◌, inl, inr, List, ◌++◌, length, take, drop, refl, ap, sym, ◌∙◌, arith, length-append, length-take-le, length-drop, append_assoc}
use Rattle.std.proofs.lemmas.List.{take_at, drop_at, take-append-le, drop-append-le, take-append-drop, drop-drop, drop-take, take-take}
use Rattle.std.specs.List.{copy_within}
use Rattle.page_dir.specs.Regions.{IsApart, region}
use Rattle.page_dir.specs.Splices.{spliced}

pub length-region : {T : Type 0} (cells : List T) (i k : ℕ) → i + k ≤ length cells → length (region cells i k) ≡ k
length-region cells i k h = let e = length-drop i cells in length-take-le k (drop i cells) (omega (arith, e))

-- more cells behind
pub region_grown : {T : Type 0} (cells more : List T) (i k : ℕ) → i + k ≤ length cells → region (cells ++ more) i k ≡ region cells i k
region_grown cells more i k h =
    ap (take k) (drop-append-le i cells more (omega arith))
    ∙ (let e = length-drop i cells in take-append-le k (drop i cells) more (omega (arith, e)))

-- cells that are written over from a place on
module _ {T : Type 0} (cells new : List T) (a n : ℕ) (there : a + n ≤ length cells) where
  region_below : (i k : ℕ) → i + k ≤ a → region (spliced a n new cells) i k ≡ region cells i k
  region_below i k h =
      let len = length-take-le a cells (omega arith) in
      region_grown (take a cells) (new ++ drop (a + n) cells) i k (omega (arith, len))
      ∙ sym (region_grown (take a cells) (drop a cells) i k (omega (arith, len)))
      ∙ ap (λ cs. region cs i k) (take-append-drop a cells)

  region_above : length new ≡ n → (i k : ℕ) → a + n ≤ i → region (spliced a n new cells) i k ≡ region cells i k
  region_above e i k h =
      let len = length-take-le a cells (omega arith) in
      let both = length-append (take a cells) new in
      let rest : drop (a + n) (spliced a n new cells) ≡ drop (a + n) cells =
      ap (drop (a + n)) (sym (append_assoc (take a cells) new (drop (a + n) cells)))
      ∙ drop_at (take a cells ++ new) (drop (a + n) cells) (a + n) (omega (arith, len, both, e)) in
      let at : a + n + (i - (a + n)) ≡ i = omega arith in
      ap (take k) (
      ap (λ j. drop j (spliced a n new cells)) (sym at)
      ∙ sym (drop-drop (i - (a + n)) (a + n) (spliced a n new cells))
      ∙ ap (drop (i - (a + n))) rest
      ∙ drop-drop (i - (a + n)) (a + n) cells
      ∙ ap (λ j. drop j cells) at)

  pub region_elsewhere : length new ≡ n → (start : ℕ) → start ≤ a → a + n ≤ start + 64 → (i k : ℕ) → IsApart start i k
      → region (spliced a n new cells) i k ≡ region cells i k
  region_elsewhere e start low high i k apart = elim apart [
    | inl h ↦ region_below i k (omega arith)
    | inr h ↦ region_above e i k (omega arith)
  ]

-- what was written stands there
pub region_of_written : {T : Type 0} (cells new : List T) (a : ℕ) → a ≤ length cells → region (spliced a (length new) new cells) a (length new) ≡ new
region_of_written cells new a h =
    ap (take (length new)) (drop_at (take a cells) (new ++ drop (a + length new) cells) a (length-take-le a cells h))
    ∙ take_at new (drop (a + length new) cells) (length new) refl

-- a splice of the items of a region, by the new ones and those behind the run
module _ {T : Type 0} (cells new : List T) (start len at n : ℕ) (run : at + n ≤ len) (there : start + len ≤ length cells) where
  abbrev pub behind : List T
  behind = take (start + len - (start + at + n)) (drop (start + at + n) cells)

  behind_is : behind ≡ drop (at + n) (region cells start len)
  behind_is =
      let whole : at + n + (start + len - (start + at + n)) ≡ len = omega arith in
      let from : start + (at + n) ≡ start + at + n = omega arith in
      ap (take (start + len - (start + at + n))) (ap (λ j. drop j cells) (sym from) ∙ sym (drop-drop (at + n) start cells))
      ∙ sym (drop-take (at + n) (start + len - (start + at + n)) (drop start cells))
      ∙ ap (λ k. drop (at + n) (take k (drop start cells))) whole

  pub length-behind : length behind ≡ len - (at + n)
  length-behind =
      let e = length-drop (start + at + n) cells in
      let f = length-take-le (start + len - (start + at + n)) (drop (start + at + n) cells) (omega (arith, e)) in
      omega (arith, f)

  front_is : drop start (take (start + at) cells) ≡ take at (region cells start len)
  front_is = drop-take start at cells ∙ sym (take-take at len (drop start cells) (omega arith))

  pub region_written : (xs : List T) (m k : ℕ) → xs ≡ new ++ behind → m ≡ length xs → k ≡ at + m
      → region (spliced (start + at) m xs cells) start k ≡ spliced at n new (region cells start len)
  region_written xs m k is size until =
      let len_front = length-take-le (start + at) cells (omega arith) in
      let front = take at (region cells start len) in
      let len_region = length-region cells start len there in
      let len_take = length-take-le at (region cells start len) (omega (arith, len_region)) in
      let both = length-append front xs in
      ap (take k) (
      drop-append-le start (take (start + at) cells) (xs ++ drop (start + at + m) cells) (omega (arith, len_front))
      ∙ ap (λ ys. ys ++ (xs ++ drop (start + at + m) cells)) front_is
      ∙ sym (append_assoc front xs (drop (start + at + m) cells)))
      ∙ take_at (front ++ xs) (drop (start + at + m) cells) k (omega (arith, both, len_take, size, until))
      ∙ ap (λ ys. front ++ ys) (is ∙ ap (λ ys. new ++ ys) behind_is)

  -- what is written over and no more
  pub spliced_more : spliced (start + at) n new cells ≡ spliced (start + at) (n + length behind) (new ++ behind) cells
  spliced_more =
      let rest = drop (start + at + n) cells in
      let r = start + len - (start + at + n) in
      let e = length-behind in
      let to : start + at + n + r ≡ start + at + (n + length behind) = omega (arith, e) in
      ap (λ ys. take (start + at) cells ++ ys) (
      ap (λ ys. new ++ ys) (sym (take-append-drop r rest))
      ∙ sym (append_assoc new (take r rest) (drop r rest))
      ∙ ap (λ ys. (new ++ take r rest) ++ ys) (drop-drop r (start + at + n) cells ∙ ap (λ j. drop j cells) to))

  -- those behind the run move to where they come, and then the new ones are written before them
  pub shifted : len + length new ≤ 64 + n → start + 64 ≤ length cells
      → spliced (start + at) (length new) new (copy_within cells (start + at + n) (start + len) (start + at + length new))
      ≡ spliced (start + at) (length new + length behind) (new ++ behind) cells
  shifted fits room =
      let a = start + at in
      let d = a + length new in
      let front = length-take-le d cells (omega arith) in
      let size = length-behind in
      let rest = drop (d + (start + len - (a + n))) cells in
      let moved = append_assoc (take d cells) behind rest in
      let below : take a (copy_within cells (a + n) (start + len) d) ≡ take a cells =
      ap (take a) moved ∙ take-append-le a (take d cells) (behind ++ rest) (omega (arith, front)) ∙ take-take a d cells (omega arith) in
      let above : drop d (copy_within cells (a + n) (start + len) d) ≡ behind ++ rest =
      ap (drop d) moved ∙ drop_at (take d cells) (behind ++ rest) d front in
      let to : d + (start + len - (a + n)) ≡ a + (length new + length behind) = omega (arith, size) in
      ap (λ ys. ys ++ (new ++ drop d (copy_within cells (a + n) (start + len) d))) below
      ∙ ap (λ ys. take a cells ++ (new ++ ys)) above
      ∙ ap (λ ys. take a cells ++ ys) (sym (append_assoc new behind rest) ∙ ap (λ j. (new ++ behind) ++ drop j cells) to)
