-- The pages of a pool, by their lens.
use Rattle.std.proofs.Common.{◌≡◌, ◌≢◌, ℕ, suc, zero, ◌+◌, ◌*◌, ◌^◌, ◌<◌, ◌≤◌, cond, List, [], ◌∷◌, ◌++◌, Option, Some, None, length, set, replicate, refl, ap, sym, ◌∙◌, arith, inl, inr, subst, length-set, length-append}
use Rattle.std.specs.List.{slice_get}
use Rattle.std.specs.Option.{option_map, option_and_then, is_none}
use Rattle.std.proofs.lemmas.Bool.{cases_eq, cases_lt}
use Rattle.std.specs.Option.{IfSome, IsSome}
use Rattle.std.proofs.lemmas.List.{length-replicate}
use Rattle.std.proofs.lemmas.Option.{slice_get_within}
use Rattle.std.proofs.lemmas.List.Sums.{sum_by-cons}
use Rattle.slot_pool.specs.Cells.{held, spare, IsLive, IsVacant}
use Rattle.slot_pool.proofs.Places.{cell_at_held, held_same, held_other, none_held}
use Rattle.page_dir.specs.Pages.{or_empty}
use Rattle.page_dir.specs.Regions.{IsApart, IsLenOf, IsPagePool, page_in, pages_of, placed, region}
use Rattle.page_dir.specs.Splices.{spliced}
use Rattle.page_dir.proofs.Regions.{length-region, region_elsewhere, region_grown, region_of_written}
use Rattle.page_dir.proofs.Splicing.{length-spliced}

-- of lists whose items come from another's by their places
module _ {X Y : Type 0} where
  pub get_placed : (f : ℕ → X → Y) (xs : List X) (i : ℕ) → slice_get (placed f xs) i ≡ option_map (f i) (slice_get xs i)
  get_placed f [] i = refl
  get_placed f (x ∷ xs) zero = refl
  get_placed f (x ∷ xs) (suc i) = get_placed (λ j. f (suc j)) xs i

  placed_same : (f g : ℕ → X → Y) (xs : List X) → ((i : ℕ) (x : X) → slice_get xs i ≡ Some x → f i x ≡ g i x) → placed f xs ≡ placed g xs
  placed_same f g [] same = refl
  placed_same f g (x ∷ xs) same =
      ap (λ y. y ∷ placed (λ j. f (suc j)) xs) (same zero x refl)
      ∙ ap (λ ys. g zero x ∷ ys) (placed_same (λ j. f (suc j)) (λ j. g (suc j)) xs (λ i y e. same (suc i) y e))

  pub placed-set : (f g : ℕ → X → Y) (xs : List X) (i : ℕ) (x : X) → ((j : ℕ) (y : X) → j ≢ i → slice_get xs j ≡ Some y → f j y ≡ g j y)
      → placed f (set xs i x) ≡ set (placed g xs) i (f i x)
  placed-set f g [] i x same = refl
  placed-set f g (y ∷ ys) zero x same =
      ap (λ zs. f zero x ∷ zs) (placed_same (λ j. f (suc j)) (λ j. g (suc j)) ys (λ j z e. same (suc j) z (λ no. cc) e))
  placed-set f g (y ∷ ys) (suc i) x same =
      ap (λ z. z ∷ placed (λ j. f (suc j)) (set ys i x)) (same zero y (λ no. cc) refl)
      ∙ ap (λ zs. g zero y ∷ zs) (placed-set (λ j. f (suc j)) (λ j. g (suc j)) ys i x (λ j z ne e. same (suc j) z (λ eq. ne cc) e))

module _ {T : Type 0} where
  spare_placed : (f : ℕ → Option ℕ → Option (List T)) → ((i : ℕ) (count : Option ℕ) → is_none (f i count) ≡ is_none count)
      → (lens : List (Option ℕ)) → spare (placed f lens) ≡ spare lens
  spare_placed f same [] = refl
  spare_placed f same (count ∷ lens) =
      let rest = spare_placed (λ i. f (suc i)) (λ i h. same (suc i) h) lens in
      sum_by-cons (λ (page : Option (List T)). cond (is_none page) 1 0) (f zero count) (placed (λ i. f (suc i)) lens)
      ∙ ap (λ b. cond b 1 0 + spare (placed (λ i. f (suc i)) lens)) (same zero count)
      ∙ ap (λ n. cond (is_none count) 1 0 + n) rest
      ∙ sym (sum_by-cons (λ (h : Option ℕ). cond (is_none h) 1 0) count lens)

  none_placed : (f : ℕ → Option ℕ → Option (List T)) → ((i : ℕ) → f i None ≡ None) → (n : ℕ) → placed f (replicate n None) ≡ replicate n None
  none_placed f none zero = refl
  none_placed f none (suc n) =
      ap (λ page. page ∷ placed (λ i. f (suc i)) (replicate n None)) (none zero)
      ∙ ap (λ pages. None ∷ pages) (none_placed (λ i. f (suc i)) (λ i. none (suc i)) n)

  live_placed : (f : ℕ → Option ℕ → Option (List T)) → ((i : ℕ) → f i None ≡ None) → (lens : List (Option ℕ)) (i : ℕ)
      → IsLive (placed f lens) i → (count : ℕ) × (held lens i ≡ Some count)
  live_placed f none [] i h = let no : ⊥ = cc in absurd no
  live_placed f none (None ∷ lens) zero h = let none_live : IsSome {T = List T} None = subst (λ (o : Option (List T)). IsSome o) (none zero) h in let no : ⊥ = cc in absurd no
  live_placed f none (Some count ∷ lens) zero h = (count, refl)
  live_placed f none (count ∷ lens) (suc i) h = live_placed (λ j. f (suc j)) (λ j. none (suc j)) lens i h

  -- of the pages in these cells
  module _ (cells : List T) where
    none_in : (slot : ℕ) (count : Option ℕ) → is_none (page_in cells slot count) ≡ is_none count
    none_in slot None = refl
    none_in slot (Some count) = refl

    pub spare_pages : (lens : List (Option ℕ)) → spare (pages_of cells lens) ≡ spare lens
    spare_pages lens = spare_placed (page_in cells) none_in lens

    pub no_pages : (n : ℕ) → pages_of cells (replicate n None) ≡ replicate n None
    no_pages n = none_placed (page_in cells) (λ i. refl) n

    pub live_page : (lens : List (Option ℕ)) (slot : ℕ) → IsLive (pages_of cells lens) slot → (count : ℕ) × (held lens slot ≡ Some count)
    live_page lens slot h = live_placed (page_in cells) (λ i. refl) lens slot h

    pub held_page : (lens : List (Option ℕ)) (slot : ℕ) (count : ℕ) → held lens slot ≡ Some count
        → held (pages_of cells lens) slot ≡ Some (region cells (64 * slot) count)
    held_page lens slot count e =
        ap (λ cell. option_and_then (λ c. c) cell)
        (get_placed (page_in cells) lens slot ∙ ap (option_map (page_in cells slot)) (cell_at_held lens slot count e))

    pub vacant_page : (lens : List (Option ℕ)) (slot : ℕ) → IsVacant lens slot → IsVacant (pages_of cells lens) slot
    vacant_page lens slot e = get_placed (page_in cells) lens slot ∙ ap (option_map (page_in cells slot)) e

  -- of a pool that is seen as these pages
  module _ (cells : List T) (lens : List (Option ℕ)) (seen : List (Option (List T))) (is : pages_of cells lens ≡ seen) where
    pub live_len : (slot : ℕ) → IsLive seen slot → IsLive lens slot
    live_len slot live =
        let count = live_page cells lens slot (subst (λ pages. IsLive pages slot) (sym is) live) in
        subst (λ (o : Option ℕ). IsSome o) (sym count.1) refl

    pub held_seen : (slot : ℕ) (count : ℕ) → held lens slot ≡ Some count → held seen slot ≡ Some (region cells (64 * slot) count)
    held_seen slot count e = ap (λ pages. held pages slot) (sym is) ∙ held_page cells lens slot count e

    pub spare_seen : spare seen ≡ spare lens
    spare_seen = ap spare (sym is) ∙ spare_pages cells lens

    pub vacant_seen : (slot : ℕ) → IsVacant lens slot → IsVacant seen slot
    vacant_seen slot e = ap (λ pages. slice_get pages slot) (sym is) ∙ vacant_page cells lens slot e

  -- one page's count written, and the cells changed in its page alone
  module _ (cells after : List T) (lens : List (Option ℕ)) (slot : ℕ)
      (same : (j : ℕ) (count : ℕ) → j ≢ slot → held lens j ≡ Some count → region after (64 * j) count ≡ region cells (64 * j) count) where
    same_in : (j : ℕ) (count : Option ℕ) → j ≢ slot → slice_get lens j ≡ Some count → page_in after j count ≡ page_in cells j count
    same_in j None ne e = refl
    same_in j (Some count) ne e = ap (λ page. Some page) (same j count ne (ap (λ cell. option_and_then (λ c. c) cell) e))

    pub pages-set : (count : Option ℕ) → pages_of after (set lens slot count) ≡ set (pages_of cells lens) slot (page_in after slot count)
    pages-set count = placed-set (page_in after) (page_in cells) lens slot count same_in

-- what a pool keeps, while lens and cells are written
module _ {T : Type 0} {cells : List T} {lens : List (Option ℕ)} {capacity : ℕ} (kept : IsPagePool cells lens capacity) where
  -- two pages' cells are apart
  pub apart : (slot j : ℕ) (count : ℕ) → j ≢ slot → held lens j ≡ Some count → IsApart (64 * slot) (64 * j) count
  apart slot j count ne e =
      let h = kept.each j count e in
      elim (cases_lt j slot) [
        | inl less ↦ inl (omega (arith, h.within))
        | inr more ↦ inr (omega (arith, ne))
      ]

  pub pool_written : (after : List T) (slot : ℕ) (count : ℕ) (more : ℕ) → slot < length lens → length cells ≤ length after → capacity ≤ more
      → ((j : ℕ) (other : ℕ) → j ≢ slot → held lens j ≡ Some other → region after (64 * j) other ≡ region cells (64 * j) other)
      → IsLenOf after slot count → IsPagePool after (set lens slot (Some count)) more
  pool_written after slot count more within longer fits same here = record {
    each = λ j other e. elim (cases_eq j slot) [
      | inl eq ↦ (
          let is : Some count ≡ Some other = sym (held_same lens slot (Some count) within) ∙ ap (held (set lens slot (Some count))) (sym eq) ∙ e in
          subst (λ (k : ℕ). IsLenOf after k other) (sym eq) (subst (λ (h : Option ℕ). IfSome h (IsLenOf after slot)) is here))
      | inr ne ↦ (
          let old = sym (held_other lens slot j (Some count) ne) ∙ e in
          let h = kept.each j other old in
          record {
            within = h.within;
            there = omega (arith, h.there);
          })
    ];
    reserved = let len = length-set lens slot (Some count) in omega (arith, len, kept.reserved);
    most = let len = length-set lens slot (Some count) in omega (arith, len, kept.most);
  }

  pub pool_given : (slot : ℕ) → slot < length lens → IsPagePool cells (set lens slot None) capacity
  pool_given slot within = record {
    each = λ j other e. elim (cases_eq j slot) [
      | inl eq ↦ (
          let is : ◌≡◌ {A = Option ℕ} None (Some other) = sym (held_same lens slot None within) ∙ ap (held (set lens slot None)) (sym eq) ∙ e in
          let no : ⊥ = cc in absurd no)
      | inr ne ↦ kept.each j other (sym (held_other lens slot j None ne) ∙ e)
    ];
    reserved = let len = length-set lens slot None in omega (arith, len, kept.reserved);
    most = let len = length-set lens slot None in omega (arith, len, kept.most);
  }

pub pool_begun : {T : Type 0} (cells : List T) (lens : List (Option ℕ)) (count capacity : ℕ) → lens ≡ replicate count None → count < 2 ^ 32
    → 64 * count ≤ capacity → IsPagePool cells lens capacity
pool_begun {T} cells lens count capacity is few fits =
    let len : length lens ≡ count = ap length is ∙ length-replicate count None in
    record {
      each = λ j other e.
          let none : ◌≡◌ {A = Option ℕ} None (Some other) = sym (none_held count j) ∙ ap (λ hs. held hs j) (sym is) ∙ e in
          let no : ⊥ = cc in absurd no;
      reserved = omega (arith, len, fits);
      most = omega (arith, len, few);
    }

-- how many items a page in use has
pub page_length : {T : Type 0} {cells : List T} {lens : List (Option ℕ)} {capacity : ℕ} → IsPagePool cells lens capacity
    → (seen : List (Option (List T))) → pages_of cells lens ≡ seen → (slot : ℕ) (count : ℕ) → held lens slot ≡ Some count
    → length (or_empty (held seen slot)) ≡ count
page_length {T} {cells} {lens} kept seen is slot count e =
    let h = kept.each slot count e in
    ap (λ page. length (or_empty page)) (held_seen cells lens seen is slot count e)
    ∙ length-region cells (64 * slot) count (omega (arith, h.within, h.there))

-- a vacant page that comes into use
module _ {T : Type 0} {cells : List T} {lens : List (Option ℕ)} {capacity : ℕ} (kept : IsPagePool cells lens capacity)
    (slot : ℕ) (vacant : IsVacant lens slot) (new : List T) (few : length new ≤ 64) (more after : List T)
    (reached : 64 * slot + 64 ≤ length (cells ++ more)) (is : after ≡ spliced (64 * slot) (length new) new (cells ++ more)) where
  pub taken_elsewhere : (j : ℕ) (other : ℕ) → j ≢ slot → held lens j ≡ Some other → region after (64 * j) other ≡ region cells (64 * j) other
  taken_elsewhere j other ne e =
      let h = kept.each j other e in
      ap (λ cs. region cs (64 * j) other) is
      ∙ region_elsewhere (cells ++ more) new (64 * slot) (length new) (omega (arith, reached, few)) refl (64 * slot) (omega arith) (omega (arith, few))
      (64 * j) other (apart kept slot j other ne e)
      ∙ region_grown cells more (64 * j) other (omega (arith, h.within, h.there))

  pub taken_here : region after (64 * slot) (length new) ≡ new
  taken_here = ap (λ cs. region cs (64 * slot) (length new)) is ∙ region_of_written (cells ++ more) new (64 * slot) (omega (arith, reached))

  length-after : length after ≡ length (cells ++ more)
  length-after = let e = length-spliced (64 * slot) (length new) new (cells ++ more) (omega (arith, reached, few)) in omega (arith, e, ap length is)

  pub pool_taken : (room : ℕ) → capacity ≤ room → IsPagePool after (set lens slot (Some (length new))) room
  pool_taken room fits =
      let len = length-after in
      let both = length-append cells more in
      pool_written kept after slot (length new) room (slice_get_within lens slot None vacant) (omega (arith, len, both)) fits
      taken_elsewhere (record { within = few; there = omega (arith, len, reached) })

-- a page in use that is spliced
module _ {T : Type 0} {cells : List T} {lens : List (Option ℕ)} {capacity : ℕ} (kept : IsPagePool cells lens capacity)
    (slot : ℕ) (count : ℕ) (live : held lens slot ≡ Some count) (after : List T)
    (elsewhere : (i k : ℕ) → IsApart (64 * slot) i k → region after i k ≡ region cells i k) where
  pub spliced_elsewhere : (j : ℕ) (other : ℕ) → j ≢ slot → held lens j ≡ Some other → region after (64 * j) other ≡ region cells (64 * j) other
  spliced_elsewhere j other ne e = elsewhere (64 * j) other (apart kept slot j other ne e)

  pub pool_spliced : (len : ℕ) → length after ≡ length cells → len ≤ 64 → (room : ℕ) → capacity ≤ room
      → IsPagePool after (set lens slot (Some len)) room
  pool_spliced len same few room fits =
      let old = kept.each slot count live in
      pool_written kept after slot len room (slice_get_within lens slot (Some count) (cell_at_held lens slot count live))
      (omega (arith, same)) fits spliced_elsewhere (record { within = few; there = omega (arith, same, old.there) })
