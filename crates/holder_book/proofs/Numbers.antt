-- What stands at the places of a pool, while values are placed there and rewritten.
use Rattle.std.proofs.Common.{◌≡◌, ◌≢◌, ℕ, suc, ◌+◌, ◌^◌, ◌<◌, ◌≤◌, List, [], ◌∷◌, ◌++◌, Option, Some, None, length, get_or, set, map, replicate, refl, ap, sym, ◌∙◌, subst, inl, inr, arith}
use Rattle.std.specs.List.{slice_get}
use Rattle.std.specs.Option.{unwrap_or, option_map_or, option_and_then}
use Rattle.std.proofs.lemmas.Bool.{cases_eq}
use Rattle.std.proofs.lemmas.List.{length-map, get_or-map, length_push}
use Rattle.std.proofs.lemmas.List.Elements.{filter_map-append}
use Rattle.std.proofs.lemmas.Option.{slice_get-get_or, slice_get_within}
use Rattle.slot_pool.specs.Cells.{held, spare, IsVacant}
use Rattle.slot_pool.specs.Stack.{times}
use Rattle.slot_pool.proofs.Places.{held_same, held_other, cell_at_held, none_held, spare_set, spare_vacant}
use Rattle.slot_pool.proofs.Times.{once_same, times-cons, times_push_same, times_push_other, times_at, map_absent, map_at}
use Rattle.holder_book.specs.Numbered.{ArePlaces, placed, presence}

presence-le-one : {T : Type 0} (o : Option T) → option_map_or (λ (_ : T). 1) o 0 ≤ 1
presence-le-one None = omega arith
presence-le-one (Some x) = omega arith

present : {T : Type 0} (o : Option T) → 1 ≤ option_map_or (λ (_ : T). 1) o 0 → (v : T) × (o ≡ Some v)
present None h = absurd (omega arith)
present (Some v) h = (v, refl)

pub places_differ : {T : Type 0} {cells : List (Option T)} {places : List ℕ} {room capacity : ℕ} → ArePlaces cells places room capacity
    → (slot : ℕ) → times slot places ≤ 1
places_differ {T} {cells} p slot = let one = presence-le-one (held cells slot) in omega (arith, p.each slot, one)

-- something stands at each place
abbrev AllLive : {T : Type 0} → List (Option T) → List ℕ → Type 0
AllLive {T} cells places = (slot : ℕ) → 1 ≤ times slot places → (v : T) × (held cells slot ≡ Some v)

pub all_live : {T : Type 0} {cells : List (Option T)} {places : List ℕ} {room capacity : ℕ} → ArePlaces cells places room capacity → AllLive cells places
all_live {T} {cells} p slot h = present (held cells slot) (omega (arith, p.each slot))

fewer_live : {T : Type 0} (cells : List (Option T)) (place : ℕ) (places : List ℕ) → AllLive cells (place ∷ places) → AllLive cells places
fewer_live cells place places live slot h = let e = times-cons slot place places in live slot (omega (arith, e))

first_live : {T : Type 0} (cells : List (Option T)) (place : ℕ) (places : List ℕ) → AllLive cells (place ∷ places) → (v : T) × (held cells place ≡ Some v)
first_live cells place places live = live place (let e = times-cons place place places in let one = once_same place place refl in omega (arith, e, one))

pub length-placed : {T : Type 0} (cells : List (Option T)) (places : List ℕ) → AllLive cells places → length (placed cells places) ≡ length places
length-placed cells [] live = refl
length-placed cells (place ∷ places) live =
    let first = first_live cells place places live in
    rw first.1 (ap (λ n. suc n) (length-placed cells places (fewer_live cells place places live)))

-- what is read at a slot, where something else would do for a vacant one
abbrev read : {T : Type 0} → List (Option T) → T → ℕ → T
read cells other slot = unwrap_or (held cells slot) other

pub placed_by_reading : {T : Type 0} (cells : List (Option T)) (other : T) (places : List ℕ) → AllLive cells places → placed cells places ≡ map (read cells other) places
placed_by_reading cells other [] live = refl
placed_by_reading cells other (place ∷ places) live =
    let first = first_live cells place places live in
    rw first.1 (ap (λ vs. first.0 ∷ vs) (placed_by_reading cells other places (fewer_live cells place places live)))

-- the value of a number
pub placed_at : {T : Type 0} (cells : List (Option T)) (places : List ℕ) (i slot : ℕ) (v : T) → AllLive cells places → i < length places
    → slot ≡ get_or places i slot → held cells slot ≡ Some v → slice_get (placed cells places) i ≡ Some v
placed_at cells places i slot v live h at there =
    ap (λ vs. slice_get vs i) (placed_by_reading cells v places live)
    ∙ slice_get-get_or (map (read cells v) places) i v (omega (arith, length-map places (read cells v)))
    ∙ ap (λ x. Some x) (get_or-map (read cells v) places i slot v h ∙ ap (read cells v) (sym at) ∙ ap (λ o. unwrap_or o v) there)

-- the slot of a number is live
pub live_at : {T : Type 0} (cells : List (Option T)) (places : List ℕ) (i slot : ℕ) → AllLive cells places → i < length places
    → slot ≡ get_or places i slot → (v : T) × (held cells slot ≡ Some v)
live_at cells places i slot live h at =
    subst (λ s. (v : _) × (held cells s ≡ Some v)) (sym at) (live (get_or places i slot) (times_at places i slot h))

-- the holders are as many as their places, and there is a vacant place where there may be more
pub count_placed : {T : Type 0} {cells : List (Option T)} {places : List ℕ} {room capacity : ℕ} → ArePlaces cells places room capacity
    → length (placed cells places) ≡ length places
count_placed {T} {cells} {places} p = length-placed cells places (all_live p)

pub place_within : {T : Type 0} {cells : List (Option T)} {places : List ℕ} {room capacity : ℕ} (vs : List T) (n : ℕ)
    → ArePlaces cells places room capacity → placed cells places ≡ vs → n < length vs → n < length places
place_within vs n p is h = omega (arith, ap length is, count_placed p)

pub no_places : {T : Type 0} (cells : List (Option T)) (places : List ℕ) (room capacity : ℕ) → cells ≡ replicate room None → places ≡ []
    → room < 2 ^ 32 → room ≤ capacity → ArePlaces cells places room capacity
no_places {T} cells places room capacity vacant none small more = rw (vacant, none) (record {
  each = λ k. sym (ap (λ o. option_map_or (λ (_ : T). 1) o 0) (none_held {T = T} room k));
  left = let all = spare_vacant T room in omega (arith, all);
  small = small;
  reserved = more;
})

-- ---- one value more

module _ {T : Type 0} (cells : List (Option T)) (places : List ℕ) (slot : ℕ) (v : T) (vacant : IsVacant cells slot) where
  abbrev after : List (Option T)
  after = set cells slot (Some v)

  there : held after slot ≡ Some v
  there = held_same cells slot (Some v) (slice_get_within cells slot None vacant)

  none_there : presence cells slot ≡ 0
  none_there = ap (λ cell. option_map_or (λ (_ : T). 1) (option_and_then (λ c. c) cell) 0) vacant

  pub placed_more : {room capacity : ℕ} → ArePlaces cells places room capacity → placed after (places ++ slot ∷ []) ≡ placed cells places ++ v ∷ []
  placed_more p =
      let absent : times slot places ≡ 0 = p.each slot ∙ none_there in
      let live : AllLive after places = (λ s h.
      let ne : s ≢ slot = λ e. let same : times s places ≡ 0 = ap (λ k. times k places) e ∙ absent in absurd (omega (arith, same)) in
      let old = all_live p s h in
      (old.0, held_other cells slot s (Some v) ne ∙ old.1)) in
      filter_map-append (held after) places (slot ∷ [])
      ∙ ap (λ vs. vs ++ placed after (slot ∷ []))
      (placed_by_reading after v places live
      ∙ map_absent (read after v) (read cells v) slot (λ k ne. ap (λ o. unwrap_or o v) (held_other cells slot k (Some v) ne)) places absent
      ∙ sym (placed_by_reading cells v places (all_live p)))
      ∙ rw there refl

  pub places_more : {room capacity capacity' : ℕ} → ArePlaces cells places room capacity → spare after + 1 ≡ spare cells → capacity ≤ capacity'
      → ArePlaces after (places ++ slot ∷ []) room capacity'
  places_more p one more = record {
    each = λ k. elim (cases_eq k slot) [
      | inl e ↦
          let push : times slot (places ++ slot ∷ []) ≡ times slot places + 1 = times_push_same places slot in
          let here : presence after slot ≡ 1 = ap (λ o. option_map_or (λ (_ : T). 1) o 0) there in
          let none : presence cells slot ≡ 0 = none_there in
          subst (λ j. times j (places ++ slot ∷ []) ≡ presence after j) (sym e) (omega (arith, push, here, none, p.each slot))
      | inr ne ↦
          times_push_other places slot k ne ∙ p.each k
          ∙ sym (ap (λ o. option_map_or (λ (_ : T). 1) o 0) (held_other cells slot k (Some v) ne))
    ];
    left = omega (arith, p.left, length_push places slot);
    small = p.small;
    reserved = omega (arith, p.reserved);
  }

-- ---- one value rewritten

module _ {T : Type 0} (cells : List (Option T)) (places : List ℕ) (i slot : ℕ) (old new : T) (live : held cells slot ≡ Some old) where
  abbrev rewritten : List (Option T)
  rewritten = set cells slot (Some new)

  new_there : held rewritten slot ≡ Some new
  new_there = held_same cells slot (Some new) (slice_get_within cells slot (Some old) (cell_at_held cells slot old live))

  same_presence : (k : ℕ) → presence rewritten k ≡ presence cells k
  same_presence k = elim (cases_eq k slot) [
    | inl e ↦ subst (λ j. presence rewritten j ≡ presence cells j) (sym e)
        (ap (λ o. option_map_or (λ (_ : T). 1) o 0) new_there ∙ sym (ap (λ o. option_map_or (λ (_ : T). 1) o 0) live))
    | inr ne ↦ ap (λ o. option_map_or (λ (_ : T). 1) o 0) (held_other cells slot k (Some new) ne)
  ]

  pub places_rewritten : {room capacity : ℕ} → ArePlaces cells places room capacity → ArePlaces rewritten places room capacity
  places_rewritten p = record {
    each = λ k. p.each k ∙ sym (same_presence k);
    left = let same = spare_set cells slot (Some old) (Some new) (cell_at_held cells slot old live) in omega (arith, p.left, same);
    small = p.small;
    reserved = p.reserved;
  }

  pub placed_rewritten : {room capacity : ℕ} → ArePlaces cells places room capacity → i < length places
      → slot ≡ get_or places i slot → placed rewritten places ≡ set (placed cells places) i new
  placed_rewritten p h at =
      placed_by_reading rewritten new places (all_live (places_rewritten p))
      ∙ map_at (read rewritten new) (read cells new) slot (λ k ne. ap (λ o. unwrap_or o new) (held_other cells slot k (Some new) ne)) places i slot h (sym at) (places_differ p slot)
      ∙ ap (λ v. set (map (read cells new) places) i v) (ap (λ o. unwrap_or o new) new_there)
      ∙ ap (λ vs. set vs i new) (sym (placed_by_reading cells new places (all_live p)))
