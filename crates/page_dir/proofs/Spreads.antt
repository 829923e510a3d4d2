-- The pages in use while a pool's pages are written, put into use and taken out of it.
use Rattle.std.proofs.Common.{◌≡◌, ◌≢◌, ℕ, suc, ◌+◌, ◌*◌, ◌<◌, ◌≤◌, List, [], ◌∷◌, ◌++◌, Option, Some, None, length, get_or, set, map, take, drop, replicate, refl, ap, sym, ◌∙◌, arith, inl, inr, subst}
use Rattle.std.specs.List.{insert, remove, slice_get}
use Rattle.std.specs.Option.{option_and_then}
use Rattle.std.proofs.lemmas.Bool.{cases_eq, cases_lt}
use Rattle.std.proofs.lemmas.List.{length-map, get_or-map, get_or_past, take-map, drop-map, map-append}
use Rattle.std.proofs.lemmas.List.Edits.{length-insert, length-remove}
use Rattle.std.proofs.lemmas.Option.{slice_get_within}
use Rattle.slot_pool.specs.Cells.{held, spare, IsVacant}
use Rattle.slot_pool.specs.Stack.{times}
use Rattle.slot_pool.proofs.Places.{held_same, held_other, cell_at_held, none_held, spare_set, spare_vacant}
use Rattle.slot_pool.proofs.Times.{once, once_same, once_other, times-insert, times-remove, map_absent, map_at, times_at}
use Rattle.page_dir.specs.Pages.{AreDistinct, page_of, pages_at, or_empty}
use Rattle.page_dir.specs.Spread.{BeginWith, IsSpread, presence}

presence-le-one : {T : Type 0} (o : Option T) → presence o ≤ 1
presence-le-one None = omega arith
presence-le-one (Some x) = omega arith

slot_within : {T : Type 0} (pool : List (Option T)) (slot : ℕ) (v : T) → held pool slot ≡ Some v → slot < length pool
slot_within pool slot v e = slice_get_within pool slot (Some v) (cell_at_held pool slot v e)

live_present : {T : Type 0} (o : Option T) → 1 ≤ presence o → (x : T) × (o ≡ Some x)
live_present None h = absurd (omega arith)
live_present (Some x) h = (x, refl)

pub length-pages_at : {T : Type 0} (pool : List (Option (List T))) (order : List ℕ) → length (pages_at pool order) ≡ length order
length-pages_at pool order = length-map order (λ slot. or_empty (held pool slot))

-- the page at a slot of the order
pub page_at : {T : Type 0} (pool : List (Option (List T))) (order : List ℕ) (i slot : ℕ) (page : List T)
    → i < length order → slot ≡ get_or order i slot → held pool slot ≡ Some page → page_of (pages_at pool order) i ≡ page
page_at pool order i slot page h at there =
    get_or-map (λ s. or_empty (held pool s)) order i slot [] h ∙ ap (λ s. or_empty (held pool s)) (sym at) ∙ ap or_empty there

-- a pool whose pages are all vacant
pub no_spread : {K V : Type 0} (pool : List (Option (List (K × V)))) (order : List ℕ) (firsts : List (K × Unit {0})) (n a f : ℕ) → pool ≡ replicate n None → order ≡ []
    → firsts ≡ [] → n ≤ a → n ≤ f → IsSpread pool order firsts a f
no_spread {K} {V} pool order firsts n a f vacant none no_firsts fits firsts_fit = rw (vacant, none, no_firsts) (record {
  each = λ k. sym (ap presence (none_held {T = List (K × V)} n k));
  within = λ k. subst (λ (o : Option (List (K × V))). length (or_empty o) ≤ 64) (sym (none_held {T = List (K × V)} n k)) (omega arith);
  begin = tt;
  order_room = let e = spare_vacant (List (K × V)) n in omega (arith, e, fits);
  firsts_room = let e = spare_vacant (List (K × V)) n in omega (arith, e, firsts_fit);
})

pub slots_differ : {K V : Type 0} {pool : List (Option (List (K × V)))} {order : List ℕ} {firsts : List (K × Unit {0})} {a f : ℕ}
    → IsSpread pool order firsts a f → AreDistinct order
slots_differ {K} {V} {pool} s slot = let one = presence-le-one (held pool slot) in omega (arith, s.each slot, one)

pub pages_within : {K V : Type 0} {pool : List (Option (List (K × V)))} {order : List ℕ} {firsts : List (K × Unit {0})} {a f : ℕ}
    → IsSpread pool order firsts a f → (i : ℕ) → length (page_of (pages_at pool order) i) ≤ 64
pages_within {K} {V} {pool} {order} s i = elim (cases_lt i (length order)) [
  | inl h ↦ subst (λ page. length page ≤ 64) (sym (get_or-map (λ slot. or_empty (held pool slot)) order i 0 [] h)) (s.within (get_or order i 0))
  | inr h ↦ subst (λ (page : List (K × V)). length page ≤ 64) (sym (get_or_past (pages_at pool order) i [] (omega (arith, length-map order (λ slot. or_empty (held pool slot)))))) (omega arith)
]

pub map-insert : {X Y : Type 0} (f : X → Y) (xs : List X) (i : ℕ) (x : X) → map f (insert xs i x) ≡ insert (map f xs) i (f x)
map-insert f xs i x =
    map-append f (take i xs) (x ∷ drop i xs)
    ∙ ap (λ ys. ys ++ f x ∷ map f (drop i xs)) (sym (take-map f i xs))
    ∙ ap (λ ys. take i (map f xs) ++ f x ∷ ys) (sym (drop-map f i xs))

pub map-remove : {X Y : Type 0} (f : X → Y) (xs : List X) (i : ℕ) → map f (remove xs i) ≡ remove (map f xs) i
map-remove f xs i =
    map-append f (take i xs) (drop (suc i) xs)
    ∙ ap (λ ys. ys ++ map f (drop (suc i) xs)) (sym (take-map f i xs))
    ∙ ap (λ ys. take i (map f xs) ++ ys) (sym (drop-map f (suc i) xs))

-- one cell of the pool written
module _ {T : Type 0} (pool : List (Option (List T))) (slot : ℕ) (cell before : Option (List T)) (was : slice_get pool slot ≡ Some before) where
  cell_there : held (set pool slot cell) slot ≡ cell
  cell_there = held_same pool slot cell (slice_get_within pool slot before was)

  cell_before : held pool slot ≡ before
  cell_before = ap (λ c. option_and_then (λ o. o) c) was

  pages_elsewhere : (k : ℕ) → k ≢ slot → or_empty (held (set pool slot cell) k) ≡ or_empty (held pool k)
  pages_elsewhere k ne = ap or_empty (held_other pool slot k cell ne)

  presence_after : (k : ℕ) → presence (held (set pool slot cell) k) + once k slot * presence before ≡ presence (held pool k) + once k slot * presence cell
  presence_after k = elim (cases_eq k slot) [
    | inl e ↦ (
        let here : presence (held (set pool slot cell) k) ≡ presence cell = ap (λ j. presence (held (set pool slot cell) j)) e ∙ ap presence cell_there in
        let old : presence (held pool k) ≡ presence before = ap (λ j. presence (held pool j)) e ∙ ap presence cell_before in
        let one = once_same k slot e in
        rw one (omega (arith, here, old)))
    | inr ne ↦ (
        let same = ap presence (held_other pool slot k cell ne) in
        let none = once_other k slot ne in
        rw none (omega (arith, same)))
  ]

  small_after : length (or_empty cell) ≤ 64 → ((k : ℕ) → length (or_empty (held pool k)) ≤ 64) → (k : ℕ) → length (or_empty (held (set pool slot cell) k)) ≤ 64
  small_after few each k = elim (cases_eq k slot) [
    | inl e ↦ subst (λ j. length (or_empty (held (set pool slot cell) j)) ≤ 64) (sym e) (subst (λ (o : Option (List T)). length (or_empty o) ≤ 64) (sym cell_there) few)
    | inr ne ↦ subst (λ page. length page ≤ 64) (sym (pages_elsewhere k ne)) (each k)
  ]

-- a page in use that changes
module _ {K V : Type 0} (pool : List (Option (List (K × V)))) (slot : ℕ) (old new : List (K × V)) (live : held pool slot ≡ Some old) where
  pub spare_written : spare (set pool slot (Some new)) ≡ spare pool
  spare_written = let e = spare_set pool slot (Some old) (Some new) (cell_at_held pool slot old live) in omega (arith, e)

  pub written_there : held (set pool slot (Some new)) slot ≡ Some new
  written_there = cell_there pool slot (Some new) (Some old) (cell_at_held pool slot old live)

  pub spread_written : {order : List ℕ} {firsts : List (K × Unit {0})} {a f f' : ℕ} (keys : List (K × Unit {0})) → IsSpread pool order firsts a f
      → BeginWith keys (pages_at (set pool slot (Some new)) order) → length new ≤ 64 → f ≤ f'
      → IsSpread (set pool slot (Some new)) order keys a f'
  spread_written keys s begin few firsts_more =
      let spares = spare_written in
      record {
        each = λ k. (let e = presence_after pool slot (Some new) (Some old) (cell_at_held pool slot old live) k in s.each k ∙ omega (arith, e));
        within = small_after pool slot (Some new) (Some old) (cell_at_held pool slot old live) few s.within;
        begin = begin;
        order_room = omega (arith, spares, s.order_room);
        firsts_room = omega (arith, spares, s.firsts_room, firsts_more);
      }

  pub pages_written : {order : List ℕ} {firsts : List (K × Unit {0})} {a f : ℕ} (i d : ℕ) → IsSpread pool order firsts a f → i < length order → get_or order i d ≡ slot
      → pages_at (set pool slot (Some new)) order ≡ set (pages_at pool order) i new
  pages_written {order} i d s h at =
      let was = cell_at_held pool slot old live in
      map_at (λ k. or_empty (held (set pool slot (Some new)) k)) (λ k. or_empty (held pool k)) slot (pages_elsewhere pool slot (Some new) (Some old) was) order i d h at (slots_differ s slot)
      ∙ ap (λ (cell : Option (List (K × V))). set (pages_at pool order) i (or_empty cell)) (cell_there pool slot (Some new) (Some old) was)

-- a vacant page that comes into use
module _ {K V : Type 0} (pool : List (Option (List (K × V)))) (slot : ℕ) (new : List (K × V)) (vacant : IsVacant pool slot) where
  pub spread_added : {order : List ℕ} {firsts : List (K × Unit {0})} {a f a' f' : ℕ} (i : ℕ) (keys : List (K × Unit {0})) → IsSpread pool order firsts a f
      → BeginWith keys (pages_at (set pool slot (Some new)) (insert order i slot)) → length new ≤ 64 → i ≤ length order → a ≤ a' → f ≤ f'
      → IsSpread (set pool slot (Some new)) (insert order i slot) keys a' f'
  spread_added {order} i keys s begin few h more firsts_more =
      let longer = length-insert order i slot h in
      let fewer = spare_set pool slot None (Some new) vacant in
      record {
        each = λ k. (
            let ins = times-insert k slot order i in
            let e = presence_after pool slot (Some new) None vacant k in
            omega (arith, ins, e, s.each k));
        within = small_after pool slot (Some new) None vacant few s.within;
        begin = begin;
        order_room = omega (arith, longer, fewer, s.order_room, more);
        firsts_room = omega (arith, longer, fewer, s.firsts_room, firsts_more);
      }

  pub pages_added : {order : List ℕ} {firsts : List (K × Unit {0})} {a f : ℕ} (i : ℕ) → IsSpread pool order firsts a f
      → pages_at (set pool slot (Some new)) (insert order i slot) ≡ insert (pages_at pool order) i new
  pages_added {order} i s =
      let absent : times slot order ≡ 0 = s.each slot ∙ ap presence (cell_before pool slot (Some new) None vacant) in
      let f : ℕ → List (K × V) = λ k. or_empty (held (set pool slot (Some new)) k) in
      map-insert f order i slot
      ∙ ap (λ pages. insert pages i (f slot)) (map_absent f (λ k. or_empty (held pool k)) slot (pages_elsewhere pool slot (Some new) None vacant) order absent)
      ∙ ap (λ (cell : Option (List (K × V))). insert (pages_at pool order) i (or_empty cell)) (cell_there pool slot (Some new) None vacant)

-- a page that goes out of use
module _ {K V : Type 0} (pool : List (Option (List (K × V)))) (slot : ℕ) (old : List (K × V)) (live : held pool slot ≡ Some old) where
  pub spread_removed : {order : List ℕ} {firsts : List (K × Unit {0})} {a f a' f' : ℕ} (i d : ℕ) (keys : List (K × Unit {0})) → IsSpread pool order firsts a f
      → BeginWith keys (pages_at (set pool slot None) (remove order i)) → i < length order → get_or order i d ≡ slot → a ≤ a' → f ≤ f'
      → IsSpread (set pool slot None) (remove order i) keys a' f'
  spread_removed {order} i d keys s begin h at more firsts_more =
      let was = cell_at_held pool slot old live in
      let shorter = length-remove order i h in
      let spares = spare_set pool slot (Some old) None was in
      record {
        each = λ k. (
            let rem = times-remove k order i d h in
            let is = ap (once k) at in
            let e = presence_after pool slot None (Some old) was k in
            omega (arith, rem, is, e, s.each k));
        within = small_after pool slot None (Some old) was (omega arith) s.within;
        begin = begin;
        order_room = omega (arith, shorter, spares, s.order_room, more);
        firsts_room = omega (arith, shorter, spares, s.firsts_room, firsts_more);
      }

  pub pages_removed : {order : List ℕ} {firsts : List (K × Unit {0})} {a f : ℕ} (i d : ℕ) → IsSpread pool order firsts a f → i < length order → get_or order i d ≡ slot
      → pages_at (set pool slot None) (remove order i) ≡ remove (pages_at pool order) i
  pages_removed {order} i d s h at =
      let was = cell_at_held pool slot old live in
      let rem = times-remove slot order i d h in
      let one = once_same slot (get_or order i d) (sym at) in
      let absent : times slot (remove order i) ≡ 0 = (let most = slots_differ s slot in omega (arith, rem, one, most)) in
      map_absent (λ k. or_empty (held (set pool slot None) k)) (λ k. or_empty (held pool k)) slot (pages_elsewhere pool slot None (Some old) was) (remove order i) absent
      ∙ map-remove (λ k. or_empty (held pool k)) order i

-- a slot in use is a live one
pub slot_lives : {K V : Type 0} (pool : List (Option (List (K × V)))) (order : List ℕ) (firsts : List (K × Unit {0})) (a f i d : ℕ) → IsSpread pool order firsts a f → i < length order
    → (page : List (K × V)) × (held pool (get_or order i d) ≡ Some page)
slot_lives pool order firsts a f i d s h =
    let there = times_at order i d h in
    live_present (held pool (get_or order i d)) (let e = s.each (get_or order i d) in omega (arith, e, there))
