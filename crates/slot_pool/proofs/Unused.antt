-- The cells that a pool uses, and those behind them that it never used.
use Rattle.std.proofs.Common.{◌≡◌, ℕ, suc, zero, ◌+◌, ◌-◌, ◌<◌, cond, List, [], ◌∷◌, ◌++◌, Option, Some, None, length, set, replicate, refl, ap, sym, ◌∙◌, arith, length-set, append_assoc}
use Rattle.std.specs.List.{slice_get}
use Rattle.std.specs.Option.{is_none}
use Rattle.std.proofs.lemmas.List.{set-append_left, length_push}
use Rattle.std.proofs.lemmas.List.Sums.{sum_by-append}
use Rattle.std.proofs.Math.Seq.{set-append_seam}
use Rattle.slot_pool.specs.Cells.{held, spare, IsLive}
use Rattle.slot_pool.specs.Stack.{with_unused}
use Rattle.slot_pool.proofs.Places.{none_held, spare_vacant}

slice_get-append_left : {X : Type 0} (xs ys : List X) (i : ℕ) → i < length xs → slice_get (xs ++ ys) i ≡ slice_get xs i
slice_get-append_left [] ys i h = absurd (omega arith)
slice_get-append_left (x ∷ xs) ys zero h = refl
slice_get-append_left (x ∷ xs) ys (suc i) h = slice_get-append_left xs ys i (omega arith)

slice_get_seam : {X : Type 0} (xs : List X) (y : X) (ys : List X) → slice_get (xs ++ y ∷ ys) (length xs) ≡ Some y
slice_get_seam [] y ys = refl
slice_get_seam (x ∷ xs) y ys = slice_get_seam xs y ys

-- nothing is held behind the used cells
held_in_used : {T : Type 0} (used : List (Option T)) (n slot : ℕ) → held (used ++ replicate n None) slot ≡ held used slot
held_in_used [] n slot = none_held n slot
held_in_used (c ∷ used) n zero = refl
held_in_used (c ∷ used) n (suc slot) = held_in_used used n slot

live_in_used : {T : Type 0} (used : List (Option T)) (room slot : ℕ) → IsLive (with_unused used room) slot → IsLive used slot
live_in_used used room slot live = rw (← held_in_used used (room - length used) slot) live

-- the same, where cells and slot go by other names
pub live_by_view : {T : Type 0} (used : List (Option T)) (room slot : ℕ) (seen : List (Option T)) (place : ℕ)
    → with_unused used room ≡ seen → slot ≡ place → IsLive seen place → IsLive used slot
live_by_view used room slot seen place same_cells same_slot live = live_in_used used room slot (rw (same_cells, same_slot) live)

-- what a used cell has
pub used_there : {T : Type 0} (used : List (Option T)) (room slot : ℕ) (cell : Option T) → slot < length used → slice_get used slot ≡ Some cell
    → slice_get (with_unused used room) slot ≡ Some cell
used_there used room slot cell h at = slice_get-append_left used (replicate (room - length used) None) slot h ∙ at

-- a used cell written
pub set_used : {T : Type 0} (used : List (Option T)) (room slot : ℕ) (cell : Option T) → slot < length used
    → with_unused (set used slot cell) room ≡ set (with_unused used room) slot cell
set_used used room slot cell h =
    ap (λ n. set used slot cell ++ replicate (room - n) None) (length-set used slot cell) ∙ sym (set-append_left used (replicate (room - length used) None) slot cell h)

pub spare_with_unused : {T : Type 0} (used : List (Option T)) (room : ℕ) → spare (with_unused used room) ≡ spare used + (room - length used)
spare_with_unused {T} used room =
    let vacant : Option T → ℕ = λ cell. cond (is_none cell) 1 0 in
    sum_by-append vacant used (replicate (room - length used) None)
    ∙ ap (λ n. spare used + n) (spare_vacant T (room - length used))

-- the first cell that was never used
module _ {T : Type 0} (used : List (Option T)) (room : ℕ) (h : length used < room) where
  one_more : with_unused used room ≡ used ++ None ∷ replicate (room - suc (length used)) None
  one_more = let n : room - length used ≡ suc (room - suc (length used)) = omega arith in ap (λ n. used ++ replicate n None) n

  pub next_is_vacant : slice_get (with_unused used room) (length used) ≡ Some None
  next_is_vacant = rw one_more (slice_get_seam used None (replicate (room - suc (length used)) None))

  pub set_next : (cell : Option T) → with_unused (used ++ cell ∷ []) room ≡ set (with_unused used room) (length used) cell
  set_next cell =
      let n : room - length (used ++ cell ∷ []) ≡ room - suc (length used) = omega (arith, length_push used cell) in
      ap (λ n. (used ++ cell ∷ []) ++ replicate n None) n
      ∙ append_assoc used (cell ∷ []) (replicate (room - suc (length used)) None)
      ∙ sym (set-append_seam used None (replicate (room - suc (length used)) None) cell)
      ∙ sym (ap (λ cells. set cells (length used) cell) one_more)
