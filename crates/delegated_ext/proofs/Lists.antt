-- Lists of which few pass a test.
use Rattle.std.proofs.Common.{◌≡◌, ℕ, zero, suc, ◌<◌, ◌≤◌, Bool, true, false, cond, ◌||◌, List, [], ◌∷◌, length, map, filter, Option, None, Some, option_to_list, slice_index_or, refl, ◌∙◌, ap, arith}
use Rattle.std.specs.Option.{is_some}
use Rattle.std.specs.List.{list_any}
use Rattle.std.proofs.lemmas.Bool.{cond-true}

-- ---- how many pass

module _ {X : Type 0} (p : X → Bool) where
  more : (b : Bool) (x : X) (us : List X) → length us ≤ length (cond b (x ∷ us) us)
  more true x us = omega arith
  more false x us = omega arith

  pub one_passes : (xs : List X) (j : ℕ) (d : X) → j < length xs → p (slice_index_or xs j d) ≡ true → 1 ≤ length (filter p xs)
  one_passes [] j d lt h = absurd (omega arith)
  one_passes (x ∷ xs) zero d lt h =
      let kept = ap length (cond-true (p x) (x ∷ filter p xs) (filter p xs) h) in
      omega arith
  one_passes (x ∷ xs) (suc j) d lt h =
      let fewer = more (p x) x (filter p xs) in
      let rest = one_passes xs j d (omega arith) h in
      omega arith

  pub two_pass : (xs : List X) (i j : ℕ) (d : X) → i < j → j < length xs → p (slice_index_or xs i d) ≡ true
      → p (slice_index_or xs j d) ≡ true → 2 ≤ length (filter p xs)
  two_pass [] i j d lt within h k = absurd (omega arith)
  two_pass (x ∷ xs) i zero d lt within h k = absurd (omega arith)
  two_pass (x ∷ xs) zero (suc j) d lt within h k =
      let kept = ap length (cond-true (p x) (x ∷ filter p xs) (filter p xs) h) in
      let rest = one_passes xs j d (omega arith) k in
      omega arith
  two_pass (x ∷ xs) (suc i) (suc j) d lt within h k =
      let fewer = more (p x) x (filter p xs) in
      let rest = two_pass xs i j d (omega arith) (omega arith) h k in
      omega arith

-- ---- whether any passes

abbrev has_some : {Y : Type 0} → List Y → Bool
has_some [] = false
has_some (y ∷ ys) = true

some_of_option : {Y : Type 0} (o : Option Y) → has_some (option_to_list o) ≡ is_some o
some_of_option None = refl
some_of_option (Some y) = refl

module _ {X Y : Type 0} (p : X → Bool) (f : X → Y) where
  any_kept : (xs : List X) → list_any p xs ≡ has_some (map f (filter p xs))
  any_kept [] = refl
  any_kept (x ∷ xs) = here (p x) (any_kept xs)
    where
      here : (b : Bool) → list_any p xs ≡ has_some (map f (filter p xs))
          → (b || list_any p xs) ≡ has_some (map f (cond b (x ∷ filter p xs) (filter p xs)))
      here true h = refl
      here false h = h

  pub any_of_option : (xs : List X) (o : Option Y) → map f (filter p xs) ≡ option_to_list o → list_any p xs ≡ is_some o
  any_of_option xs o h = any_kept xs ∙ ap has_some h ∙ some_of_option o

  pub length_map : (xs : List X) → length (map f xs) ≡ length xs
  length_map [] = refl
  length_map (x ∷ xs) = ap suc (length_map xs)

  at_most_one : (o : Option Y) → length (option_to_list o) ≤ 1
  at_most_one None = omega arith
  at_most_one (Some y) = omega arith

  -- where one passes at most, no two do
  pub no_two : (xs : List X) (o : Option Y) → map f (filter p xs) ≡ option_to_list o → (i j : ℕ) (d : X) → i < j → j < length xs
      → p (slice_index_or xs i d) ≡ true → p (slice_index_or xs j d) ≡ true → ⊥
  no_two xs o h i j d lt within a b =
      let two = two_pass p xs i j d lt within a b in
      let same : length (map f (filter p xs)) ≡ length (option_to_list o) = ap length h in
      let kept = length_map (filter p xs) in
      let one = at_most_one o in
      absurd (omega arith)
