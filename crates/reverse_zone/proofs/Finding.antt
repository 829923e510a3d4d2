-- A test finds some element just where one is found.
use Rattle.std.proofs.Common.{◌≡◌, Bool, true, false, cond, ◌||◌, List, [], ◌∷◌, Some, refl, find}
use Rattle.std.specs.List.{list_any}
use Rattle.std.specs.Option.{is_some}

pub some_met : {X : Type 0} (p : X → Bool) (xs : List X) → is_some (find p xs) ≡ list_any p xs
some_met p [] = refl
some_met {X} p (x ∷ xs) = here (p x) (some_met p xs)
  where
    here : (b : Bool) → is_some (find p xs) ≡ list_any p xs → is_some (cond b (Some x) (find p xs)) ≡ (b || list_any p xs)
    here true h = refl
    here false h = h
