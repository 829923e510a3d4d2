-- How long the segments of a path are.
use Rattle.std.specs.Prelude.{ℕ, ◌≤◌, List, Option, length, IfSome}

abbrev pub IsShort : List ℕ → Type 0
IsShort text = length text ≤ 64

-- none of the segments is long
pub record AreShort (first : List ℕ) (second third : Option (List ℕ)) : Type 0 where
  pub first_is : IsShort first
  pub second_is : IfSome second IsShort
  pub third_is : IfSome third IsShort
