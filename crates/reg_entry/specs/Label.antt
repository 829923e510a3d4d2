-- A label's bytes: a short list in an array of fixed length, with zeros behind it.
use Rattle.std.specs.Prelude.{◌≡◌, ℕ, ◌-◌, ◌≤◌, List, ◌++◌, length, take, replicate}

-- the bytes of the array that stands for the list
abbrev pub padded : ℕ → List ℕ → List ℕ
padded room bytes = bytes ++ replicate (room - length bytes) 0

-- the array is its first bytes with zeros behind them
pub record IsPadded (room : ℕ) (array : List ℕ) (len : ℕ) : Type 0 where
  pub fits : len ≤ room
  pub long : length array ≡ room
  pub zeros : padded room (take len array) ≡ array
