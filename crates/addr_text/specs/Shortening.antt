-- How RFC 5952 4.2 shortens the text of an IPv6 address.
use Rattle.std.specs.Prelude.{◌≡◌, ℕ, ◌+◌, ◌<◌, ◌≤◌, ◌⊎◌, List, ◌++◌, length, take, drop, replicate, codes}
use Rattle.std.specs.Net.Text.{groups_text}

-- so many zero groups stand from this one on
abbrev pub IsZeroRun : List ℕ → ℕ → ℕ → Type 0
IsZeroRun groups start len =
    (start + len ≤ length groups) × (take len (drop start groups) ≡ replicate len 0)

-- no run of zero groups is longer, and none as long starts before it (4.2.3)
pub record IsLongestZeroRun (groups : List ℕ) (start len : ℕ) : Type 0 where
  pub run : IsZeroRun groups start len
  pub longest : (s l : ℕ) → IsZeroRun groups s l → l ≤ len
  pub first : (s : ℕ) → IsZeroRun groups s len → start ≤ s

-- `::` stands for the longest run if that has two groups or more (4.2.1), and never for one group (4.2.2)
abbrev pub IsShortened : List ℕ → List ℕ → Type 0
IsShortened text groups =
    (start len : ℕ) × IsLongestZeroRun groups start len
    × (((1 < len)
    × (text ≡ groups_text (take start groups) ++ codes "::" ++ groups_text (drop (start + len) groups)))
    ⊎ ((len ≤ 1) × (text ≡ groups_text groups)))
