-- Texts that a word begins, and texts whose words stand as those of a value.
use Rattle.std.specs.Prelude.{◌≡◌, ℕ, Bool, true, false, not, ◌==◌, ◌&&◌, ◌||◌, if◌then◌else◌, List, [], ◌∷◌, Option, None, Some}
use Rattle.rpsl_text.specs.Lines.{is_blank}

-- no blank stands first
abbrev pub BeginsWithWord : List ℕ → Type 0
BeginsWithWord [] = Unit {0}
BeginsWithWord (b ∷ bs) = is_blank b ≡ false

-- one blank stands between words, none at the ends, and there is no `#`; in front of the text a word stands or none
abbrev pub is_spaced : Bool → List ℕ → Bool
is_spaced inside [] = inside
is_spaced inside (b ∷ bs) = if b == 32 then inside && is_spaced false bs else not (b == 9 || b == 35) && is_spaced true bs

-- what stands behind a blank as values are written
abbrev pub spaced_value : List ℕ → Option (List ℕ)
spaced_value [] = None
spaced_value (b ∷ bs) = if (b == 32) && is_spaced false bs then Some bs else None
