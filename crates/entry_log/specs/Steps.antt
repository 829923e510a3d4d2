-- The word that all threads share holds the length of the log; and what an append to it tells.
use Rattle.std.specs.Prelude.{ℕ, ◌≡◌, ◌==◌, true, List, [], ◌∷◌, ◌++◌, length, MatchBool}
use Rattle.logbook.specs.Pages.{Cell, Step, View, Book, Named}
use Rattle.entry_log.specs.declared.append.Append.{Append}

-- the first word is the length. A book opens with two words, of which this one leaves the second at 0
abbrev pub IsKept : List Cell → List Append → Type 0
IsKept cells log = cells ≡ (length log, true) ∷ (0, true) ∷ []

abbrev pub head_of : Book → Named
head_of b = record { tracked = true; key = 0; book = b }

-- where the length was the one expected, the log is what was seen and the new append
abbrev pub Appends : Step Append → View Append ℕ → ℕ → View Append ℕ → Type 0
Appends s v found w = MatchBool (found == s.old) (w.0 ≡ v.0 ++ s.ask ∷ []) (length w.0 ≡ found)
