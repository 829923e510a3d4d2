-- The front of a line, as much of it as decides what it is answered.
use Rattle.std.specs.Prelude.{◌≡◌, ℕ, false, ◌==◌, List, [], ◌∷◌, ◌++◌}
use Rattle.registry_main.specs.Session.{PlainSession, replies_to, after_text}

-- no line ends in the text
abbrev pub HasNoNewline : List ℕ → Type 0
HasNoNewline [] = Unit {0}
HasNoNewline (b ∷ bs) = ((b == 10) ≡ false) × HasNoNewline bs

-- whatever comes behind it, the one text is answered as the other
abbrev pub IsAnsweredAs : List ℕ → List ℕ → Type 0
IsAnsweredAs text other = (s : PlainSession) (tail : List ℕ) → replies_to s (text ++ tail) ≡ replies_to s (other ++ tail)

-- whatever comes behind it, the one text leads to the session that the other leads to
abbrev pub LeadsAs : List ℕ → List ℕ → Type 0
LeadsAs text other = (s : PlainSession) (tail : List ℕ) → after_text s (text ++ tail) ≡ after_text s (other ++ tail)
