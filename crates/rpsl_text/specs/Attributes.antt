-- Attributes as they are kept: the bytes of all names and values one behind the other, and how long each name and value is.
use Rattle.std.specs.Prelude.{◌≡◌, ℕ, ◌+◌, List, [], ◌∷◌, length, take, drop, sum_by, Option, None, Some}
use Rattle.rpsl_text.specs.declared.attrs.Span.{Span}

-- how many bytes the attribute has
abbrev pub span_length : Span → ℕ
span_length s = s.name + s.value

-- the attributes that stand at these lengths, one behind the other
abbrev pub attributes_at : List ℕ → List Span → List (List ℕ × List ℕ)
attributes_at bytes [] = []
attributes_at bytes (s ∷ ss) =
    (take s.name bytes, take s.value (drop s.name bytes)) ∷ attributes_at (drop s.value (drop s.name bytes)) ss

-- the lengths are those of all bytes
abbrev pub AreSpansOf : List ℕ → List Span → Type 0
AreSpansOf bytes spans = sum_by span_length spans ≡ length bytes

-- the attribute that stands last
abbrev pub last_of : List (List ℕ × List ℕ) → Option (List ℕ × List ℕ)
last_of [] = None
last_of (a ∷ []) = Some a
last_of (a ∷ b ∷ more) = last_of (b ∷ more)
