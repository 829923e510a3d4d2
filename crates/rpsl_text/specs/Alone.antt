-- An attribute whose line is read by itself as the attribute.
use Rattle.std.specs.Prelude.{◌≡◌, ℕ, ◌≤◌, true, List, ◌∷◌, ◌++◌, length, slice_index, All, None, Some}
use Rattle.std.specs.Option.{option_map}
use Rattle.rpsl_text.specs.Lines.{is_name_byte, continuation_of, name_and_rest, attribute_of}
use Rattle.rpsl_text.specs.Plain.{plain_attribute}

-- its line, without the end
abbrev pub line_of : List ℕ × List ℕ → List ℕ
line_of a = a.0 ++ 58 ∷ 32 ∷ a.1

-- no byte of its line ends a line; a name begins it, and no value goes on with it; it is read as the attribute
pub record IsReadAlone (a : List ℕ × List ℕ) : Type 0 where
  pub bytes : All (λ b. 32 ≤ b) (line_of a)
  pub short : length (line_of a) ≤ 160
  pub begins : is_name_byte (slice_index (line_of a) 0) ≡ true
  pub anew : continuation_of (line_of a) ≡ None
  pub read : option_map attribute_of (name_and_rest (line_of a)) ≡ Some (plain_attribute a)
