-- A line of an object's text by itself: a name with a value, or one with which the value goes on (RFC 2622 2).
use Rattle.std.specs.Prelude.{ℕ, Bool, not, ◌&&◌, ◌||◌, ◌==◌, nat_lt, nat_le, if◌then◌else◌, List, [], ◌∷◌, ◌++◌, length, map, filter, fold, Option, None, Some}
use Rattle.std.specs.Char.{to_ascii_lowercase}
use Rattle.std.specs.List.{list_all, slice_split, take_while}
use Rattle.std.specs.Option.{option_and_then}
use Rattle.addr_text.specs.Reading.{parted_at}

-- ---- values

-- a blank or a tab
abbrev pub is_blank : ℕ → Bool
is_blank b = b == 32 || b == 9

-- what stands before the first `#`, which begins a comment
abbrev pub before_comment : List ℕ → List ℕ
before_comment text = take_while (λ b. not (b == 35)) text

-- what stands between blanks
abbrev pub words : List ℕ → List (List ℕ)
words text = filter (λ word. nat_lt 0 (length word)) (slice_split is_blank text)

-- a value that goes on with a word: one blank stands between words, and none at the ends
abbrev pub with_word : List ℕ → List ℕ → List ℕ
with_word [] word = word
with_word (b ∷ bs) word = b ∷ (bs ++ 32 ∷ word)

abbrev pub with_words : List ℕ → List (List ℕ) → List ℕ
with_words value more = fold with_word value more

-- a value that goes on with a text
abbrev pub continued : List ℕ → List ℕ → List ℕ
continued value text = with_words value (words (before_comment text))

-- ---- lines

abbrev pub is_name_byte : ℕ → Bool
is_name_byte b = (nat_le 97 b && nat_le b 122) || (nat_le 65 b && nat_le b 90) || (nat_le 48 b && nat_le b 57) || b == 45

-- letters, digits and `-`, one at least
abbrev pub is_name : List ℕ → Bool
is_name name = nat_lt 0 (length name) && list_all is_name_byte name

-- a line that begins with a blank, a tab or `+` goes on with the value that stands before it; a line of blanks alone doesn't
abbrev pub continuation_of : List ℕ → Option (List ℕ)
continuation_of [] = None
continuation_of (b ∷ bs) = if (b == 43) || (is_blank b && not (list_all is_blank bs)) then Some bs else None

-- a name as it stands, and what stands behind its colon
abbrev pub named : List ℕ × List ℕ → Option (List ℕ × List ℕ)
named parts = if is_name parts.0 then Some parts else None

abbrev pub name_and_rest : List ℕ → Option (List ℕ × List ℕ)
name_and_rest line = option_and_then named (parted_at 58 line)

-- names are compared without case, and kept in lower case
abbrev pub attribute_of : List ℕ × List ℕ → List ℕ × List ℕ
attribute_of parts = (map to_ascii_lowercase parts.0, continued [] parts.1)
