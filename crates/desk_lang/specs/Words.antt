-- The words of a line, one after the other. A word is a run of bytes other than blank and tab; one that begins with a
-- quote goes to the next quote, behind which the line ends or a blank stands.
use Rattle.std.specs.Prelude.{ℕ, suc, ◌+◌, Bool, true, false, ◌||◌, ◌==◌, if◌then◌else◌, List, [], ◌∷◌, length, take, drop, Option, None, Some, Result, Ok, Err}
use Rattle.addr_text.specs.Reading.{parted_at}
use Rattle.desk_lang.specs.declared.rest.Form.{Form}
use Rattle.desk_lang.specs.declared.rest.Form.TheVariants.{Plain, Quoted, Broken}
use Rattle.desk_lang.specs.declared.rest.Malformed.{Malformed}

-- what is left of a line, and the place of its first byte; places count from 1
pub record PlainRest : Type 0 where
  pub place : ℕ
  pub text : List ℕ

-- a word, its place, and what is left behind it
pub record PlainWord : Type 0 where
  pub place : ℕ
  pub form : Form
  pub bytes : List ℕ
  pub behind : PlainRest

abbrev pub is_blank : ℕ → Bool
is_blank b = b == 32 || b == 9

abbrev pub rest_at : ℕ → List ℕ → PlainRest
rest_at place text = record { place = place; text = text }

-- the line from its next word on
abbrev pub without_blanks : ℕ → List ℕ → PlainRest
without_blanks place [] = rest_at place []
without_blanks place (b ∷ bs) = if is_blank b then without_blanks (place + 1) bs else rest_at place (b ∷ bs)

-- how many bytes stand before the first blank
abbrev pub word_length : List ℕ → ℕ
word_length [] = 0
word_length (b ∷ bs) = if is_blank b then 0 else suc (word_length bs)

abbrev pub plain_word : ℕ → List ℕ → PlainWord
plain_word place text = record {
  place = place;
  form = Plain;
  bytes = take (word_length text) text;
  behind = rest_at (place + word_length text) (drop (word_length text) text);
}

-- a quote without its end: what comes behind it is no word of any line
abbrev pub broken_word : ℕ → PlainWord
broken_word place = record { place = place; form = Broken; bytes = []; behind = rest_at place [] }

-- a word ends here
abbrev pub ends_word : List ℕ → Bool
ends_word [] = true
ends_word (b ∷ bs) = is_blank b

-- the content between two quotes
abbrev pub quoted_word : ℕ → Option (List ℕ × List ℕ) → PlainWord
quoted_word place None = broken_word place
quoted_word place (Some parts) =
    if ends_word parts.1
    then record { place = place; form = Quoted; bytes = parts.0; behind = rest_at (place + length parts.0 + 2) parts.1 }
    else broken_word place

-- the word at the front of a text without blanks there
abbrev pub word_at : ℕ → List ℕ → Option PlainWord
word_at place [] = None
word_at place (b ∷ bs) = Some (if b == 34 then quoted_word place (parted_at 34 bs) else plain_word place (b ∷ bs))

abbrev pub word_of : PlainRest → Option PlainWord
word_of rest = word_at rest.place rest.text

-- the next word, or nothing where blanks alone are left
abbrev pub first_word : PlainRest → Option PlainWord
first_word rest = word_of (without_blanks rest.place rest.text)

-- ---- reading

-- the line goes wrong at this place
abbrev pub malformed_at : ℕ → Malformed
malformed_at place = record { place = place }

-- the value goes on, and a fault stays one
infixl 10 ◌>>=◌
abbrev pub ◌>>=◌ : {A B : Type 0} → Result A Malformed → (A → Result B Malformed) → Result B Malformed
(Ok x) >>= f = f x
(Err fault) >>= f = Err fault

-- behind the line's last byte
abbrev pub end_place : PlainRest → ℕ
end_place rest = rest.place + length rest.text

abbrev pub same_form : Form → Form → Bool
same_form Plain Plain = true
same_form Quoted Quoted = true
same_form a b = false

-- the word, if it is of this form
abbrev pub word_in : Form → ℕ → Option PlainWord → Result PlainWord Malformed
word_in form end None = Err (malformed_at end)
word_in form end (Some word) = if same_form word.form form then Ok word else Err (malformed_at word.place)

-- the next word, which is of this form
abbrev pub next_word : Form → PlainRest → Result PlainWord Malformed
next_word form rest = word_in form (end_place rest) (first_word rest)

-- a word's value, and what is left behind the word
abbrev pub value_of_word : {T : Type 0} → PlainWord → Option T → Result (T × PlainRest) Malformed
value_of_word word None = Err (malformed_at word.place)
value_of_word word (Some value) = Ok (value, word.behind)

-- the value of the next word
abbrev pub next_value : {T : Type 0} → Form → (List ℕ → Option T) → PlainRest → Result (T × PlainRest) Malformed
next_value form value rest = next_word form rest >>= λ word. value_of_word word (value word.bytes)

-- the line ends with this meaning
abbrev pub ended : {T : Type 0} → T → Option PlainWord → Result T Malformed
ended meaning None = Ok meaning
ended meaning (Some word) = Err (malformed_at word.place)

abbrev pub at_end : {T : Type 0} → T → PlainRest → Result T Malformed
at_end meaning rest = ended meaning (first_word rest)
