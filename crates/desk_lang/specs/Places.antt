-- Where a line goes wrong, apart from how it is read: what stands behind the word at that place doesn't matter, and what
-- stands before it can still become a line.
use Rattle.std.specs.Prelude.{◌≡◌, ◌≢◌, ℕ, ◌<◌, false, ◌⊎◌, List, length, slice_index, All, Option}
use Rattle.std.specs.Option.{option_map}
use Rattle.desk_lang.specs.declared.rest.Form.{Form}
use Rattle.desk_text.specs.Vocabulary.{quoted}
use Rattle.desk_lang.specs.Words.{PlainWord, is_blank, word_at}

-- a word's form and its content
abbrev pub spelled : PlainWord → Form × List ℕ
spelled word = (word.form, word.bytes)

-- the word at the front of a text, or nothing at its end
abbrev pub front_word : List ℕ → Option (Form × List ℕ)
front_word text = option_map spelled (word_at 1 text)

-- both begin with the same word, quoted in both or in neither, or both are at their end; quotes without their end are alike
abbrev pub BeginAlike : List ℕ → List ℕ → Type 0
BeginAlike text other = front_word text ≡ front_word other

-- bytes other than blanks, the first of them no quote
abbrev pub IsPlainText : List ℕ → Type 0
IsPlainText word = (0 < length word) × (slice_index word 0 ≢ 34) × All (λ b. is_blank b ≡ false) word

-- a text without quotes between two quotes
abbrev pub IsQuotedText : List ℕ → Type 0
IsQuotedText word = (content : List ℕ) × All (λ b. b ≢ 34) content × (word ≡ quoted content)

-- the bytes of a whole word, where a blank or the line's end comes behind them
abbrev pub IsWordText : List ℕ → Type 0
IsWordText word = IsPlainText word ⊎ IsQuotedText word
