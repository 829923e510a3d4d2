-- A word that was written is the first that is read, and what stands behind it is left.
use Rattle.std.proofs.Common.{◌≡◌, ◌≢◌, ℕ, suc, ◌+◌, ◌<◌, true, false, ◌==◌, List, [], ◌∷◌, ◌++◌, length, All, Option, Some, Result, Ok, refl, ap, ◌∙◌, subst, arith, append_assoc, append-nil, ne_eqb}
use Rattle.std.proofs.lemmas.Bool.{cond-true, cond-false}
use Rattle.std.proofs.lemmas.List.Elements.{All-head, All-tail, All-weaker}
use Rattle.std.proofs.Math.Seq.{take-append_seam, drop-append_seam}
use Rattle.addr_text.specs.Reading.{parted_at}
use Rattle.addr_text.proofs.Separators.{parted_here}
use Rattle.desk_lang.specs.declared.rest.Form.TheVariants.{Plain, Quoted}
use Rattle.desk_lang.specs.declared.rest.Malformed.{Malformed}
use Rattle.desk_text.specs.Vocabulary.{quoted}
use Rattle.desk_lang.specs.Words.{PlainRest, PlainWord, is_blank, rest_at, without_blanks, word_length, plain_word, ends_word, quoted_word, word_of, first_word, word_in, end_place, value_of_word, next_value, ◌>>=◌}

-- no blank, no tab and no quote
abbrev pub IsWordByte : ℕ → Type 0
IsWordByte b = (b ≢ 32) × (b ≢ 9) × (b ≢ 34)

pub record IsWord (word : List ℕ) : Type 0 where
  pub some : 0 < length word
  pub bytes : All IsWordByte word

pub no_blank : (b : ℕ) → IsWordByte b → is_blank b ≡ false
no_blank b h = rw (ne_eqb b 32 h.0, ne_eqb b 9 h.1) refl

-- no blank and no tab
abbrev pub IsUnbroken : ℕ → Type 0
IsUnbroken b = is_blank b ≡ false

word_length_of : (word more : List ℕ) → All IsUnbroken word → ends_word more ≡ true → word_length (word ++ more) ≡ length word
word_length_of [] [] h e = refl
word_length_of [] (b ∷ more) h e = cond-true (is_blank b) 0 (suc (word_length more)) e
word_length_of (b ∷ word) more h e =
    cond-false (is_blank b) 0 (suc (word_length (word ++ more))) (All-head IsUnbroken b word h)
    ∙ ap suc (word_length_of word more (All-tail IsUnbroken b word h) e)

abbrev pub plain_at : ℕ → List ℕ → List ℕ → PlainWord
plain_at place word more = record { place = place; form = Plain; bytes = word; behind = rest_at (place + length word) more }

pub plain_taken : (place : ℕ) (word more : List ℕ) → All IsUnbroken word → ends_word more ≡ true → plain_word place (word ++ more) ≡ plain_at place word more
plain_taken place word more h e =
    rw (word_length_of word more h e, take-append_seam word more, drop-append_seam word more) refl

-- a word that ends here is the first one
pub plain_first : (place : ℕ) (word more : List ℕ) → IsWord word → ends_word more ≡ true → first_word (rest_at place (word ++ more)) ≡ Some (plain_at place word more)
plain_first place [] more h e = absurd (omega (arith, h.some))
plain_first place (b ∷ word) more h e =
    let byte = All-head IsWordByte b word h.bytes in
    ap word_of (cond-false (is_blank b) (without_blanks (place + 1) (word ++ more)) (rest_at place (b ∷ word ++ more)) (no_blank b byte))
    ∙ ap Some (cond-false (b == 34) (quoted_word place (parted_at 34 (word ++ more))) (plain_word place (b ∷ word ++ more)) (ne_eqb b 34 byte.2)
    ∙ plain_taken place (b ∷ word) more (All-weaker IsWordByte IsUnbroken no_blank (b ∷ word) h.bytes) e)

abbrev pub quoted_at : ℕ → List ℕ → List ℕ → PlainWord
quoted_at place content more = record { place = place; form = Quoted; bytes = content; behind = rest_at (place + length content + 2) more }

-- a quoted text that ends here is the first word
pub quoted_first : (place : ℕ) (content more : List ℕ) → All (λ b. b ≢ 34) content → ends_word more ≡ true → first_word (rest_at place (34 ∷ content ++ 34 ∷ more)) ≡ Some (quoted_at place content more)
quoted_first place content more h e =
    ap (λ parts. Some (quoted_word place parts)) (parted_here 34 content more h)
    ∙ ap Some (cond-true (ends_word more) (quoted_at place content more) _ e)

-- ---- a value behind a blank, with what is read behind it

module _ {T U : Type 0} (value : List ℕ → Option T) (x : T) (read : T × PlainRest → Result U Malformed) (y : U) where
  pub plain_read : (word more : List ℕ) → IsWord word → value word ≡ Some x → ends_word more ≡ true → ((place : ℕ) → read (x, rest_at place more) ≡ Ok y)
      → (place : ℕ) → (next_value Plain value (rest_at place (32 ∷ word ++ more)) >>= read) ≡ Ok y
  plain_read word more h v e behind place =
      ap (λ o. (word_in Plain (end_place (rest_at place (32 ∷ word ++ more))) o >>= λ w. value_of_word w (value w.bytes)) >>= read) (plain_first (place + 1) word more h e)
      ∙ ap (λ o. value_of_word (plain_at (place + 1) word more) o >>= read) v
      ∙ behind (place + 1 + length word)

  -- the first word of a line
  pub first_read : (word more : List ℕ) → IsWord word → value word ≡ Some x → ends_word more ≡ true → ((place : ℕ) → read (x, rest_at place more) ≡ Ok y)
      → (place : ℕ) → (next_value Plain value (rest_at place (word ++ more)) >>= read) ≡ Ok y
  first_read word more h v e behind place =
      ap (λ o. (word_in Plain (end_place (rest_at place (word ++ more))) o >>= λ w. value_of_word w (value w.bytes)) >>= read) (plain_first place word more h e)
      ∙ ap (λ o. value_of_word (plain_at place word more) o >>= read) v
      ∙ behind (place + length word)

  -- the last word of a line
  pub last_read : (word : List ℕ) → IsWord word → value word ≡ Some x → ((place : ℕ) → read (x, rest_at place []) ≡ Ok y)
      → (place : ℕ) → (next_value Plain value (rest_at place (32 ∷ word)) >>= read) ≡ Ok y
  last_read word h v behind place =
      subst (λ t. (next_value Plain value (rest_at place (32 ∷ t)) >>= read) ≡ Ok y) (append-nil word) (plain_read word [] h v refl behind place)

  pub quoted_read : (content more : List ℕ) → All (λ b. b ≢ 34) content → value content ≡ Some x → ends_word more ≡ true → ((place : ℕ) → read (x, rest_at place more) ≡ Ok y)
      → (place : ℕ) → (next_value Quoted value (rest_at place (32 ∷ quoted content ++ more)) >>= read) ≡ Ok y
  quoted_read content more h v e behind place =
      ap (λ t. next_value Quoted value (rest_at place (32 ∷ 34 ∷ t)) >>= read) (append_assoc content (34 ∷ []) more)
      ∙ ap (λ o. (word_in Quoted (end_place (rest_at place (32 ∷ 34 ∷ content ++ 34 ∷ more))) o >>= λ w. value_of_word w (value w.bytes)) >>= read) (quoted_first (place + 1) content more h e)
      ∙ ap (λ o. value_of_word (quoted_at (place + 1) content more) o >>= read) v
      ∙ behind (place + 1 + length content + 2)

  pub last_quoted_read : (content : List ℕ) → All (λ b. b ≢ 34) content → value content ≡ Some x → ((place : ℕ) → read (x, rest_at place []) ≡ Ok y)
      → (place : ℕ) → (next_value Quoted value (rest_at place (32 ∷ quoted content)) >>= read) ≡ Ok y
  last_quoted_read content h v behind place =
      subst (λ t. (next_value Quoted value (rest_at place (32 ∷ t)) >>= read) ≡ Ok y) (append-nil (quoted content)) (quoted_read content [] h v refl behind place)
