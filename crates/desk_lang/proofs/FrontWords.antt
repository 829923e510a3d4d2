-- The word at the front of a text: what it depends on, and what stands behind it.
use Rattle.std.proofs.Common.{◌≡◌, ◌≢◌, ℕ, suc, ◌+◌, Bool, true, false, ◌==◌, ◌⊎◌, inl, inr, List, [], ◌∷◌, ◌++◌, length, take, drop, All, Option, None, Some, refl, sym, ap, ◌∙◌, subst, arith, append_assoc, length-append, true≢false, take-append-drop}
use Rattle.std.specs.Prelude.{MatchOption}
use Rattle.std.proofs.lemmas.Bool.{cases_Bool, cond-true, cond-false, eqb-true}
use Rattle.std.proofs.lemmas.Option.{none-some}
use Rattle.std.proofs.lemmas.List.Elements.{All-nil, All-cons}
use Rattle.std.specs.Option.{option_map}
use Rattle.addr_text.specs.Reading.{parted_at}
use Rattle.addr_text.proofs.Computed.{IsPartedAt, parted_first}
use Rattle.addr_text.proofs.Separators.{parted_here}
use Rattle.desk_lang.specs.declared.rest.Form.{Form}
use Rattle.desk_lang.specs.declared.rest.Form.TheVariants.{Plain, Quoted, Broken}
use Rattle.desk_text.specs.Vocabulary.{quoted}
use Rattle.desk_lang.specs.Words.{PlainRest, PlainWord, is_blank, rest_at, without_blanks, word_length, plain_word, broken_word, ends_word, quoted_word, word_at, word_of, first_word}
use Rattle.desk_lang.specs.Places.{spelled, front_word, BeginAlike}
use Rattle.desk_lang.proofs.ReadWords.{IsUnbroken, quoted_at, plain_taken}

-- ---- blanks

abbrev pub AreBlank : List ℕ → Type 0
AreBlank [] = Unit {0}
AreBlank (b ∷ bs) = (is_blank b ≡ true) × AreBlank bs

-- a text's blanks, and what stands behind them
pub record Parted (text : List ℕ) : Type 0 where
  pub blanks : List ℕ
  pub tail : List ℕ
  pub parted : text ≡ blanks ++ tail
  pub are_blank : AreBlank blanks
  pub begins : (tail ≡ []) ⊎ (ends_word tail ≡ false)

pub blanks_parted : (text : List ℕ) → Parted text
blanks_parted [] = record { blanks = []; tail = []; parted = refl; are_blank = tt; begins = inl refl }
blanks_parted (b ∷ bs) =
    elim (cases_Bool (is_blank b)) [
      | inl blank ↦
          let more = blanks_parted bs in
          record { blanks = b ∷ more.blanks; tail = more.tail; parted = ap (λ t. b ∷ t) more.parted; are_blank = (blank, more.are_blank); begins = more.begins }
      | inr other ↦ record { blanks = []; tail = b ∷ bs; parted = refl; are_blank = tt; begins = inr other }
    ]

skipped : (place : ℕ) (blanks text : List ℕ) → AreBlank blanks → without_blanks place (blanks ++ text) ≡ without_blanks (place + length blanks) text
skipped place [] text h = let same : place ≡ place + 0 = omega arith in ap (λ p. without_blanks p text) same
skipped place (b ∷ blanks) text h =
    let same : place + 1 + length blanks ≡ place + length (b ∷ blanks) = omega arith in
    cond-true (is_blank b) (without_blanks (place + 1) (blanks ++ text)) (rest_at place (b ∷ blanks ++ text)) h.0
    ∙ skipped (place + 1) blanks text h.1
    ∙ ap (λ p. without_blanks p text) same

stopped : (place : ℕ) (text : List ℕ) → ends_word text ≡ false → without_blanks place text ≡ rest_at place text
stopped place [] h = absurd (true≢false h)
stopped place (b ∷ bs) h = cond-false (is_blank b) (without_blanks (place + 1) bs) (rest_at place (b ∷ bs)) h

-- the first word stands behind the blanks
pub first_at : (place : ℕ) (blanks tail : List ℕ) → AreBlank blanks → ends_word tail ≡ false → first_word (rest_at place (blanks ++ tail)) ≡ word_at (place + length blanks) tail
first_at place blanks tail are bare = ap word_of (skipped place blanks tail are ∙ stopped (place + length blanks) tail bare)

pub nothing_at : (place : ℕ) (blanks : List ℕ) → AreBlank blanks → first_word (rest_at place blanks) ≡ None
nothing_at place [] h = refl
nothing_at place (b ∷ blanks) h =
    ap word_of (cond-true (is_blank b) (without_blanks (place + 1) blanks) (rest_at place (b ∷ blanks)) h.0) ∙ nothing_at (place + 1) blanks h.1

-- ---- whole words

abbrev pub word_of_form : Form → ℕ → List ℕ → ℕ → List ℕ → PlainWord
word_of_form form place content size behind = record { place = place; form = form; bytes = content; behind = rest_at (place + size) behind }

-- how many quotes a word of the form has
abbrev pub quotes_of : Form → ℕ
quotes_of Plain = 0
quotes_of Quoted = 2
quotes_of Broken = 0

-- a whole word at the front of a text, which stays the word there wherever it ends
pub record Whole (form : Form) (text : List ℕ) : Type 0 where
  pub content : List ℕ
  pub word : List ℕ
  pub behind : List ℕ
  pub parted : text ≡ word ++ behind
  pub size : length word ≡ quotes_of form + length content
  pub ends : ends_word behind ≡ true
  pub bare : (other : List ℕ) → ends_word (word ++ other) ≡ false
  pub again : (place : ℕ) (other : List ℕ) → ends_word other ≡ true → word_at place (word ++ other) ≡ Some (word_of_form form place content (length word) other)

pub run_parted : (text : List ℕ) → All IsUnbroken (take (word_length text) text) × (ends_word (drop (word_length text) text) ≡ true)
run_parted [] = (All-nil IsUnbroken, refl)
run_parted (b ∷ bs) =
    let P : ℕ → Type 0 = λ n. All IsUnbroken (take n (b ∷ bs)) × (ends_word (drop n (b ∷ bs)) ≡ true) in
    elim (cases_Bool (is_blank b)) [
      | inl blank ↦ subst P (sym (cond-true (is_blank b) 0 (suc (word_length bs)) blank)) (All-nil IsUnbroken, blank)
      | inr other ↦
          let more = run_parted bs in
          subst P (sym (cond-false (is_blank b) 0 (suc (word_length bs)) other)) (All-cons IsUnbroken b (take (word_length bs) bs) other more.0, more.1)
    ]

pub plain_again : (place b : ℕ) (word other : List ℕ) → (b == 34) ≡ false → All IsUnbroken (b ∷ word) → ends_word other ≡ true
    → word_at place (b ∷ word ++ other) ≡ Some (word_of_form Plain place (b ∷ word) (length (b ∷ word)) other)
plain_again place b word other plain run e =
    ap Some (cond-false (b == 34) (quoted_word place (parted_at 34 (word ++ other))) (plain_word place (b ∷ word ++ other)) plain
    ∙ plain_taken place (b ∷ word) other run e)

plain_whole : (b : ℕ) (bs : List ℕ) → (b == 34) ≡ false → is_blank b ≡ false → Whole Plain (b ∷ bs)
plain_whole b bs plain other =
    let n = word_length bs in
    let run = run_parted bs in
    record {
      content = b ∷ take n bs;
      word = b ∷ take n bs;
      behind = drop n bs;
      parted = ap (λ t. b ∷ t) (sym (take-append-drop n bs));
      size = omega arith;
      ends = run.1;
      bare = λ _. other;
      again = λ place more e. plain_again place b (take n bs) more plain (All-cons IsUnbroken b (take n bs) other run.0) e;
    }

pub quoted_again : (place : ℕ) (content other : List ℕ) → All (λ b. b ≢ 34) content → ends_word other ≡ true
    → word_at place (quoted content ++ other) ≡ Some (word_of_form Quoted place content (length (quoted content)) other)
quoted_again place content other h e =
    let size : place + length content + 2 ≡ place + length (quoted content) = omega (arith, length-append content (34 ∷ [])) in
    ap (λ t. word_at place (34 ∷ t)) (append_assoc content (34 ∷ []) other)
    ∙ ap (λ parts. Some (quoted_word place parts)) (parted_here 34 content other h)
    ∙ ap Some (cond-true (ends_word other) (quoted_at place content other) (broken_word place) e)
    ∙ ap (λ p. Some (record { place = place; form = Quoted; bytes = content; behind = rest_at p other })) size

abbrev pub IsBroken : List ℕ → Type 0
IsBroken text = (place : ℕ) → word_at place text ≡ Some (broken_word place)

module _ (bs : List ℕ) where
  quote_ends : (parts : List ℕ × List ℕ) → parted_at 34 bs ≡ Some parts → IsPartedAt 34 bs parts → (Whole Quoted (34 ∷ bs)) ⊎ (IsBroken (34 ∷ bs))
  quote_ends parts e is =
      elim (cases_Bool (ends_word parts.1)) [
        | inl ends ↦
            inl (record {
              content = parts.0;
              word = quoted parts.0;
              behind = parts.1;
              parted = ap (λ t. 34 ∷ t) (is.0 ∙ sym (append_assoc parts.0 (34 ∷ []) parts.1));
              size = omega (arith, length-append parts.0 (34 ∷ []));
              ends = ends;
              bare = λ _. refl;
              again = λ place other e. quoted_again place parts.0 other is.1 e;
            })
        | inr goes_on ↦
            inr (λ place. ap (λ o. Some (quoted_word place o)) e ∙ ap Some (cond-false (ends_word parts.1) (quoted_at place parts.0 parts.1) (broken_word place) goes_on))
      ]

  behind_quote : (o : Option (List ℕ × List ℕ)) → parted_at 34 bs ≡ o → MatchOption o (All (λ b. b ≢ 34) bs) (IsPartedAt 34 bs) → (Whole Quoted (34 ∷ bs)) ⊎ (IsBroken (34 ∷ bs))
  behind_quote None e h = inr (λ place. ap (λ o. Some (quoted_word place o)) e)
  behind_quote (Some parts) e h = quote_ends parts e h

  -- a quote, with its end or without it
  quote_cases : (Whole Quoted (34 ∷ bs)) ⊎ (IsBroken (34 ∷ bs))
  quote_cases = behind_quote (parted_at 34 bs) refl (parted_first 34 bs)

-- a text that begins with no blank begins with a whole word, or with a quote without its end
pub front_cases : (text : List ℕ) → ends_word text ≡ false → (Whole Plain text) ⊎ ((Whole Quoted text) ⊎ (IsBroken text))
front_cases [] h = absurd (true≢false h)
front_cases (b ∷ bs) h =
    elim (cases_Bool (b == 34)) [
      | inl quote ↦ subst (λ c. (Whole Plain (c ∷ bs)) ⊎ ((Whole Quoted (c ∷ bs)) ⊎ (IsBroken (c ∷ bs)))) (sym (eqb-true b 34 quote)) (inr (quote_cases bs))
      | inr plain ↦ inl (plain_whole b bs plain h)
    ]

-- ---- what is known of the word by its form and content

-- the text's word, at this place, is of this form and content
abbrev pub IsWordAt : ℕ → Form → List ℕ → List ℕ → Type 0
IsWordAt place form content text = (behind : PlainRest) × (word_at place text ≡ Some (record { place = place; form = form; bytes = content; behind = behind }))

-- the word at the front, wherever the text stands
pub record Front (text : List ℕ) : Type 0 where
  pub form : Form
  pub content : List ℕ
  pub front : front_word text ≡ Some (form, content)
  pub at : (place : ℕ) → IsWordAt place form content text

pub whole_at : {form : Form} {text : List ℕ} (whole : Whole form text) (place : ℕ) → word_at place text ≡ Some (word_of_form form place whole.content (length whole.word) whole.behind)
whole_at whole place = ap (λ t. word_at place t) whole.parted ∙ whole.again place whole.behind whole.ends

abbrev pub whole_front : {form : Form} {text : List ℕ} → Whole form text → Front text
whole_front {form} {text} whole = record {
  form = form;
  content = whole.content;
  front = ap (λ o. option_map spelled o) (whole_at whole 1);
  at = λ place. (rest_at (place + length whole.word) whole.behind, whole_at whole place);
}

abbrev pub broken_front : {text : List ℕ} → IsBroken text → Front text
broken_front broken = record { form = Broken; content = []; front = ap (λ o. option_map spelled o) (broken 1); at = λ place. (rest_at place [], broken place) }

pub front_of : (text : List ℕ) → ends_word text ≡ false → Front text
front_of text h =
    elim (front_cases text h) [
      | inl plain ↦ whole_front plain
      | inr (inl quote) ↦ whole_front quote
      | inr (inr broken) ↦ broken_front broken
    ]

-- whether a word ends before the text, by the text's word
ends_of_word : Form → List ℕ → Bool
ends_of_word Plain [] = true
ends_of_word form content = false

ends_of : Option (Form × List ℕ) → Bool
ends_of None = true
ends_of (Some word) = ends_of_word word.0 word.1

ends_front : (text : List ℕ) → ends_word text ≡ ends_of (front_word text)
unfolding ends_of ends_of_word plain_whole
ends_front [] = refl
ends_front (b ∷ bs) =
    elim (cases_Bool (b == 34)) [
      | inl quote ↦ subst (λ c. ends_word (c ∷ bs) ≡ ends_of (front_word (c ∷ bs))) (sym (eqb-true b 34 quote)) at_quote
      | inr plain ↦ elim (cases_Bool (is_blank b)) [ inl blank ↦ blank ∙ sym (at_blank plain blank) | inr other ↦ other ∙ sym (ap (λ o. ends_of (option_map spelled o)) (whole_at (plain_whole b bs plain other) 1)) ]
    ]
  where
    at_quote : ends_word (34 ∷ bs) ≡ ends_of (front_word (34 ∷ bs))
    at_quote =
        elim (quote_cases bs) [
          | inl whole ↦ sym (ap (λ o. ends_of (option_map spelled o)) (whole_at whole 1))
          | inr broken ↦ sym (ap (λ o. ends_of (option_map spelled o)) (broken 1))
        ]

    at_blank : (b == 34) ≡ false → is_blank b ≡ true → ends_of (front_word (b ∷ bs)) ≡ true
    at_blank plain blank =
        ap (λ w. ends_of (Some (spelled w))) (cond-false (b == 34) (quoted_word 1 (parted_at 34 bs)) (plain_word 1 (b ∷ bs)) plain)
        ∙ ap (λ n. ends_of (Some (Plain, take n (b ∷ bs)))) (cond-true (is_blank b) 0 (suc (word_length bs)) blank)

-- texts that begin alike are both bare, or neither is
pub alike_ends : (text other : List ℕ) → BeginAlike text other → ends_word text ≡ ends_word other
alike_ends text other h = ends_front text ∙ ap ends_of h ∙ sym (ends_front other)

-- the same words at the same place
pub nothing_alike : (other : List ℕ) → BeginAlike [] other → other ≡ []
nothing_alike [] h = refl
nothing_alike (b ∷ bs) h = absurd (none-some _ h)
