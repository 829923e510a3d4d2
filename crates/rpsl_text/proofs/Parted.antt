-- The first line of a text, and its first word.
use Rattle.std.proofs.Common.{◌≡◌, ◌≢◌, ℕ, ◌+◌, ◌<◌, ◌≤◌, Bool, true, false, not, ◌==◌, nat_lt, List, [], ◌∷◌, ◌++◌, length, take, drop, filter, get_or, All, Option, Some, None, refl, sym, ap, ◌∙◌, arith, inl, inr, true≢false, length-take}
use Rattle.std.proofs.lemmas.Bool.{cases_Bool, cond-true, cond-false}
use Rattle.std.proofs.lemmas.Bool.Decides.{nat_tests}
use Rattle.std.proofs.lemmas.List.Elements.{All-weaker, All-from_get_or}
use Rattle.std.proofs.lemmas.List.Sums.{prefix_len_passes}
use Rattle.std.proofs.lemmas.List.Splits.{slice_split_none, slice_split_at, slice_split_first, length-slice_split}
use Rattle.std.specs.List.{slice_split, position, position_or_len}
use Rattle.std.specs.Str.Lines.{lines, lines_of_parts, strip_carriage_return}
use Rattle.rpsl_text.specs.Lines.{is_blank, words}
use Rattle.rpsl_text.specs.Words.{BeginsWithWord}

-- ---- places

pub place : (p : ℕ → Bool) (xs : List ℕ) (i : ℕ) → position p xs ≡ Some i → (position_or_len p xs ≡ i) × (position_or_len p xs < length xs)
place p xs i e =
    elim (cases_Bool (nat_lt (position_or_len p xs) (length xs))) [
      | inl less ↦
          let same : Some (position_or_len p xs) ≡ Some i = sym (cond-true (nat_lt (position_or_len p xs) (length xs)) (Some (position_or_len p xs)) None less) ∙ e in
          (cc, grind (arith, nat_tests))
      | inr more ↦
          let same : ◌≡◌ {A = Option ℕ} None (Some i) = sym (cond-false (nat_lt (position_or_len p xs) (length xs)) (Some (position_or_len p xs)) None more) ∙ e in
          absurd (cc)
    ]

nowhere : (p : ℕ → Bool) (xs : List ℕ) → position p xs ≡ None → length xs ≤ position_or_len p xs
nowhere p xs e =
    elim (cases_Bool (nat_lt (position_or_len p xs) (length xs))) [
      | inl less ↦
          let same : Some (position_or_len p xs) ≡ None = sym (cond-true (nat_lt (position_or_len p xs) (length xs)) (Some (position_or_len p xs)) None less) ∙ e in
          absurd (cc)
      | inr more ↦ grind (arith, nat_tests)
    ]

all_fail : (p : ℕ → Bool) (xs : List ℕ) → length xs ≤ position_or_len p xs → All (λ x. p x ≡ false) xs
all_fail p xs h =
    All-from_get_or (λ x. p x ≡ false) xs 0 λ k less.
    fails (p (get_or xs k 0)) (prefix_len_passes (λ x. not (p x)) xs k 0 (omega (arith, h, less)))
  where
    fails : (b : Bool) → not b ≡ true → b ≡ false
    fails true h = absurd (true≢false (sym h))
    fails false h = refl

-- ---- lines

parts_left : (x : List ℕ) (parts : List (List ℕ)) → 0 < length parts → lines_of_parts (x ∷ parts) ≡ strip_carriage_return x ∷ lines_of_parts parts
parts_left x [] h = absurd (omega (arith, h))
parts_left x (y ∷ more) h = refl

pub line_parted : (text line rest : List ℕ) → text ≡ line ++ 10 ∷ rest → All (λ b. b ≢ 10) line → lines text ≡ strip_carriage_return line ∷ lines rest
line_parted text line rest e none =
    ap lines e
    ∙ ap lines_of_parts (slice_split_at (λ b. b == 10) line 10 rest (All-weaker (λ b. b ≢ 10) (λ b. (b == 10) ≡ false) (λ b h. grind (arith, nat_tests)) line none) refl)
    ∙ parts_left line (slice_split (λ b. b == 10) rest) (omega (arith, length-slice_split (λ b. b == 10) rest))

pub line_last : (text : List ℕ) → 0 < length text → All (λ b. b ≢ 10) text → lines text ≡ text ∷ []
line_last [] some none = absurd (omega (arith, some))
line_last (x ∷ xs) some none =
    ap lines_of_parts (slice_split_none (λ b. b == 10) (x ∷ xs) (All-weaker (λ b. b ≢ 10) (λ b. (b == 10) ≡ false) (λ b h. grind (arith, nat_tests)) (x ∷ xs) none))
    ∙ cond-false (length (x ∷ xs) == 0) [] ((x ∷ xs) ∷ []) (grind (arith, nat_tests))

-- ---- words

abbrev is_word : List ℕ → Bool
is_word word = nat_lt 0 (length word)

pub word_parted : (text : List ℕ) (i : ℕ) → BeginsWithWord text → position is_blank text ≡ Some i → words text ≡ take i text ∷ words (drop (i + 1) text)
word_parted [] i begins e = absurd (cc)
word_parted (x ∷ xs) i begins e =
    let here = place is_blank (x ∷ xs) i e in
    let later : position_or_len is_blank (x ∷ xs) ≡ 1 + position_or_len is_blank xs = cond-true (not (is_blank x)) (1 + position_or_len is_blank xs) 0 (ap not begins) in
    let some : 0 < length (take i (x ∷ xs)) = omega (arith, here.0, here.1, later, length-take i (x ∷ xs)) in
    let parts : slice_split is_blank (x ∷ xs) ≡ take i (x ∷ xs) ∷ slice_split is_blank (drop (i + 1) (x ∷ xs)) =
    slice_split_first is_blank (x ∷ xs) 0 here.1
    ∙ ap (λ n. take n (x ∷ xs) ∷ slice_split is_blank (drop (n + 1) (x ∷ xs))) here.0 in
    ap (filter is_word) parts
    ∙ cond-true (is_word (take i (x ∷ xs))) (take i (x ∷ xs) ∷ words (drop (i + 1) (x ∷ xs))) (words (drop (i + 1) (x ∷ xs))) (grind (arith, nat_tests))

pub word_last : (text : List ℕ) → BeginsWithWord text → 0 < length text → position is_blank text ≡ None → words text ≡ text ∷ []
word_last [] begins some e = absurd (omega (arith, some))
word_last (x ∷ xs) begins some e =
    ap (filter is_word) (slice_split_none is_blank (x ∷ xs) (all_fail is_blank (x ∷ xs) (nowhere is_blank (x ∷ xs) e)))
    ∙ cond-true (is_word (x ∷ xs)) ((x ∷ xs) ∷ []) [] (grind (arith, nat_tests))
