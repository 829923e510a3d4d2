-- A text whose words stand as those of a value goes on with a value by itself.
use Rattle.std.proofs.Common.{◌≡◌, ◌≢◌, ℕ, ◌<◌, Bool, true, false, not, ◌==◌, ◌&&◌, ◌||◌, nat_lt, List, [], ◌∷◌, ◌++◌, length, take, filter, get_or, All, Option, None, Some, refl, sym, ap, ◌∙◌, inl, inr, arith, append_assoc, true≢false, ne_eqb}
use Rattle.std.proofs.lemmas.Bool.{and_parts, eqb-true, cases_Bool, cond-true, cond-false}
use Rattle.std.proofs.lemmas.Bool.Decides.{nat_tests}
use Rattle.std.proofs.lemmas.List.{take_all}
use Rattle.std.proofs.lemmas.List.Elements.{All-nil, All-cons, All-get_or}
use Rattle.std.proofs.lemmas.List.Sums.{prefix_len_is}
use Rattle.std.specs.List.{prefix_len, slice_split, onto_first}
use Rattle.rpsl_text.specs.Lines.{is_blank, before_comment, words, with_word, with_words, continued}
use Rattle.rpsl_text.specs.Words.{is_spaced, spaced_value}

-- ---- what the test says of the first byte

blank_then : (inside : Bool) (b : ℕ) (bs : List ℕ) → (b == 32) ≡ true → is_spaced inside (b ∷ bs) ≡ true → (inside ≡ true) × (is_spaced false bs ≡ true)
blank_then inside b bs blank h =
    and_parts inside (is_spaced false bs)
    (sym (cond-true (b == 32) (inside && is_spaced false bs) (not (b == 9 || b == 35) && is_spaced true bs) blank) ∙ h)

other_then : (inside : Bool) (b : ℕ) (bs : List ℕ) → (b == 32) ≡ false → is_spaced inside (b ∷ bs) ≡ true → (not (b == 9 || b == 35) ≡ true) × (is_spaced true bs ≡ true)
other_then inside b bs other h =
    and_parts (not (b == 9 || b == 35)) (is_spaced true bs)
    (sym (cond-false (b == 32) (inside && is_spaced false bs) (not (b == 9 || b == 35) && is_spaced true bs) other) ∙ h)

-- ---- no comment

no_hash : (inside : Bool) (text : List ℕ) → is_spaced inside text ≡ true → All (λ b. b ≢ 35) text
no_hash inside [] h = All-nil (λ b. b ≢ 35)
no_hash inside (b ∷ bs) h =
    elim (cases_Bool (b == 32)) [
      | inl blank ↦ All-cons (λ b. b ≢ 35) b bs (λ e. grind (arith, nat_tests)) (no_hash false bs (blank_then inside b bs blank h).1)
      | inr other ↦
          let parts = other_then inside b bs other h in
          let test = parts.0 in
          All-cons (λ b. b ≢ 35) b bs (λ e. grind (arith, nat_tests)) (no_hash true bs parts.1)
    ]

no_comment : (text : List ℕ) → All (λ b. b ≢ 35) text → before_comment text ≡ text
no_comment text h =
    let whole : prefix_len (λ b. not (b == 35)) text ≡ length text =
    prefix_len_is (λ b. not (b == 35)) text (length text) 0 (omega arith)
    (λ k less. ap not (ne_eqb (get_or text k 0) 35 (All-get_or (λ b. b ≢ 35) text k 0 less h))) (λ less. absurd (omega (arith, less))) in
    ap (λ n. take n text) whole ∙ take_all (length text) text (omega arith)

-- ---- words

abbrev is_word : List ℕ → Bool
is_word word = nat_lt 0 (length word)

-- the first part goes on with what stands before it
abbrev onto : List ℕ → List (List ℕ) → List (List ℕ)
onto front [] = front ∷ []
onto front (part ∷ parts) = (front ++ part) ∷ parts

onto_next : (front : List ℕ) (b : ℕ) (parts : List (List ℕ)) → onto front (onto_first b parts) ≡ onto (front ++ b ∷ []) parts
onto_next front b [] = refl
onto_next front b (part ∷ parts) = ap (λ (p : List ℕ). p ∷ parts) (sym (append_assoc front (b ∷ []) part))

onto_one : (b : ℕ) (parts : List (List ℕ)) → onto_first b parts ≡ onto (b ∷ []) parts
onto_one b [] = refl
onto_one b (part ∷ parts) = refl

kept : (value word : List ℕ) (b : ℕ) (parts : List (List ℕ)) → with_words value (filter is_word ((b ∷ word) ∷ parts)) ≡ with_words (with_word value (b ∷ word)) (filter is_word parts)
kept value word b parts = ap (with_words value) (cond-true (is_word (b ∷ word)) ((b ∷ word) ∷ filter is_word parts) (filter is_word parts) (grind (arith, nat_tests)))

twice : (value word more : List ℕ) (b : ℕ) → with_word (with_word value (b ∷ word)) more ≡ with_word value (b ∷ (word ++ 32 ∷ more))
twice [] word more b = refl
twice (a ∷ value) word more b = ap (λ (t : List ℕ). a ∷ t) (append_assoc value (32 ∷ b ∷ word) (32 ∷ more))

-- what a text says of a value, where no word has begun and where one has
record Joined (text : List ℕ) : Type 0 where
  outside : is_spaced false text ≡ true → (value : List ℕ) → with_words value (words text) ≡ with_word value text
  inside : is_spaced true text ≡ true → (value word : List ℕ) (b : ℕ)
      → with_words value (filter is_word (onto (b ∷ word) (slice_split is_blank text))) ≡ with_word value (b ∷ (word ++ text))

at_blank : (x : ℕ) (xs : List ℕ) → (x == 32) ≡ true → Joined xs → Joined (x ∷ xs)
at_blank x xs blank more = record {
  outside = λ h value. absurd (true≢false (sym (blank_then false x xs blank h).0));
  inside = λ h value word b.
      let rest = (blank_then true x xs blank h).1 in
      let split : slice_split is_blank (x ∷ xs) ≡ [] ∷ slice_split is_blank xs =
      cond-true (is_blank x) ([] ∷ slice_split is_blank xs) (onto_first x (slice_split is_blank xs)) (grind (arith, nat_tests)) in
      ap (λ (parts : List (List ℕ)). with_words value (filter is_word (onto (b ∷ word) parts))) split
      ∙ kept value (word ++ []) b (slice_split is_blank xs)
      ∙ more.outside rest (with_word value (b ∷ (word ++ [])))
      ∙ twice value (word ++ []) xs b
      ∙ ap (λ (t : List ℕ). with_word value (b ∷ t)) (append_assoc word [] (32 ∷ xs) ∙ ap (λ (y : ℕ). word ++ y ∷ xs) (sym (eqb-true x 32 blank)));
}

at_other : (x : ℕ) (xs : List ℕ) → (x == 32) ≡ false → Joined xs → Joined (x ∷ xs)
at_other x xs other more = record {
  outside = λ h value.
      let parts = other_then false x xs other h in
      ap (λ (p : List (List ℕ)). with_words value (filter is_word p)) (split parts.0 ∙ onto_one x (slice_split is_blank xs))
      ∙ more.inside parts.1 value [] x;
  inside = λ h value word b.
      let parts = other_then true x xs other h in
      ap (λ (p : List (List ℕ)). with_words value (filter is_word (onto (b ∷ word) p))) (split parts.0)
      ∙ ap (λ (p : List (List ℕ)). with_words value (filter is_word p)) (onto_next (b ∷ word) x (slice_split is_blank xs))
      ∙ more.inside parts.1 value (word ++ x ∷ []) b
      ∙ ap (λ (t : List ℕ). with_word value (b ∷ t)) (append_assoc word (x ∷ []) xs);
}
  where
    split : not (x == 9 || x == 35) ≡ true → slice_split is_blank (x ∷ xs) ≡ onto_first x (slice_split is_blank xs)
    split test = cond-false (is_blank x) ([] ∷ slice_split is_blank xs) (onto_first x (slice_split is_blank xs)) (grind (arith, nat_tests))

joined : (text : List ℕ) → Joined text
joined [] = record {
  outside = λ h. absurd (cc);
  inside = λ h value word b. kept value (word ++ []) b [];
}
joined (x ∷ xs) =
    elim (cases_Bool (x == 32)) [
      | inl blank ↦ at_blank x xs blank (joined xs)
      | inr other ↦ at_other x xs other (joined xs)
    ]

spaced : (value text : List ℕ) → is_spaced false text ≡ true → continued value (32 ∷ text) ≡ with_word value text
spaced value text h =
    ap (λ (t : List ℕ). with_words value (words t)) (no_comment (32 ∷ text) (All-cons (λ b. b ≢ 35) 32 text (omega arith) (no_hash false text h)))
    ∙ (joined text).outside h value

none_is_some : (rest : List ℕ) → ◌≡◌ {A = Option (List ℕ)} None (Some rest) → ⊥
none_is_some rest e = cc

-- a value goes on with such a text at once
pub continues : (value text rest : List ℕ) → spaced_value text ≡ Some rest → continued value text ≡ with_word value rest
continues value [] rest e = absurd (none_is_some rest e)
continues value (b ∷ bs) rest e =
    elim (cases_Bool (b == 32 && is_spaced false bs)) [
      | inl both ↦
          let parts = and_parts (b == 32) (is_spaced false bs) both in
          let same : Some bs ≡ Some rest = sym (cond-true (b == 32 && is_spaced false bs) (Some bs) None both) ∙ e in
          let rest_is : bs ≡ rest = cc in
          ap (λ (x : ℕ). continued value (x ∷ bs)) (eqb-true b 32 parts.0) ∙ spaced value bs parts.1 ∙ ap (with_word value) rest_is
      | inr other ↦ absurd (none_is_some rest (sym (cond-false (b == 32 && is_spaced false bs) (Some bs) None other) ∙ e))
    ]
