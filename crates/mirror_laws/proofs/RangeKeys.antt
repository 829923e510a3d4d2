-- The key of a piece and of a sub, as their first attributes spell it.
use Rattle.std.proofs.Common.{◌≡◌, ◌≢◌, ℕ, ◌-◌, ◌<◌, ◌&&◌, ◌==◌, nat_le, cond, List, [], ◌∷◌, ◌++◌, length, take, get_or, codes, Option, None, Some, refl, sym, ap, ◌∙◌, arith, append_assoc, length-append, eq-eqb, le-leb}
use Rattle.std.proofs.lemmas.Bool.{cond-true, and_from}
use Rattle.std.proofs.lemmas.List.{get_or_push}
use Rattle.std.proofs.lemmas.List.Elements.{All-nil, All-cons, All-append}
use Rattle.std.proofs.Math.Seq.{take-append_seam}
use Rattle.std.specs.Option.{option_and_then, is_some}
use Rattle.num_range.specs.declared.space.Space.{Space}
use Rattle.num_range.specs.Space.{space_rank, same_space}
use Rattle.num_range.specs.Number.{PlainNumber}
use Rattle.num_range.specs.Range.{PlainRange, IsRange}
use Rattle.addr_text.specs.Number.{text_of}
use Rattle.addr_text.specs.Reading.{◌>>=◌, parted_at, number_of, range_between, whole_block_of}
use Rattle.desk_text.specs.ReplyText.{spaced_range}
use Rattle.rpsl_text.specs.Lines.{words, with_word, with_words}
use Rattle.mirror_core.specs.Keys.{without_last_blank, without_first_blank, spaced_range_of, range_key, range_key_in}
use Rattle.mirror_laws.proofs.Words.{IsWord, IsWordByte, word_first, word_alone}
use Rattle.mirror_laws.proofs.Framing.{parted}
use Rattle.mirror_laws.proofs.NumberTexts.{key_word, no_dash, number_key, NumberLaws, number_read}

-- ---- a value as it is read

with_one : (value word : List ℕ) → 0 < length value → with_word value word ≡ value ++ 32 ∷ word
with_one [] word some = absurd (omega (arith, some))
with_one (b ∷ value) word some = refl

pub one_word : (text : List ℕ) → IsWord text → with_words [] (words text) ≡ text
one_word text h = ap (with_words []) (word_alone text h)

dash : IsWord (45 ∷ [])
dash = record { some = omega arith; bytes = All-cons IsWordByte 45 [] (omega arith) (All-nil IsWordByte) }

spaced_same : (first last : List ℕ) → IsWord first → IsWord last → with_words [] (words (first ++ 32 ∷ 45 ∷ 32 ∷ last)) ≡ first ++ 32 ∷ 45 ∷ 32 ∷ last
spaced_same first last f l =
    ap (with_words [])
    (word_first first (45 ∷ 32 ∷ last) f
    ∙ ap (λ (ws : List (List ℕ)). first ∷ ws) (word_first (45 ∷ []) last dash ∙ ap (λ (ws : List (List ℕ)). (45 ∷ []) ∷ ws) (word_alone last l)))
    ∙ ap (λ (v : List ℕ). with_word v last) (with_one first (45 ∷ []) f.some)
    ∙ with_one (first ++ 32 ∷ 45 ∷ []) last (omega (arith, length-append first (32 ∷ 45 ∷ [])))
    ∙ append_assoc first (32 ∷ 45 ∷ []) (32 ∷ last)

-- ---- a range

abbrev first_text : PlainRange → List ℕ
first_text r = text_of r.space r.first

abbrev last_text : PlainRange → List ℕ
last_text r = text_of r.space r.last

spelled : (r : PlainRange) → spaced_range r ≡ first_text r ++ 32 ∷ 45 ∷ 32 ∷ last_text r
spelled r = append_assoc (first_text r) (codes " - ") (last_text r)

pub range_same : (r : PlainRange) → IsRange r → with_words [] (words (spaced_range r)) ≡ spaced_range r
range_same r h =
    ap (λ (t : List ℕ). with_words [] (words t)) (spelled r)
    ∙ spaced_same (first_text r) (last_text r) (key_word _ (number_key r.space r.first (omega (arith, h)))) (key_word _ (number_key r.space r.last h.1))
    ∙ sym (spelled r)

last_blank_off : (text : List ℕ) → without_last_blank (text ++ 32 ∷ []) ≡ text
last_blank_off text =
    let count : length (text ++ 32 ∷ []) - 1 ≡ length text = omega (arith, length-append text (32 ∷ [])) in
    ap (λ (n : ℕ). cond (get_or (text ++ 32 ∷ []) n 0 == 32) (take n (text ++ 32 ∷ [])) (text ++ 32 ∷ [])) count
    ∙ cond-true (get_or (text ++ 32 ∷ []) (length text) 0 == 32) (take (length text) (text ++ 32 ∷ [])) (text ++ 32 ∷ [])
    (eq-eqb _ 32 (get_or_push text 32 0 (length text) refl))
    ∙ take-append_seam text (32 ∷ [])

parts_are : (r : PlainRange) → IsRange r → parted_at 45 (spaced_range r) ≡ Some (first_text r ++ 32 ∷ [], 32 ∷ last_text r)
parts_are r h =
    ap (parted_at 45) (spelled r ∙ sym (append_assoc (first_text r) (32 ∷ []) (45 ∷ 32 ∷ last_text r)))
    ∙ parted (first_text r ++ 32 ∷ []) (32 ∷ last_text r)
    (All-append (λ b. b ≢ 45) (first_text r) (32 ∷ []) (no_dash _ (number_key r.space r.first (omega (arith, h)))) (All-cons (λ b. b ≢ 45) 32 [] (omega arith) (All-nil (λ b. b ≢ 45))))

abbrev one_space : PlainNumber → PlainNumber → Option PlainRange
one_space first last = cond (same_space first.space last.space && nat_le first.value last.value) (Some (range_between first last)) None

module _ (laws : NumberLaws) (r : PlainRange) (h : IsRange r) where
  spaced_read : spaced_range_of (spaced_range r) ≡ Some r
  unfolding spaced_range_of
  spaced_read =
      let low : PlainNumber = record { space = r.space; value = r.first } in
      let high : PlainNumber = record { space = r.space; value = r.last } in
      ap (λ (o : Option (List ℕ × List ℕ)). o >>= λ parts. number_of (without_last_blank parts.0) >>= λ first. number_of (without_first_blank parts.1) >>= λ last. one_space first last) (parts_are r h)
      ∙ ap (λ (o : Option PlainNumber). o >>= λ first. number_of (last_text r) >>= λ last. one_space first last) (ap number_of (last_blank_off (first_text r)) ∙ number_read laws low (omega (arith, h)))
      ∙ ap (λ (o : Option PlainNumber). o >>= λ last. one_space low last) (number_read laws high h.1)
      ∙ cond-true (same_space r.space r.space && nat_le r.first r.last) (Some (range_between low high)) None
      (and_from (same_space r.space r.space) (nat_le r.first r.last) (eq-eqb (space_rank r.space) (space_rank r.space) refl) (le-leb r.first r.last h.0))

  pub range_read : range_key (spaced_range r) ≡ Some r
  range_read = ap (λ (o : Option (List ℕ × List ℕ)). cond (is_some o) (spaced_range_of (spaced_range r)) (whole_block_of (spaced_range r))) (parts_are r h) ∙ spaced_read

  pub range_read_in : (space : Space) → r.space ≡ space → range_key_in space (spaced_range r) ≡ Some r
  range_read_in space is =
      ap (option_and_then (λ (s : PlainRange). cond (same_space s.space space) (Some s) None)) range_read
      ∙ cond-true (same_space r.space space) (Some r) None (eq-eqb (space_rank r.space) (space_rank space) (ap space_rank is))
