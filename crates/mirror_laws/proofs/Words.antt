-- Words between blanks, and decimals as words.
use Rattle.std.proofs.Common.{◌≡◌, ◌≢◌, ℕ, ◌^◌, ◌<◌, ◌≤◌, Bool, true, false, ◌&&◌, ◌==◌, nat_lt, nat_le, List, [], ◌∷◌, ◌++◌, length, filter, All, decimal, bytes_eq, refl, ap, ◌∙◌, arith, lt-ltb, ne_eqb, length-append}
use Rattle.std.proofs.lemmas.Bool.{and_parts, or_from, cond-true}
use Rattle.std.proofs.lemmas.Bool.Decides.{nat_tests}
use Rattle.std.proofs.lemmas.Fmt.{decimal_is_IsNumeral, decimal_nonempty}
use Rattle.std.proofs.lemmas.List.Elements.{All-nil, All-cons, All-append, All-weaker, All-from_get_or}
use Rattle.std.proofs.lemmas.List.Splits.{slice_split_none, slice_split_at}
use Rattle.std.proofs.lemmas.Slice.Eq.{bytes_eq-Decides}
use Rattle.std.proofs.lemmas.Str.Parse.{digit_at}
use Rattle.std.specs.List.{list_all}
use Rattle.rpsl_text.specs.Forms.{is_source_byte, is_source}
use Rattle.rpsl_text.specs.Lines.{is_blank, words}

abbrev pub IsWordByte : ℕ → Type 0
IsWordByte b = 33 ≤ b

-- bytes of which none is a blank
pub record IsWord (word : List ℕ) : Type 0 where
  pub some : 0 < length word
  pub bytes : All IsWordByte word

abbrev has_bytes : List ℕ → Bool
has_bytes word = nat_lt 0 (length word)

no_blank : (b : ℕ) → IsWordByte b → is_blank b ≡ false
no_blank b h = or_from (b == 32) (b == 9) (ne_eqb b 32 (λ e. omega arith)) (ne_eqb b 9 (λ e. omega arith))

no_blanks : (word : List ℕ) → IsWord word → All (λ b. is_blank b ≡ false) word
no_blanks word h = All-weaker IsWordByte (λ b. is_blank b ≡ false) no_blank word h.bytes

pub word_first : (word more : List ℕ) → IsWord word → words (word ++ 32 ∷ more) ≡ word ∷ words more
word_first word more h =
    ap (filter has_bytes) (slice_split_at is_blank word 32 more (no_blanks word h) refl)
    ∙ cond-true (has_bytes word) (word ∷ words more) (words more) (lt-ltb 0 (length word) h.some)

pub word_alone : (word : List ℕ) → IsWord word → words word ≡ word ∷ []
word_alone word h =
    ap (filter has_bytes) (slice_split_none is_blank word (no_blanks word h)) ∙ cond-true (has_bytes word) (word ∷ []) [] (lt-ltb 0 (length word) h.some)

-- two words with another byte between them
pub word_between : (front back : List ℕ) (b : ℕ) → IsWordByte b → IsWord front → IsWord back → IsWord (front ++ b ∷ back)
word_between front back b h f k = record {
  some = omega (arith, length-append front (b ∷ back), f.some);
  bytes = All-append IsWordByte front (b ∷ back) f.bytes (All-cons IsWordByte b back h k.bytes);
}

pub bytes_same : (bytes : List ℕ) → bytes_eq bytes bytes ≡ true
bytes_same bytes = (bytes_eq-Decides bytes bytes).1 refl

-- ---- sources

source_byte : (b : ℕ) → is_source_byte b ≡ true → IsWordByte b
source_byte b h = grind (arith, nat_tests)

source_bytes : (source : List ℕ) → list_all is_source_byte source ≡ true → All IsWordByte source
source_bytes [] h = All-nil IsWordByte
source_bytes (b ∷ source) h =
    let parts = and_parts (is_source_byte b) (list_all is_source_byte source) h in
    All-cons IsWordByte b source (source_byte b parts.0) (source_bytes source parts.1)

pub record IsSource (source : List ℕ) : Type 0 where
  pub word : IsWord source
  pub short : length source ≤ 24

pub source_is : (source : List ℕ) → is_source source ≡ true → IsSource source
source_is source h =
    let all = and_parts (nat_le 1 (length source) && nat_le (length source) 24) (list_all is_source_byte source) h in
    let ends = and_parts (nat_le 1 (length source)) (nat_le (length source) 24) all.0 in
    record { word = record { some = grind (arith, nat_tests); bytes = source_bytes source all.1 }; short = grind (arith, nat_tests) }

-- ---- decimals

abbrev pub IsDigitByte : ℕ → Type 0
IsDigitByte b = (48 ≤ b) × (b ≤ 57)

pub decimal_bytes : (n : ℕ) → n < 2 ^ 64 → All IsDigitByte (decimal n)
decimal_bytes n fits =
    All-from_get_or IsDigitByte (decimal n) 0 λ i h.
    let digit = digit_at (decimal n) i (decimal_is_IsNumeral n fits).0.1 h in
    (omega arith, omega arith)

pub decimal_word : (n : ℕ) → n < 2 ^ 64 → IsWord (decimal n)
decimal_word n fits = record {
  some = decimal_nonempty n fits;
  bytes = All-weaker IsDigitByte IsWordByte (λ b h. omega (arith, h)) (decimal n) (decimal_bytes n fits);
}

pub decimal_no_dash : (n : ℕ) → n < 2 ^ 64 → All (λ b. b ≢ 45) (decimal n)
decimal_no_dash n fits = All-weaker IsDigitByte (λ b. b ≢ 45) (λ b h e. omega (arith, h)) (decimal n) (decimal_bytes n fits)

pub decimal_no_dot : (n : ℕ) → n < 2 ^ 64 → All (λ b. b ≢ 46) (decimal n)
decimal_no_dot n fits = All-weaker IsDigitByte (λ b. b ≢ 46) (λ b h e. omega (arith, h)) (decimal n) (decimal_bytes n fits)
