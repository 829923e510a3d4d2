-- The text of a number is one word without `-`, and is read again.
use Rattle.std.proofs.Common.{◌≡◌, ◌≢◌, ℕ, zero, suc, ◌+◌, ◌^◌, ◌<◌, ◌≤◌, ltb, List, [], ◌∷◌, ◌++◌, length, take, drop, flat_map, get_or, All, codes, decimal, Option, None, Some, inl, inr, ap, arith, length-append}
use Rattle.std.proofs.lemmas.Bool.{cond_both}
use Rattle.std.proofs.lemmas.List.Elements.{All-cons, All-weaker}
use Rattle.std.proofs.NetLemmas.Alphabet.{IsDigitOrDot, IsHexOrColon, All-ipv4_text, All-hex_groups_text}
use Rattle.std.specs.Int.{w32, to_be_bytes}
use Rattle.std.specs.Net.Text.{dotted_text, hex, groups_text, longest_zero_run, compressed_text, hex_groups_text}
use Rattle.num_range.specs.declared.space.Space.{Space}
use Rattle.num_range.specs.declared.space.Space.TheVariants.{Asn, Ipv4, Ipv6}
use Rattle.num_range.specs.Space.{top_of}
use Rattle.num_range.specs.Number.{PlainNumber, IsNumber}
use Rattle.addr_text.specs.Address.{groups_of}
use Rattle.addr_text.specs.Number.{SpellsNumber, text_of, number_text}
use Rattle.addr_text.specs.Reading.{IsSpelled, number_of}
use Rattle.mirror_laws.proofs.Words.{IsWordByte, IsWord, IsDigitByte, decimal_bytes}

-- ---- its bytes

-- neither a blank nor `-`
abbrev pub IsKeyByte : ℕ → Type 0
IsKeyByte b = 46 ≤ b

pub record IsKeyText (text : List ℕ) : Type 0 where
  pub some : 0 < length text
  pub bytes : All IsKeyByte text

pub key_word : (text : List ℕ) → IsKeyText text → IsWord text
key_word text h = record { some = h.some; bytes = All-weaker IsKeyByte IsWordByte (λ b k. omega arith) text h.bytes }

pub no_dash : (text : List ℕ) → IsKeyText text → All (λ b. b ≢ 45) text
no_dash text h = All-weaker IsKeyByte (λ b. b ≢ 45) (λ b k e. omega arith) text h.bytes

-- each number of the list is below the bound, in a record so that antt reads the list off a goal
record Each (bound : ℕ) (xs : List ℕ) : Type 0 where
  at : (k : ℕ) → get_or xs k 0 < bound

cons : {bound x : ℕ} {xs : List ℕ} → x < bound → Each bound xs → Each bound (x ∷ xs)
cons {bound} {x} {xs} h more =
    record { at = λ k. elim k as (λ j. get_or (x ∷ xs) j 0 < bound) [ zero ↦ h | suc j ↦ more.at j ] }

nil : (bound : ℕ) → 0 < bound → Each bound []
nil bound h = record { at = λ _. h }

four_bytes : (value : ℕ) → Each (2 ^ 8) (to_be_bytes w32 value)
four_bytes value = cons (omega arith) (cons (omega arith) (cons (omega arith) (cons (omega arith) (nil _ (omega arith)))))

eight_groups : (value : ℕ) → Each (2 ^ 16) (groups_of value)
eight_groups value =
    cons (omega arith) (cons (omega arith) (cons (omega arith) (cons (omega arith) (cons (omega arith) (cons (omega arith) (cons (omega arith) (cons (omega arith) (nil _ (omega arith)))))))))

digit_or_dot : (b : ℕ) → IsDigitOrDot b → IsKeyByte b
digit_or_dot b (inl h) = omega arith
digit_or_dot b (inr h) = omega arith

hex_or_colon : (b : ℕ) → IsHexOrColon b → IsKeyByte b
hex_or_colon b (inl h) = omega arith
hex_or_colon b (inr h) = omega arith

groups_some : (x y : ℕ) (xs : List ℕ) → 0 < length (groups_text (x ∷ y ∷ xs))
groups_some x y xs =
    let both = length-append (hex x) (flat_map (λ t. codes ":" ++ hex t) (y ∷ xs)) in
    let first = length-append (codes ":" ++ hex y) (flat_map (λ t. codes ":" ++ hex t) xs) in
    omega (arith, both, first)

compressed_some : (x y : ℕ) (xs : List ℕ) (run : ℕ × ℕ) → 0 < length (compressed_text (x ∷ y ∷ xs) run)
compressed_some x y xs run =
    let all : List ℕ = x ∷ y ∷ xs in
    let one = length-append (groups_text (take run.0 all) ++ codes "::") (groups_text (drop (run.0 + run.1) all)) in
    let two = length-append (groups_text (take run.0 all)) (codes "::") in
    cond_both (ltb 1 run.1) (groups_text (take run.0 all) ++ codes "::" ++ groups_text (drop (run.0 + run.1) all)) (groups_text all)
    (λ (t : List ℕ). 0 < length t) (λ _. omega (arith, one, two)) (λ _. groups_some x y xs)

hex_some : (x y : ℕ) (xs : List ℕ) → 0 < length (hex_groups_text (x ∷ y ∷ xs))
unfolding hex_groups_text
hex_some x y xs = compressed_some x y xs (longest_zero_run (x ∷ y ∷ xs))

dotted_some : (a b c d : ℕ) → 0 < length (dotted_text a b c d)
dotted_some a b c d = omega (arith, length-append {A = ℕ})

pub number_key : (space : Space) (value : ℕ) → value ≤ top_of space → IsKeyText (text_of space value)
number_key Asn value fits = record {
  some = omega arith;
  bytes =
      All-cons IsKeyByte 65 (83 ∷ decimal value) (omega arith) (All-cons IsKeyByte 83 (decimal value) (omega arith)
      (All-weaker IsDigitByte IsKeyByte (λ b h. omega (arith, h)) (decimal value) (decimal_bytes value (omega arith))));
}
number_key Ipv4 value fits = record {
  some = dotted_some _ _ _ _;
  bytes = All-weaker IsDigitOrDot IsKeyByte digit_or_dot (text_of Ipv4 value) (All-ipv4_text (to_be_bytes w32 value) (four_bytes value).at);
}
number_key Ipv6 value fits = record {
  some = hex_some _ _ _;
  bytes = All-weaker IsHexOrColon IsKeyByte hex_or_colon (text_of Ipv6 value) (All-hex_groups_text (groups_of value) (eight_groups value).at);
}

-- ---- it is read again

-- what is known of the texts of numbers
pub record NumberLaws : Type 0 where
  pub written : (n : PlainNumber) → IsNumber n → SpellsNumber (number_text n) n
  pub computed : (text : List ℕ) → IsSpelled (SpellsNumber text) (number_of text)
  pub once : (text : List ℕ) (m n : PlainNumber) → SpellsNumber text m → SpellsNumber text n → m ≡ n

found : {T : Type 0} (Spells : T → Type 0) (x : T) (o : Option T) → IsSpelled Spells o → Spells x → ((y : T) → Spells y → y ≡ x) → o ≡ Some x
found Spells x None none h same = absurd (none x h)
found Spells x (Some y) some h same = ap Some (same y some)

pub number_read : NumberLaws → (n : PlainNumber) → IsNumber n → number_of (number_text n) ≡ Some n
number_read laws n h =
    let spelled = laws.written n h in
    found (SpellsNumber (number_text n)) n (number_of (number_text n)) (laws.computed (number_text n)) spelled (λ m is. laws.once (number_text n) m n is spelled)
