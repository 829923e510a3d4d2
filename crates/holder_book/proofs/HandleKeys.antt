-- Handles with one number are one handle, and the number has less than 128 bits.
use Rattle.std.proofs.Common.{◌≡◌, ℕ, zero, suc, ◌+◌, ◌-◌, ◌*◌, ◌^◌, ◌<◌, ◌≤◌, true, ◌&&◌, ◌||◌, ◌==◌, nat_le, if◌then◌else◌, List, [], ◌∷◌, ◌++◌, length, take, drop, reverse, get_or, refl, sym, ap, ◌∙◌, pow-suc, arith}
use Rattle.std.specs.Prelude.{IsTrue}
use Rattle.std.specs.List.{list_all}
use Rattle.std.proofs.lemmas.Bool.{and_parts, and_from, leb-true}
use Rattle.std.proofs.lemmas.Bool.Decides.{nat_tests}
use Rattle.std.proofs.Math.Nat.{one-le-pow}
use Rattle.std.proofs.Math.Seq.{take-suc}
use Rattle.std.proofs.lemmas.List.{length-drop, length-reverse, length-take-le, reverse-append, reverse-reverse, take-append-drop}
use Rattle.std.proofs.lemmas.List.Folds.{list_all-append}
use Rattle.reg_entry.specs.Handle.{is_capital, is_handle, is_handle_byte}
use Rattle.holder_book.specs.HandleKey.{digit, digits_value, handle_key}

digit_least : (b : ℕ) → ((nat_le 65 b && nat_le b 90) || (nat_le 48 b && nat_le b 57) || b == 45) ≡ true → 1 ≤ (if nat_le 65 b then b - 64 else (if nat_le 48 b then b - 21 else 37))
digit_least b h = grind (arith, nat_tests)

digit_most : (b : ℕ) → ((nat_le 65 b && nat_le b 90) || (nat_le 48 b && nat_le b 57) || b == 45) ≡ true → (if nat_le 65 b then b - 64 else (if nat_le 48 b then b - 21 else 37)) ≤ 37
digit_most b h = grind (arith, nat_tests)

byte_small : (b : ℕ) → ((nat_le 65 b && nat_le b 90) || (nat_le 48 b && nat_le b 57) || b == 45) ≡ true → b < 128
byte_small b h = grind (arith, nat_tests)

capital : (b : ℕ) → (nat_le 65 b && nat_le b 90) ≡ true → ((nat_le 65 b && nat_le b 90) || (nat_le 48 b && nat_le b 57) || b == 45) ≡ true
capital b h = grind (arith, nat_tests)

digit_tells : (b c : ℕ) → ((nat_le 65 b && nat_le b 90) || (nat_le 48 b && nat_le b 57) || b == 45) ≡ true → ((nat_le 65 c && nat_le c 90) || (nat_le 48 c && nat_le c 57) || c == 45) ≡ true
    → (if nat_le 65 b then b - 64 else (if nat_le 48 b then b - 21 else 37)) ≡ (if nat_le 65 c then c - 64 else (if nat_le 48 c then c - 21 else 37)) → b ≡ c
digit_tells b c h k e = grind (arith, nat_tests)

pub ascii : (b : ℕ) → is_handle_byte b ≡ true → b < 128
ascii b h = byte_small b h

-- all bytes of a handle are of its alphabet
pub alphabet : (bs : List ℕ) → IsTrue (is_handle bs) → list_all is_handle_byte bs ≡ true
alphabet [] h = refl
alphabet (b ∷ bs) h =
    let parts = and_parts (is_capital b && list_all is_handle_byte bs) (nat_le (length bs) 23) h in
    let bytes = and_parts (is_capital b) (list_all is_handle_byte bs) parts.0 in
    and_from (is_handle_byte b) (list_all is_handle_byte bs) (capital b bytes.0) bytes.1

few : (bs : List ℕ) → IsTrue (is_handle bs) → length bs ≤ 24
few [] h = omega arith
few (b ∷ bs) h =
    let most = leb-true (length bs) 23 (and_parts (is_capital b && list_all is_handle_byte bs) (nat_le (length bs) 23) h).1 in
    omega (arith, most)

-- so many digits have a number below that power
value_below : (n : ℕ) (bs : List ℕ) → list_all is_handle_byte bs ≡ true → length bs ≤ n → digits_value bs < 38 ^ n
value_below zero [] h l = omega arith
value_below zero (b ∷ bs) h l = absurd (omega arith)
value_below (suc n) [] h l = one-le-pow (suc n) 38 (omega arith)
value_below (suc n) (b ∷ bs) h l =
    let parts = and_parts (is_handle_byte b) (list_all is_handle_byte bs) h in
    let rest = value_below n bs parts.1 (omega arith) in
    let most = digit_most b parts.0 in
    let more = pow-suc 38 n in
    omega (arith, rest, most, more)

-- two handles with one number are one
value_tells : (bs cs : List ℕ) → list_all is_handle_byte bs ≡ true → list_all is_handle_byte cs ≡ true → digits_value bs ≡ digits_value cs → bs ≡ cs
value_tells [] [] h k e = refl
value_tells [] (c ∷ cs) h k e =
    let least = digit_least c (and_parts (is_handle_byte c) (list_all is_handle_byte cs) k).0 in absurd (omega (arith, least, e))
value_tells (b ∷ bs) [] h k e =
    let least = digit_least b (and_parts (is_handle_byte b) (list_all is_handle_byte bs) h).0 in absurd (omega (arith, least, e))
value_tells (b ∷ bs) (c ∷ cs) h k e =
    let p = and_parts (is_handle_byte b) (list_all is_handle_byte bs) h in
    let q = and_parts (is_handle_byte c) (list_all is_handle_byte cs) k in
    let first : digit b ≡ digit c = (let x = digit_most b p.0 in let y = digit_most c q.0 in omega (arith, x, y, e)) in
    let rest : digits_value bs ≡ digits_value cs = omega (arith, first, e) in
    ap (λ d. d ∷ bs) (digit_tells b c p.0 q.0 first) ∙ ap (λ ds. c ∷ ds) (value_tells bs cs p.1 q.1 rest)

all_behind : (bs : List ℕ) (i : ℕ) → list_all is_handle_byte bs ≡ true → list_all is_handle_byte (drop i bs) ≡ true
all_behind bs zero h = h
all_behind [] (suc i) h = refl
all_behind (b ∷ bs) (suc i) h = all_behind bs i (and_parts (is_handle_byte b) (list_all is_handle_byte bs) h).1

all_before : (bs : List ℕ) (i : ℕ) → list_all is_handle_byte bs ≡ true → list_all is_handle_byte (take i bs) ≡ true
all_before bs zero h = refl
all_before [] (suc i) h = refl
all_before (b ∷ bs) (suc i) h =
    let parts = and_parts (is_handle_byte b) (list_all is_handle_byte bs) h in
    and_from (is_handle_byte b) (list_all is_handle_byte (take i bs)) parts.0 (all_before bs i parts.1)

all_reversed : (bs : List ℕ) → list_all is_handle_byte bs ≡ true → list_all is_handle_byte (reverse bs) ≡ true
all_reversed [] h = refl
all_reversed (b ∷ bs) h =
    let parts = and_parts (is_handle_byte b) (list_all is_handle_byte bs) h in
    ap (list_all is_handle_byte) (reverse-append (b ∷ []) bs) ∙ list_all-append is_handle_byte (reverse bs) (b ∷ [])
    ∙ and_from (list_all is_handle_byte (reverse bs)) (list_all is_handle_byte (b ∷ [])) (all_reversed bs parts.1) (and_from (is_handle_byte b) true parts.0 refl)

key_below : (n : ℕ) (bs : List ℕ) → list_all is_handle_byte bs ≡ true → length bs ≤ n → handle_key bs < 38 ^ n
key_below n bs h l = let long = length-reverse bs in value_below n (reverse bs) (all_reversed bs h) (omega (arith, long, l))

-- what a digit more makes of the number of those before it
pub record IsDigitMore (bs : List ℕ) (i : ℕ) : Type 0 where
  pub ascii : get_or bs i 0 < 128
  pub key : handle_key (take (i + 1) bs) ≡ digit (get_or bs i 0) + 38 * handle_key (take i bs)
  pub below : handle_key (take (i + 1) bs) < 2 ^ 64

pub digit_more : (bs : List ℕ) (i : ℕ) → list_all is_handle_byte bs ≡ true → length bs ≤ 12 → i < length bs → IsDigitMore bs i
digit_more bs i h short l =
    let more : i + 1 ≡ suc i = omega arith in
    let parted : take (i + 1) bs ≡ take i bs ++ (get_or bs i 0 ∷ []) = ap (λ (n : ℕ). take n bs) more ∙ take-suc bs i 0 l in
    let turned : reverse (take (i + 1) bs) ≡ get_or bs i 0 ∷ reverse (take i bs) = ap (λ (xs : List ℕ). reverse xs) parted ∙ reverse-append (take i bs) (get_or bs i 0 ∷ []) in
    let all = all_before bs (i + 1) h in
    let byte = and_parts (is_handle_byte (get_or bs i 0)) (list_all is_handle_byte (reverse (take i bs)))
    (sym (ap (list_all is_handle_byte) turned) ∙ all_reversed (take (i + 1) bs) all) in
    let long = length-take-le (i + 1) bs (omega (arith, l)) in
    record {
      ascii = byte_small (get_or bs i 0) byte.0;
      key = ap digits_value turned;
      below = let below = key_below 12 (take (i + 1) bs) all (omega (arith, long, short)) in omega (arith, below);
    }

pub fits_more : (bs : List ℕ) (i key byte : ℕ) → list_all is_handle_byte bs ≡ true → length bs ≤ 12 → i < length bs → key ≡ handle_key (take i bs)
    → byte ≡ digit (get_or bs i 0) → byte + 38 * key < 2 ^ 64
fits_more bs i key byte h short within is e =
    let more = digit_more bs i h short within in
    let whole = more.key in
    omega (arith, whole, is, e, more.below)

value_in_two : (low high : List ℕ) → digits_value (low ++ high) ≡ digits_value low + 38 ^ length low * digits_value high
value_in_two [] high = omega arith
value_in_two (b ∷ low) high =
    let rest = value_in_two low high in
    let more = pow-suc 38 (length low) in
    let same : 38 ^ suc (length low) * digits_value high ≡ 38 * (38 ^ length low * digits_value high) = (rw more (grind arith)) in
    omega (arith, rest, same)

-- a number is that of the last 12 digits, and that of the others so many digits higher
pub key_in_two : (at : ℕ) (bs : List ℕ) → at + 12 ≡ length bs → handle_key bs ≡ handle_key (drop at bs) + 38 ^ 12 * handle_key (take at bs)
key_in_two at bs h =
    let turned : reverse bs ≡ reverse (drop at bs) ++ reverse (take at bs) = ap (λ (xs : List ℕ). reverse xs) (sym (take-append-drop at bs)) ∙ reverse-append (take at bs) (drop at bs) in
    let long : length (reverse (drop at bs)) ≡ 12 = (let x = length-reverse (drop at bs) in let y = length-drop at bs in omega (arith, x, y, h)) in
    ap digits_value turned ∙ value_in_two (reverse (drop at bs)) (reverse (take at bs))
    ∙ ap (λ (n : ℕ). digits_value (reverse (drop at bs)) + 38 ^ n * digits_value (reverse (take at bs))) long

-- the last 12 bytes of a handle, and those before
pub record AreHalves (bs : List ℕ) (at : ℕ) : Type 0 where
  pub low : list_all is_handle_byte (drop at bs) ≡ true
  pub high : list_all is_handle_byte (take at bs) ≡ true
  pub whole : list_all is_handle_byte bs ≡ true
  pub most : length bs ≤ 24
  pub below : handle_key bs < 2 ^ 128

pub halves : (bs : List ℕ) (at : ℕ) → IsTrue (is_handle bs) → AreHalves bs at
halves bs at h =
    let all = alphabet bs h in
    let short = few bs h in
    record {
      low = all_behind bs at all;
      high = all_before bs at all;
      whole = all;
      most = short;
      below = let below = key_below 24 bs all short in omega (arith, below);
    }

pub key_of_one : (a b : List ℕ) → IsTrue (is_handle a) → IsTrue (is_handle b) → handle_key a ≡ handle_key b → a ≡ b
key_of_one a b h k e =
    sym (reverse-reverse a) ∙ ap (λ (xs : List ℕ). reverse xs) (value_tells (reverse a) (reverse b) (all_reversed a (alphabet a h)) (all_reversed b (alphabet b k)) e) ∙ reverse-reverse b
