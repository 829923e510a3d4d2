-- Numbers of 64 bits and their decimals, which have no byte that parts the words of a line.
use Rattle.std.proofs.Common.{◌≡◌, ◌≢◌, ℕ, ◌-◌, ◌^◌, ◌≤◌, ◌<◌, List, [], ◌∷◌, All, Some, decimal, subst, arith}
use Rattle.std.proofs.lemmas.Fmt.{decimal_is_IsNumeral}
use Rattle.std.proofs.lemmas.List.Elements.{All-nil, All-cons}
use Rattle.std.specs.Char.{digit_value}
use Rattle.std.specs.Str.Parse.{AllDigits}
use Rattle.addr_text.proofs.Computed.{decimal_found, decimal_read}
use Rattle.nrtm_stream.specs.Ask.{number_of}

pub number_value : (n : ℕ) (text : List ℕ) → text ≡ decimal n → n < 2 ^ 64 → number_of text ≡ Some n
number_value n text e fits = decimal_found (2 ^ 64 - 1) n text e (omega arith) (omega arith)

pub number_spelled : (n : ℕ) (text : List ℕ) → number_of text ≡ Some n → (text ≡ decimal n) × (n < 2 ^ 64)
number_spelled n text e = let read = decimal_read (2 ^ 64 - 1) n text e in (read.0, omega (arith, read.1))

digits_free : (c : ℕ) (text : List ℕ) → 10 ≤ digit_value c → AllDigits 10 text → All (λ b. b ≢ c) text
digits_free c [] h d = All-nil (λ b. b ≢ c)
digits_free c (b ∷ text) h d =
    All-cons (λ b. b ≢ c) b text (λ e. absurd (omega (arith, subst (λ x. digit_value x < 10) e d.0))) (digits_free c text h d.1)

-- a byte that is no digit
pub decimal_free : (c n : ℕ) → 10 ≤ digit_value c → n < 2 ^ 64 → All (λ b. b ≢ c) (decimal n)
decimal_free c n h fits = digits_free c (decimal n) h (decimal_is_IsNumeral n fits).0.1
