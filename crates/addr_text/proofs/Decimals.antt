-- How long a number's decimal is.
use Rattle.std.proofs.Common.{ℕ, ◌<◌, ◌≤◌, ◌^◌, length, decimal, arith}
use Rattle.std.proofs.lemmas.Fmt.{length-decimal-le}

-- an octet has at most three digits, and a number of 32 bits ten
pub length-decimal_octet : (n : ℕ) → n < 2 ^ 8 → length (decimal n) ≤ 3
length-decimal_octet n fits = length-decimal-le 3 n (omega arith) (omega arith) (omega arith)

pub length-decimal_word : (n : ℕ) → n < 2 ^ 32 → length (decimal n) ≤ 10
length-decimal_word n fits = length-decimal-le 10 n (omega arith) (omega arith) (omega arith)

pub ruleset length_octet = (length-decimal_octet)

pub ruleset length_word = (length-decimal_word)
