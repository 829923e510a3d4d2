-- What is written spells what was to be written, and is shortened as RFC 5952 has it.
use Rattle.std.proofs.Common.{◌≡◌, ℕ, zero, suc, ◌+◌, ◌*◌, ◌/◌, ◌%◌, ◌^◌, ◌<◌, ◌≤◌, false, List, [], ◌∷◌, get_or, refl, sym, ap, ◌∙◌, inl, inr, arith, lt-ltb, le-ltb}
use Rattle.std.proofs.lemmas.Bool.{cases_lt}
use Rattle.std.proofs.lemmas.Nat.{from_be_bytes-to_be_bytes_4}
use Rattle.std.proofs.Math.Nat.{div-div-eq-div-mul}
use Rattle.std.specs.Int.{w32, w128, to_be_bytes, from_be_bytes}
use Rattle.std.specs.Net.Addr.{octets_of, segments_of}
use Rattle.std.specs.Net.Text.{longest_zero_run, hex_groups_text}
use Rattle.std.proofs.NetLemmas.Texts.{IsDotted-ipv4_text, IsColonHex-hex_groups_text, IsZeroRun-longest_zero_run, longest_zero_run_first}
use Rattle.num_range.specs.declared.space.Space.{Space}
use Rattle.num_range.specs.declared.space.Space.TheVariants.{Asn, Ipv4, Ipv6}
use Rattle.num_range.specs.Space.{top_of}
use Rattle.num_range.specs.Number.{PlainNumber, IsNumber}
use Rattle.num_range.specs.Range.{PlainRange, IsRange}
use Rattle.addr_text.specs.Address.{groups_of}
use Rattle.addr_text.specs.Number.{SpellsNumberOf, SpellsNumber, text_of, number_text}
use Rattle.addr_text.specs.Range.{SpellsRange, range_text}
use Rattle.addr_text.specs.Shortening.{IsLongestZeroRun, IsShortened}

joined : (a b c d e f g h i j k l m n o p value q r s t u v w x y z q' r' s' t' u' : ℕ) → value ≡ a + q * 256 → q ≡ b + r * 256 → r ≡ c + s * 256 → s ≡ d + t * 256
    → t ≡ e + u * 256 → u ≡ f + v * 256 → v ≡ g + w * 256 → w ≡ h + x * 256 → x ≡ i + y * 256 → y ≡ j + z * 256 → z ≡ k + q' * 256 → q' ≡ l + r' * 256
    → r' ≡ m + s' * 256 → s' ≡ n + t' * 256 → t' ≡ o + u' * 256 → u' ≡ p
    → p * 256 ^ 15 + o * 256 ^ 14 + n * 256 ^ 13 + m * 256 ^ 12 + l * 256 ^ 11 + k * 256 ^ 10 + j * 256 ^ 9 + i * 256 ^ 8 + h * 256 ^ 7 + g * 256 ^ 6 + f * 256 ^ 5 + e * 256 ^ 4 + d * 256 ^ 3 + c * 256 ^ 2 + b * 256 ^ 1 + a ≡ value
joined a b c d e f g h i j k l m n o p value q r s t u v w x y z q' r' s' t' u' e0 e1 e2 e3 e4 e5 e6 e7 e8 e9 e10 e11 e12 e13 e14 e15 = omega arith

-- a byte of a number, and what stands above it
rest : (n p : ℕ) → n / p ≡ n / p % 256 + n / (p * 256) * 256
rest n p = omega (arith, div-div-eq-div-mul n p 256)

-- the sixteen bytes of a number give it back
from_to : (value : ℕ) → value < 2 ^ 128 → from_be_bytes w128 (to_be_bytes w128 value) ≡ value
from_to value fits =
    let low : value ≡ value % 256 + value / 256 * 256 = omega arith in
    let high : value / 256 ^ 15 ≡ value / 256 ^ 15 % 256 = omega arith in
    joined _ _ _ _ _ _ _ _ _ _ _ _ _ _ _ _ value _ _ _ _ _ _ _ _ _ _ _ _ _ _ _ low (rest value 256) (rest value (256 ^ 2)) (rest value (256 ^ 3)) (rest value (256 ^ 4)) (rest value (256 ^ 5)) (rest value (256 ^ 6)) (rest value (256 ^ 7)) (rest value (256 ^ 8)) (rest value (256 ^ 9)) (rest value (256 ^ 10)) (rest value (256 ^ 11)) (rest value (256 ^ 12)) (rest value (256 ^ 13)) (rest value (256 ^ 14)) high

-- two octets make a group, and a group two octets
pair_back : (a b : ℕ) (rest : List ℕ) → b < 256 → octets_of (segments_of rest) ≡ rest → octets_of (segments_of (a ∷ b ∷ rest)) ≡ a ∷ b ∷ rest
pair_back a b rest h more =
    let high : (a * 256 + b) / 256 ≡ a = omega arith in
    let low : (a * 256 + b) % 256 ≡ b = omega arith in
    rw (high, low, more)

-- each number of the list is below the bound, in a record so that antt reads the list off a goal
pub record Each (bound : ℕ) (xs : List ℕ) : Type 0 where
  pub at : (k : ℕ) → get_or xs k 0 < bound

cons : {bound x : ℕ} {xs : List ℕ} → x < bound → Each bound xs → Each bound (x ∷ xs)
cons {bound} {x} {xs} h more =
    record { at = λ k. elim k as (λ j. get_or (x ∷ xs) j 0 < bound) [ zero ↦ h | suc j ↦ more.at j ] }

nil : (bound : ℕ) → 0 < bound → Each bound []
nil bound h = record { at = λ _. h }

pub four_bytes : (value : ℕ) → Each (2 ^ 8) (to_be_bytes w32 value)
four_bytes value = cons (omega arith) (cons (omega arith) (cons (omega arith) (cons (omega arith) (nil _ (omega arith)))))

pub eight_groups : (value : ℕ) → Each (2 ^ 16) (groups_of value)
eight_groups value =
    cons (omega arith) (cons (omega arith) (cons (omega arith) (cons (omega arith) (cons (omega arith) (cons (omega arith) (cons (omega arith) (cons (omega arith) (nil _ (omega arith)))))))))

groups_back : (value : ℕ) → octets_of (groups_of value) ≡ to_be_bytes w128 value
groups_back value =
    pair_back _ _ _ (omega arith) (pair_back _ _ _ (omega arith) (pair_back _ _ _ (omega arith) (pair_back _ _ _ (omega arith) (pair_back _ _ _ (omega arith) (pair_back _ _ _ (omega arith) (pair_back _ _ _ (omega arith) (pair_back _ _ _ (omega arith) (refl))))))))

written : (space : Space) (value : ℕ) → value ≤ top_of space → SpellsNumberOf space (text_of space value) value
written Asn value fits = (refl, fits)
written Ipv4 value fits =
    (to_be_bytes w32 value, IsDotted-ipv4_text (to_be_bytes w32 value) refl (four_bytes value).at, sym (from_be_bytes-to_be_bytes_4 value (omega arith)))
written Ipv6 value fits =
    (groups_of value, IsColonHex-hex_groups_text (groups_of value) refl (eight_groups value).at, sym (ap (from_be_bytes w128) (groups_back value) ∙ from_to value (omega arith)))

pub number_written : (n : PlainNumber) → IsNumber n → SpellsNumber (number_text n) n
number_written n fits = written n.space n.value fits

pub range_written : (r : PlainRange) → IsRange r → SpellsRange (range_text false r) r
range_written r h = inr (inr (_, _, refl, written r.space r.first (omega (arith, h)), written r.space r.last h.1, h.0))

longest : (groups : List ℕ) → IsLongestZeroRun groups (longest_zero_run groups).0 (longest_zero_run groups).1
longest groups = record {
  run = IsZeroRun-longest_zero_run groups;
  longest = λ s l h. (longest_zero_run_first groups s l h).0;
  first = λ s h. (longest_zero_run_first groups s _ h).1 refl;
}

shortened_groups : (groups : List ℕ) → IsShortened (hex_groups_text groups) groups
unfolding hex_groups_text
shortened_groups groups =
    let len = (longest_zero_run groups).1 in
    elim (cases_lt 1 len) [
      | inl long ↦ (_, _, longest groups, inl (long, rw (lt-ltb 1 len long)))
      | inr short ↦ (_, _, longest groups, inr (short, rw (le-ltb 1 len short)))
    ]

pub shortened : (value : ℕ) → IsShortened (text_of Ipv6 value) (groups_of value)
shortened value = shortened_groups (groups_of value)
