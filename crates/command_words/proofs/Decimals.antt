-- Decimals up to a greatest number, from 0 or from 1, none of which begins with `-`.
use Rattle.std.proofs.Common.{◌≡◌, ℕ, ◌^◌, ◌≤◌, ◌<◌, ◌==◌, List, [], ◌∷◌, Bool, cond, true, false, true≢false, ne_eqb, Option, Some, None, decimal, refl, sym, ap, ◌∙◌, subst, arith}
use Rattle.std.proofs.lemmas.Bool.{cond-false, eqb-false}
use Rattle.std.proofs.lemmas.Fmt.{decimal_is_IsNumeral}
use Rattle.std.proofs.lemmas.Option.{none-some, option_and_then_some, same_Some}
use Rattle.std.specs.Char.{digit_value}
use Rattle.std.specs.Option.{option_and_then}
use Rattle.std.specs.Str.Parse.{AllDigits}
use Rattle.addr_text.proofs.Computed.{decimal_found, decimal_read}
use Rattle.addr_text.specs.Reading.{decimal_up_to}
use Rattle.command_words.specs.Command.{IsPositiveUpTo, not_zero, positive_up_to}
use Rattle.command_words.specs.Table.{begins_with_hyphen}

digits_are_plain : (text : List ℕ) → AllDigits 10 text → begins_with_hyphen text ≡ false
digits_are_plain [] digits = refl
digits_are_plain (b ∷ text) digits = ne_eqb b 45 (λ e. absurd (omega (arith, subst (λ x. digit_value x < 10) e digits.0)))

-- what begins with `-` is no decimal
pub hyphen_is_none : (most : ℕ) (text : List ℕ) → most < 2 ^ 64 → begins_with_hyphen text ≡ true → decimal_up_to most text ≡ None
hyphen_is_none most text fits hyphen = go (decimal_up_to most text) refl
  where
    go : (found : Option ℕ) → decimal_up_to most text ≡ found → found ≡ None
    go None e = refl
    go (Some n) e =
        let spelled = decimal_read most n text e in
        let below : n < 2 ^ 64 = omega (arith, spelled.1) in
        absurd (true≢false (sym hyphen ∙ ap begins_with_hyphen spelled.0 ∙ digits_are_plain (decimal n) (decimal_is_IsNumeral n below).0.1))

-- ---- from 1 on

is_kept : (n kept : ℕ) → not_zero n ≡ Some kept → (1 ≤ kept) × (n ≡ kept)
is_kept n kept e = go (n == 0) refl e
  where
    go : (b : Bool) → (n == 0) ≡ b → cond b None (Some n) ≡ Some kept → (1 ≤ kept) × (n ≡ kept)
    go true test e = absurd (none-some kept e)
    go false test e =
        let same : n ≡ kept = same_Some n kept e in
        let other = eqb-false n 0 test in
        (subst (λ k. 1 ≤ k) same (omega (arith, other)), same)

pub positive_found : (most n : ℕ) (text : List ℕ) → text ≡ decimal n → IsPositiveUpTo most n → most < 2 ^ 64 → positive_up_to most text ≡ Some n
positive_found most n text e bounds fits =
    ap (option_and_then not_zero) (decimal_found most n text e bounds.1 fits)
    ∙ cond-false (n == 0) None (Some n) (ne_eqb n 0 (λ none. omega (arith, bounds.0, none)))

pub positive_spelled : (most n : ℕ) (text : List ℕ) → positive_up_to most text ≡ Some n → (text ≡ decimal n) × IsPositiveUpTo most n
positive_spelled most n text e =
    option_and_then_some not_zero (decimal_up_to most text) n e λ m found kept.
    let is = is_kept m n kept in
    let spelled = decimal_read most n text (found ∙ ap Some is.1) in
    (spelled.0, (is.0, spelled.1))

pub hyphen_is_no_positive : (most : ℕ) (text : List ℕ) → most < 2 ^ 64 → begins_with_hyphen text ≡ true → positive_up_to most text ≡ None
hyphen_is_no_positive most text fits hyphen = ap (option_and_then not_zero) (hyphen_is_none most text fits hyphen)
