-- The body of an error is the compact text of its tree: nothing in it has to be escaped.
use Rattle.std.proofs.Common.{◌≡◌, ℕ, ◌+◌, ◌%◌, ◌<◌, ◌^◌, Bool, true, false, ◌==◌, cond, List, [], ◌∷◌, ◌++◌, codes, decimal, refl, sym, ap₂, ◌∙◌, arith, append_assoc}
use Rattle.std.proofs.lemmas.Bool.Decides.{nat_tests}
use Rattle.std.proofs.lemmas.Fmt.{decimal_by_steps}
use Rattle.std.proofs.lemmas.Grind.{flat_map-append}
use Rattle.json.specs.Print.{escape_byte, escape}
use Rattle.serde_json.proofs.OnLiterals.{serde_json_on_literals}
use Rattle.serde_json.specs.Written.{compact_text}
use Rattle.wire_http.specs.Reply.{title_of}
use Rattle.wire_http.specs.ErrorBody.{description_of, error_text}
use Rattle.rdap_json.specs.RdapAnswer.{error_tree}

-- ---- what isn't escaped

abbrev IsPlain : List ℕ → Type 0
IsPlain text = escape text ≡ text

plain_both : (xs ys : List ℕ) → IsPlain xs → IsPlain ys → IsPlain (xs ++ ys)
plain_both xs ys h k = flat_map-append escape_byte xs ys ∙ ap₂ (λ a b. a ++ b) h k

plain_digit : (n : ℕ) → n < 10 → IsPlain ((48 + n) ∷ [])
unfolding escape_byte
plain_digit n h = grind (arith, nat_tests)

plain_decimal : (n : ℕ) → n < 2 ^ 64 → IsPlain (decimal n)
plain_decimal =
    decimal_by_steps (λ n ds. IsPlain ds) plain_digit (λ n ds h plain. plain_both ds _ plain (plain_digit (n % 10) (omega arith)))

entries_plain : (entries : ℕ) → entries < 2 ^ 64 → IsPlain (codes "the register has " ++ (decimal entries ++ codes " entries"))
unfolding serde_json_on_literals
entries_plain entries h = plain_both (codes "the register has ") _ refl (plain_both (decimal entries) (codes " entries") (plain_decimal entries h) refl)

-- one of two texts
either : (b : Bool) {x y : List ℕ} → IsPlain x → IsPlain y → IsPlain (cond b x y)
either true h k = h
either false h k = k

description_plain : (code entries : ℕ) (shut : Bool) → entries < 2 ^ 64 → IsPlain (description_of code entries shut)
unfolding serde_json_on_literals description_of
description_plain code entries shut h =
    either (code == 400) refl (either (code == 401) refl (either (code == 404) refl (either (code == 405) refl (either (code == 409) (entries_plain entries h)
    (either (code == 411) refl (either (code == 413) refl (either (code == 500) refl (either (code == 503) (either shut refl refl) refl))))))))

title_plain : (code : ℕ) → IsPlain (title_of code)
unfolding serde_json_on_literals title_of
title_plain code =
    either (code == 200) refl (either (code == 400) refl (either (code == 401) refl (either (code == 404) refl (either (code == 405) refl (either (code == 409) refl
    (either (code == 411) refl (either (code == 413) refl (either (code == 500) refl (either (code == 503) refl refl)))))))))

-- ---- the whole

around : (d t n : List ℕ) →
    codes "{" ++ ((codes "\"description\":[\"" ++ (d ++ codes "\"]")) ++ (codes "," ++ ((codes "\"errorCode\":" ++ n)
    ++ (codes ",\"rdapConformance\":[\"rdap_level_0\"]," ++ ((codes "\"title\":\"" ++ (t ++ codes "\"")) ++ codes "}")))))
    ≡ codes "{\"description\":[" ++ (((34 ∷ (d ++ 34 ∷ [])) ++ codes "]") ++ (codes ",\"errorCode\":" ++ (n ++ (codes ",\"rdapConformance\":[\"rdap_level_0\"],\"title\":" ++ ((34 ∷ (t ++ 34 ∷ [])) ++ codes "}")))))
around d t n = simp append_assoc

pub error_written : (code entries : ℕ) (shut : Bool) → entries < 2 ^ 64 → error_text code entries shut ≡ compact_text (error_tree code entries shut)
unfolding serde_json_on_literals
error_written code entries shut h =
    around (description_of code entries shut) (title_of code) (decimal code)
    ∙ sym (rw (description_plain code entries shut h, title_plain code) refl)
