-- The first LF of a text, as a search finds it.
use Rattle.std.proofs.Common.{◌≡◌, ◌≢◌, ℕ, ◌+◌, ◌<◌, ◌≤◌, ◌==◌, true, List, ◌∷◌, ◌++◌, All, length, take, drop, get_or, refl, sym, ap, subst, ◌∙◌, arith, length-take}
use Rattle.std.proofs.lemmas.Bool.Decides.{nat_tests}
use Rattle.std.proofs.lemmas.List.{drop_more, take-append-drop, get_or-take}
use Rattle.std.proofs.lemmas.List.Elements.{All-from_get_or}
use Rattle.memchr.specs.Find.{Nowhere, Passes, is_byte}

is_feed : (b : ℕ) → (b == 10) ≡ true → b ≡ 10
is_feed b e = grind (arith, nat_tests)

not_feed : (b : ℕ) → ¬ ((b == 10) ≡ true) → b ≢ 10
not_feed b other e = other (subst (λ c. (c == 10) ≡ true) (sym e) refl)

pub parts_there : (text : List ℕ) (k : ℕ) → k < length text → Passes (is_byte 10) text k → text ≡ take k text ++ 10 ∷ drop (k + 1) text
parts_there text k inside is =
    sym (take-append-drop k text)
    ∙ ap (λ (rest : List ℕ). take k text ++ rest)
    (drop_more text k 0 inside ∙ ap (λ (b : ℕ). b ∷ drop (k + 1) text) (is_feed (get_or text k 0) is))

pub none_before : (text : List ℕ) (k : ℕ) → k ≤ length text → Nowhere (Passes (is_byte 10) text) 0 k → All (λ b. b ≢ 10) (take k text)
none_before text k inside none =
    All-from_get_or (λ b. b ≢ 10) (take k text) 0 λ i less.
    let short : i < k = omega (arith, less, length-take k text) in
    not_feed (get_or (take k text) i 0) λ e. none i (omega arith) short (subst (λ c. (c == 10) ≡ true) (get_or-take k text i 0 short) e)

pub none_there : (text : List ℕ) → Nowhere (Passes (is_byte 10) text) 0 (length text) → All (λ b. b ≢ 10) text
none_there text none =
    All-from_get_or (λ b. b ≢ 10) text 0 λ i less. not_feed (get_or text i 0) (none i (omega arith) less)
