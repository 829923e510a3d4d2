-- Texts of a list's items, appended one by one.
use Rattle.std.proofs.Common.{◌≡◌, ℕ, List, [], ◌∷◌, ◌++◌, append_assoc, append-nil, sym, ◌∙◌, ap}
use Rattle.std.specs.List.{flat_map}

-- what was appended to the text before, and the texts of what is left, are those of all
abbrev pub IsAppended : {X : Type 0} → (X → List ℕ) → List ℕ → List ℕ → List X → List X → Type 0
IsAppended text before now left all = now ++ flat_map text left ≡ before ++ flat_map text all

pub none_appended : {X : Type 0} (text : X → List ℕ) (before : List ℕ) (left all : List X) → left ≡ all → IsAppended text before before left all
none_appended {X} text before left all e = ap (λ (xs : List X). before ++ flat_map text xs) e

pub one_appended : {X : Type 0} (text : X → List ℕ) (before was now : List ℕ) (left rest all : List X) (x : X) → left ≡ x ∷ rest
    → now ≡ was ++ text x → IsAppended text before was left all → IsAppended text before now rest all
one_appended {X} text before was now left rest all x e more h =
    ap (λ (us : List ℕ). us ++ flat_map text rest) more
    ∙ append_assoc was (text x) (flat_map text rest)
    ∙ sym (ap (λ (xs : List X). was ++ flat_map text xs) e)
    ∙ h

pub all_appended : {X : Type 0} (text : X → List ℕ) (before now : List ℕ) (left all : List X) → left ≡ [] → IsAppended text before now left all
    → now ≡ before ++ flat_map text all
all_appended {X} text before now left all e h =
    sym (append-nil now) ∙ sym (ap (λ (xs : List X). now ++ flat_map text xs) e) ∙ h
