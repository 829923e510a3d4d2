-- Parts of a path, one after the other.
use Rattle.std.proofs.Common.{◌≡◌, ◌≢◌, ℕ, List, [], ◌∷◌, ◌++◌, All, ◌==◌, false, refl}
use Rattle.std.proofs.lemmas.Bool.{ne_eqb}
use Rattle.std.proofs.lemmas.List.Splits.{slice_split_at, slice_split_none}
use Rattle.std.proofs.lemmas.List.Elements.{All-weaker}
use Rattle.hall.specs.Path.{parts_of}

unsplit : (text : List ℕ) → All (λ b. b ≢ 47) text → All (λ b. (b == 47) ≡ false) text
unsplit text none = All-weaker (λ b. b ≢ 47) (λ b. (b == 47) ≡ false) (λ b differs. ne_eqb b 47 differs) text none

pub parts_first : (front back : List ℕ) → All (λ b. b ≢ 47) front → parts_of (front ++ 47 ∷ back) ≡ front ∷ parts_of back
parts_first front back none = slice_split_at (λ b. b == 47) front 47 back (unsplit front none) refl

pub parts_only : (text : List ℕ) → All (λ b. b ≢ 47) text → parts_of text ≡ text ∷ []
parts_only text none = slice_split_none (λ b. b == 47) text (unsplit text none)
