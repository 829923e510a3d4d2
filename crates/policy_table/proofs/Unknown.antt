-- No hostmaster is found by a token just where none has it.
use Rattle.std.proofs.Common.{◌≡◌, ℕ, true, false, ◌||◌, cond, bytes_eq, List, [], ◌∷◌, Option, Some, IsNone, option_map, refl}
use Rattle.std.specs.List.{find, list_any}

abbrev found : List ℕ → List (List ℕ × List ℕ) → Option (List ℕ)
found token hs = option_map (λ h. h.0) (find (λ h. bytes_eq h.1 token) hs)

pub unknown : (token : List ℕ) (hs : List (List ℕ × List ℕ)) → (IsNone (found token hs) → list_any (λ h. bytes_eq h.1 token) hs ≡ false) × (list_any (λ h. bytes_eq h.1 token) hs ≡ false → IsNone (found token hs))
unknown token [] = (λ e. refl, λ e. refl)
unknown token (h ∷ hs) =
    elim (bytes_eq h.1 token) as (λ b. (IsNone (option_map (λ x. x.0) (cond b (Some h) (find (λ x. bytes_eq x.1 token) hs))) → (b || list_any (λ x. bytes_eq x.1 token) hs) ≡ false)
    × ((b || list_any (λ x. bytes_eq x.1 token) hs) ≡ false → IsNone (option_map (λ x. x.0) (cond b (Some h) (find (λ x. bytes_eq x.1 token) hs))))) [
      | true ↦ (λ e. absurd cc, λ e. absurd cc)
      | false ↦ unknown token hs
    ]
