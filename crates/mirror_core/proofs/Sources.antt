-- The attributes that name a source.
use Rattle.std.proofs.Common.{◌≡◌, ℕ, ◌≤◌, ◌<◌, Bool, true, false, List, [], ◌∷◌, length, get_or, codes, bytes_eq, Option, None, Some, refl, sym, ap, ◌∙◌, arith}
use Rattle.std.specs.Borrow.{Bor}
use Rattle.std.specs.Option.{option_map}
use Rattle.rpsl_text.specs.Pairs.{pair_of}
use Rattle.rpsl_text.specs.Attributes.{last_of}
use Rattle.mirror_core.specs.Draft.{is_foreign, ends_foreign}

-- what is said of the last attribute
abbrev pub last_foreign : List ℕ → Option (List ℕ × List ℕ) → Bool
last_foreign source None = false
last_foreign source (Some a) = is_foreign source a

pub ends_with : (source : List ℕ) (attributes : List (List ℕ × List ℕ)) → ends_foreign source attributes ≡ last_foreign source (last_of attributes)
ends_with source [] = refl
ends_with source (a ∷ []) = refl
ends_with source (a ∷ b ∷ more) = ends_with source (b ∷ more)

pub foreign : (source : List ℕ) (attributes : List (List ℕ × List ℕ)) (lent : Option (Bor (List ℕ) × Bor (List ℕ))) (name value : Bor (List ℕ))
    → option_map pair_of lent ≡ last_of attributes → lent ≡ Some (name, value) → ends_foreign source attributes ≡ is_foreign source (name.now, value.now)
foreign source attributes lent name value is lends =
    ends_with source attributes ∙ ap (last_foreign source) (sym is ∙ ap (option_map pair_of) lends)

pub none_foreign : (source : List ℕ) (attributes : List (List ℕ × List ℕ)) (lent : Option (Bor (List ℕ) × Bor (List ℕ)))
    → option_map pair_of lent ≡ last_of attributes → lent ≡ None → ends_foreign source attributes ≡ false
none_foreign source attributes lent is lends = ends_with source attributes ∙ ap (last_foreign source) (sym is ∙ ap (option_map pair_of) lends)

-- the name whose bytes are these
pub spells_source : (name : List ℕ) → 6 ≤ length name → length name < 7 → get_or name 0 0 ≡ 115 → get_or name 1 0 ≡ 111 → get_or name 2 0 ≡ 117
    → get_or name 3 0 ≡ 114 → get_or name 4 0 ≡ 99 → get_or name 5 0 ≡ 101 → true ≡ bytes_eq name (codes "source")
spells_source [] low high a b c d e f = absurd (omega (arith, low))
spells_source (s ∷ []) low high a b c d e f = absurd (omega (arith, low))
spells_source (s ∷ o ∷ []) low high a b c d e f = absurd (omega (arith, low))
spells_source (s ∷ o ∷ u ∷ []) low high a b c d e f = absurd (omega (arith, low))
spells_source (s ∷ o ∷ u ∷ r ∷ []) low high a b c d e f = absurd (omega (arith, low))
spells_source (s ∷ o ∷ u ∷ r ∷ x ∷ []) low high a b c d e f = absurd (omega (arith, low))
spells_source (s ∷ o ∷ u ∷ r ∷ x ∷ y ∷ []) low high a b c d e f = rw (a, b, c, d, e, f) refl
spells_source (s ∷ o ∷ u ∷ r ∷ x ∷ y ∷ z ∷ more) low high a b c d e f = absurd (omega (arith, high))
