-- Pairs in the order of their keys, and what is found among them.
use Rattle.std.specs.Prelude.{◌≡◌, ℕ, ◌-◌, Bool, List, [], ◌∷◌, Option, None, Some, cond, length}
use Rattle.std.specs.declared.cmp.Ordering.{Ordering}
use Rattle.std.specs.declared.cmp.Ordering.TheVariants.{Less}
use Rattle.std.specs.Ordering.{is_le, is_lt}
use Rattle.std.specs.List.{AllByRecursion, prefix_len, slice_get}
use Rattle.std.specs.Option.{option_or}

-- the last item that passes a test
abbrev pub last_by : {T : Type 0} → (T → Bool) → List T → Option T
last_by test [] = None
last_by test (t ∷ ts) = option_or (last_by test ts) (cond (test t) (Some t) None)

module _ {K V : Type 0} (cmp : K → K → Ordering) where
  -- each key is less than all that come after it
  abbrev pub Rises : List (K × V) → Type 0
  Rises [] = Unit {0}
  Rises (p ∷ ps) = AllByRecursion (λ q. cmp p.0 q.0 ≡ Less) ps × Rises ps

  -- how many pairs have a lesser key: the place of the first key that is at least this one
  abbrev pub rank : K → List (K × V) → ℕ
  rank key ps = prefix_len (λ p. is_lt (cmp p.0 key)) ps

  -- the last pair whose key is at most this one
  abbrev pub last_at_most : K → List (K × V) → Option (K × V)
  last_at_most key ps = last_by (λ p. is_le (cmp p.0 key)) ps

  -- the last key of one list is less than the first of another, where both are there
  abbrev pub MeetsBelow : List (K × V) → List (K × V) → Type 0
  MeetsBelow ps qs = (p q : K × V) → slice_get ps (length ps - 1) ≡ Some p → slice_get qs 0 ≡ Some q → cmp p.0 q.0 ≡ Less
