-- Labels and keys compare as their definitions say.
use Rattle.std.proofs.Common.{◌≡◌, ℕ, Bool, true, false, cond, ◌&&◌, ◌||◌, ◌==◌, nat_lt, nat_cmp, List, [], ◌∷◌, refl, ◌∙◌, ap}
use Rattle.std.specs.declared.cmp.Ordering.{Ordering}
use Rattle.std.specs.declared.cmp.Ordering.TheVariants.{Less, Equal, Greater}
use Rattle.std.specs.Ordering.{is_lt, ordering_then}
use Rattle.std.specs.Cmp.Lexicographic.{slice_cmp}
use Rattle.reg_entry.specs.Objects.{bytes_before}

-- the first that isn't equal decides
pub first_decides : (less same : Bool) (o : Ordering) → is_lt (ordering_then (cond less Less (cond same Equal Greater)) o) ≡ less || (same && is_lt o)
first_decides true same o = refl
first_decides false true o = refl
first_decides false false o = refl

pub bytes_in_order : (xs ys : List ℕ) → is_lt (slice_cmp nat_cmp xs ys) ≡ bytes_before xs ys
bytes_in_order [] [] = refl
bytes_in_order [] (y ∷ ys) = refl
bytes_in_order (x ∷ xs) [] = refl
bytes_in_order (x ∷ xs) (y ∷ ys) =
    first_decides (nat_lt x y) (x == y) (slice_cmp nat_cmp xs ys) ∙ ap (λ b. nat_lt x y || ((x == y) && b)) (bytes_in_order xs ys)
