-- The first of the rising names is the least.
use Rattle.std.proofs.Common.{◌≡◌, ◌≢◌, ℕ, List, [], ◌∷◌, map, nat_cmp, Less, Equal, Greater, All}
use Rattle.std.specs.Cmp.{tied_itself}
use Rattle.std.specs.Cmp.Lexicographic.{slice_cmp}
use Rattle.std.specs.List.{AllByRecursion}
use Rattle.std.specs.List.Sorted.{IsStrictlySortedBy}
use Rattle.std.proofs.lemmas.Cmp.{nat_list_cmp_total}
use Rattle.std.proofs.lemmas.List.Elements.{All-from_recursion}
use Rattle.policy_table.specs.Hostmasters.{AreRising}
use Rattle.policy_table.specs.Policy.{first_name}

above : (name : List ℕ) (names : List (List ℕ)) → AllByRecursion (λ n. slice_cmp nat_cmp name n ≡ Less) names → AllByRecursion (λ n. slice_cmp nat_cmp name n ≢ Greater) names
above name [] h = tt
above name (n ∷ names) h = (λ e. cc, above name names h.1)

least_by_recursion : (hs : List (List ℕ × List ℕ)) → AreRising hs → AllByRecursion (λ n. slice_cmp nat_cmp (first_name hs) n ≢ Greater) (map (λ h. h.0) hs)
unfolding IsStrictlySortedBy
least_by_recursion [] h = tt
least_by_recursion (h ∷ hs) rising =
    let itself : slice_cmp nat_cmp h.0 h.0 ≡ Equal = tied_itself nat_list_cmp_total h.0 in
    (λ e. cc, above h.0 (map (λ x. x.0) hs) rising.0)

pub least_name : (hs : List (List ℕ × List ℕ)) → AreRising hs → All (λ n. slice_cmp nat_cmp (first_name hs) n ≢ Greater) (map (λ h. h.0) hs)
least_name hs rising = All-from_recursion _ _ (least_by_recursion hs rising)
