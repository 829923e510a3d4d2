use Rattle.std.proofs.Common.{ℕ, List, ◌≡◌, ◌+◌, ◌*◌, ◌-◌, ◌^◌, ◌<◌, ◌≤◌, length, take, drop, arith, length-take, length-drop, get_or, sym, subst}
use Rattle.mirror_core.proofs.Values.{value_bound, value_fits}
use Rattle.mirror_core.proofs.names.+labels_value.Goals as goal

-- what the first label and the value of the others make
made : (b label radix rest : ℕ) (labels : List ℕ) → 1 ≤ length labels → label ≡ get_or labels 0 0 → get_or labels 0 0 < 2 ^ b → radix ≡ 2 ^ b
    → rest < 2 ^ (b * length (take (length labels - 1) (drop 1 labels))) → label + radix * rest < 2 ^ (b * length labels)
made b label radix rest labels some first low is high =
    subst (λ (k : ℕ). label + k * rest < 2 ^ (b * length labels)) (sym is)
    (value_bound b label rest (length labels) (length (take (length labels - 1) (drop 1 labels)))
    (omega (arith, length-take (length labels - 1) (drop 1 labels), length-drop 1 labels)) (omega (arith, first, low)) high)

pub returns-in-len1-up-clause-bound : goal.returns-in-len1-up-clause-bound
returns-in-len1-up-clause-bound t c =
    made _ _ _ _ _ c.in-len1-up.len_at_least c.from.ensures (c.requires.bounds 0 0 (omega arith)) c.radix.ensures c.labels_value.ensures.bound

fits : (b label radix rest n : ℕ) → b * n ≤ 128 → radix ≡ 2 ^ b → label + radix * rest < 2 ^ (b * n) → label + radix * rest < 2 ^ 128
fits b label radix rest n few is h = subst (λ (k : ℕ). label + k * rest < 2 ^ 128) (sym is) (value_fits b label rest n few (subst (λ (k : ℕ). label + k * rest < 2 ^ (b * n)) is h))

pub overflow_mul-result : goal.overflow_mul-result
overflow_mul-result t c =
    let all = fits _ _ _ _ _ c.requires.few c.radix.ensures (made _ _ _ _ _ c.in-len1-up.len_at_least c.from.ensures (c.requires.bounds 0 0 (omega arith)) c.radix.ensures c.labels_value.ensures.bound) in
    omega (arith, all)

pub overflow_add-result : goal.overflow_add-result
overflow_add-result t c =
    let all = fits _ _ _ _ _ c.requires.few c.radix.ensures (made _ _ _ _ _ c.in-len1-up.len_at_least c.from.ensures (c.requires.bounds 0 0 (omega arith)) c.radix.ensures c.labels_value.ensures.bound) in
    omega (arith, all)
