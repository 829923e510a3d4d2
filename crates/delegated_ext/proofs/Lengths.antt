-- The prefix length of an IPv6 block, by its size.
use Rattle.std.proofs.Common.{◌≡◌, ℕ, zero, suc, ◌+◌, ◌-◌, ◌*◌, ◌^◌, ◌<◌, ◌≤◌, nat_le, inl, inr, ◌∙◌, subst, arith}
use Rattle.std.proofs.lemmas.Bool.{cases_lt, cond-true, cond-false, le-leb, lt-leb}
use Rattle.std.proofs.lemmas.Nat.{pow-add}
use Rattle.std.proofs.Math.Pow.{pow_mono}
use Rattle.num_range.specs.declared.space.Space.TheVariants.{Ipv6}
use Rattle.num_range.specs.Block.{block_size}
use Rattle.delegated_ext.specs.StatisticsText.{first_length, prefix_length}

-- blocks of more bits than the size has are larger
larger : (j k size : ℕ) → k < j → size < 2 * 2 ^ k → size < 2 ^ j
larger j k size lt h =
    let twice : 2 ^ (1 + k) ≡ 2 ^ 1 * 2 ^ k = pow-add 2 1 k in
    let more : 2 ^ (1 + k) ≤ 2 ^ j = pow_mono {i = 1 + k} {j = j} (omega arith) in
    omega arith

search_length : (lengths_left len k size : ℕ) → lengths_left + len ≡ 128 → k + len ≤ 128 → 2 ^ k ≤ size → size < 2 * 2 ^ k
    → first_length lengths_left len size ≡ 128 - k
search_length zero len k size all within least most = omega arith
search_length (suc lengths_left) len k size all within least most = elim (cases_lt k (128 - len)) [
  | inl lt ↦
      cond-false (nat_le (block_size Ipv6 len) size) len (first_length lengths_left (len + 1) size)
      (lt-leb (block_size Ipv6 len) size (larger (128 - len) k size lt most))
      ∙ search_length lengths_left (len + 1) k size (omega arith) (omega arith) least most
  | inr ge ↦
      let same : k ≡ 128 - len = omega arith in
      cond-true (nat_le (block_size Ipv6 len) size) len (first_length lengths_left (len + 1) size)
      (le-leb (block_size Ipv6 len) size (subst (λ j. 2 ^ j ≤ size) same least))
      ∙ (omega arith)
]

-- the length leaves out as many bits as the size has behind its first
pub length_of_size : (size k : ℕ) → k < 128 → 2 ^ k ≤ size → size < 2 * 2 ^ k → prefix_length size ≡ 128 - k
unfolding prefix_length
length_of_size size k lt least most = search_length 128 0 k size (omega arith) (omega arith) least most
