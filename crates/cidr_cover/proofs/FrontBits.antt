-- The length of the widest block at a range's front, by the zero bits of its first number and the bits of its size.
use Rattle.std.proofs.Common.{◌≡◌, ℕ, suc, ◌+◌, ◌-◌, ◌*◌, ◌%◌, ◌^◌, ◌<◌, ◌≤◌, min, inl, inr, subst, arith}
use Rattle.std.proofs.Math.Nat.{pow-suc, pow-le-pow_right}
use Rattle.std.proofs.lemmas.Nat.{pow_below}
use Rattle.std.proofs.lemmas.Bool.{cases_lt}
use Rattle.num_range.specs.declared.space.Space.{Space}
use Rattle.num_range.specs.declared.space.Space.TheVariants.{Asn, Ipv4, Ipv6}
use Rattle.num_range.specs.Space.{width_of}
use Rattle.num_range.specs.Range.{PlainRange, IsRange, size_of}
use Rattle.num_range.proofs.BlockEnds.{top-below}
use Rattle.cidr_cover.specs.Front.{IsFrontBlock}
use Rattle.cidr_cover.proofs.Sizes.{multiple_of_lesser}

pub width_small : (space : Space) → width_of space ≤ 128
width_small Asn = omega arith
width_small Ipv4 = omega arith
width_small Ipv6 = omega arith

-- the bits of a power of two that is no greater than another are no more
bits_within : (k bits : ℕ) → 2 ^ k ≤ 2 ^ bits → k ≤ bits
bits_within k bits h =
    elim (cases_lt bits k) [
      | inl lt ↦ let below : 2 ^ bits < 2 ^ k = pow_below bits k lt in omega arith
      | inr le ↦ le
    ]

pub size_bits_within : (r : PlainRange) (bits : ℕ) → IsRange r → 2 ^ bits ≤ size_of r → bits ≤ width_of r.space
size_bits_within r bits range h = let top = top-below r.space in bits_within bits (width_of r.space) (omega arith)

pub front_fits : (r : PlainRange) (zeros bits m : ℕ) → IsRange r → m ≡ min zeros bits → r.first % 2 ^ zeros ≡ 0 → 2 ^ bits ≤ size_of r
    → IsFrontBlock r (width_of r.space - m)
front_fits r zeros bits m range e aligned h =
    let within : bits ≤ width_of r.space = size_bits_within r bits range h in
    let back : m ≡ width_of r.space - (width_of r.space - m) = omega arith in
    let multiple : r.first % 2 ^ m ≡ 0 = multiple_of_lesser r.first m zeros (omega arith) aligned in
    let power : 2 ^ m ≤ 2 ^ bits = pow-le-pow_right (omega arith) (omega arith) in
    let ends : r.first + (2 ^ m - 1) ≤ r.last = omega arith in
    record {
      starts = (omega arith, omega arith, subst (λ k. r.first % 2 ^ k ≡ 0) back multiple);
      ends = subst (λ k. r.first + (2 ^ k - 1) ≤ r.last) back ends;
    }

pub front_widest : (r : PlainRange) (zeros bits m : ℕ) → IsRange r → m ≡ min zeros bits
    → ((k : ℕ) → k ≤ 128 → r.first % 2 ^ k ≡ 0 → k ≤ zeros) → size_of r < 2 * 2 ^ bits
    → (len : ℕ) → len < width_of r.space - m → IsFrontBlock r len → ⊥
front_widest r zeros bits m range e most h len shorter front =
    let small = width_small r.space in
    let k : ℕ = width_of r.space - len in
    let aligned : k ≤ zeros = most k (omega arith) front.starts.2 in
    let next : 2 ^ suc bits ≡ 2 ^ bits * 2 = pow-suc 2 bits in
    let ends = front.ends in
    elim (cases_lt bits k) [
      | inl above ↦ let power : 2 ^ suc bits ≤ 2 ^ k = pow-le-pow_right (omega arith) (omega arith) in omega arith
      | inr le ↦ omega arith
    ]
