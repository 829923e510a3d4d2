-- The blocks at which the zones of a range are cut: blocks of a length for cuts, inside the range, rising and apart.
use Rattle.std.proofs.Common.{◌≡◌, ℕ, zero, suc, ◌+◌, ◌-◌, ◌*◌, ◌/◌, ◌%◌, ◌^◌, ◌<◌, ◌≤◌, Bool, true, false, ◌&&◌, nat_le, inl, inr, List, [], ◌∷◌, ◌++◌, refl, sym, ◌∙◌, ap, subst, arith}
use Rattle.std.proofs.Math.Nat.{pow-suc, mul-mod_left, add-mod_right, mul_assoc, zero-mod}
use Rattle.std.proofs.lemmas.Bool.{cases_Bool, and_parts, leb-true, cond-true, cond-false}
use Rattle.std.proofs.lemmas.Nat.{pow_pos, div-add-mod'}
use Rattle.num_range.specs.declared.space.Space.{Space}
use Rattle.num_range.specs.declared.space.Space.TheVariants.{Asn, Ipv4, Ipv6}
use Rattle.num_range.specs.Space.{width_of}
use Rattle.num_range.specs.Range.{PlainRange}
use Rattle.num_range.specs.Block.{block_size, block_of}
use Rattle.num_range.specs.Cover.{is_part_of, has_some_of, blocks_inside, is_cut_length, longest_cut, reverse_cuts}

-- ---- sizes

size_halves : (space : Space) (len : ℕ) → len < width_of space → block_size space len ≡ block_size space (len + 1) + block_size space (len + 1)
size_halves space len h =
    let bits : ℕ = width_of space - (len + 1) in
    let e : width_of space - len ≡ suc bits = omega arith in
    let double : 2 ^ suc bits ≡ 2 ^ bits * 2 = pow-suc 2 bits in
    ap (λ n. 2 ^ n) e ∙ (let sum : 2 ^ suc bits ≡ 2 ^ bits + 2 ^ bits = omega arith in sum)

-- a multiple of twice a number is one of the number
multiple_of_half : (n m : ℕ) → n % (m + m) ≡ 0 → n % m ≡ 0
multiple_of_half n m e =
    let parts : n / (m + m) * (m + m) + n % (m + m) ≡ n = div-add-mod' n (m + m) in
    let twice : m + m ≡ 2 * m = omega arith in
    let count : ℕ = n / (m + m) in
    let whole : count * (m + m) ≡ n = omega arith in
    let product : (count * 2) * m ≡ n = mul_assoc count 2 m ∙ ap (λ x. count * x) (sym twice) ∙ whole in
    ap (λ x. x % m) (sym product) ∙ mul-mod_left (count * 2) m

-- ---- what halving finds

-- the block of an asked length
pub record IsAskedBlock (asked : ℕ → Bool) (b : PlainRange) : Type 0 where
  pub len : ℕ
  pub is_asked : asked len ≡ true
  pub fits : len ≤ width_of b.space
  pub aligned : b.first % block_size b.space len ≡ 0
  pub is_block : b ≡ block_of b.space b.first len

-- one of the blocks of a range, at or above a number
pub record IsFoundIn (asked : ℕ → Bool) (r : PlainRange) (low : ℕ) (b : PlainRange) : Type 0 where
  pub of_space : b.space ≡ r.space
  pub above : low ≤ b.first
  pub begins : r.first ≤ b.first
  pub order : b.first ≤ b.last
  pub ends : b.last ≤ r.last
  pub block : IsAskedBlock asked b

-- the blocks rise between two numbers
abbrev pub RiseIn : (ℕ → Bool) → PlainRange → ℕ → ℕ → List PlainRange → Type 0
RiseIn asked r low end [] = low ≤ end
RiseIn asked r low end (b ∷ bs) = IsFoundIn asked r low b × RiseIn asked r (b.last + 1) end bs

rise_lower : (asked : ℕ → Bool) (r : PlainRange) (low high end : ℕ) (bs : List PlainRange) → low ≤ high → RiseIn asked r high end bs → RiseIn asked r low end bs
rise_lower asked r low high end [] h rises = omega arith
rise_lower asked r low high end (b ∷ bs) h rises = (
  record {
    of_space = rises.0.of_space;
    above = let a = rises.0.above in omega arith;
    begins = rises.0.begins;
    order = rises.0.order;
    ends = rises.0.ends;
    block = rises.0.block;
  },
  rises.1,
)

rise_append : (asked : ℕ → Bool) (r : PlainRange) (low mid end : ℕ) (bs cs : List PlainRange) → RiseIn asked r low mid bs → RiseIn asked r mid end cs
    → RiseIn asked r low end (bs ++ cs)
rise_append asked r low mid end [] cs h k = rise_lower asked r low mid end cs h k
rise_append asked r low mid end (b ∷ bs) cs h k = (h.0, rise_append asked r (b.last + 1) mid end bs cs h.1 k)

-- a place where halving looks: so many lengths are left, and it starts at a multiple of its size
record IsPlace (space : Space) (left len start : ℕ) : Type 0 where
  fits : len + left ≤ width_of space
  aligned : start % block_size space len ≡ 0

whole_rises : (asked : ℕ → Bool) (r : PlainRange) (left len start : ℕ) → IsPlace r.space left len start
    → (asked len && is_part_of (block_of r.space start len) r) ≡ true
    → RiseIn asked r start (start + block_size r.space len) (block_of r.space start len ∷ [])
whole_rises asked r left len start place e =
    let size : ℕ = block_size r.space len in
    let pos : 0 < size = pow_pos (width_of r.space - len) in
    let p = and_parts (asked len) (is_part_of (block_of r.space start len) r) e in
    let q = and_parts (nat_le r.first start) (nat_le (start + (size - 1)) r.last) p.1 in
    let fits = place.fits in (
      record {
        of_space = refl;
        above = omega arith;
        begins = leb-true r.first start q.0;
        order = omega arith;
        ends = leb-true (start + (size - 1)) r.last q.1;
        block = record { len = len; is_asked = p.0; fits = omega arith; aligned = place.aligned; is_block = refl };
      },
      (let end : start + (size - 1) + 1 ≤ start + size = omega arith in end),
    )

-- the cases of the definition
blocks_whole : (asked : ℕ → Bool) (r : PlainRange) (left len start : ℕ) → (asked len && is_part_of (block_of r.space start len) r) ≡ true
    → blocks_inside asked r (suc left) len start ≡ block_of r.space start len ∷ []
unfolding blocks_inside
blocks_whole asked r left len start e = rw (e, blocks_inside)

blocks_missed : (asked : ℕ → Bool) (r : PlainRange) (left len start : ℕ) → (asked len && is_part_of (block_of r.space start len) r) ≡ false
    → has_some_of (block_of r.space start len) r ≡ false → blocks_inside asked r (suc left) len start ≡ []
unfolding blocks_inside
blocks_missed asked r left len start e missed = rw (e, missed, blocks_inside)

blocks_met : (asked : ℕ → Bool) (r : PlainRange) (left len start : ℕ) → (asked len && is_part_of (block_of r.space start len) r) ≡ false
    → has_some_of (block_of r.space start len) r ≡ true
    → blocks_inside asked r (suc left) len start
    ≡ blocks_inside asked r left (len + 1) start ++ blocks_inside asked r left (len + 1) (start + block_size r.space (len + 1))
unfolding blocks_inside
blocks_met asked r left len start e met = rw (e, met, blocks_inside)

blocks_rise : (asked : ℕ → Bool) (r : PlainRange) (left len start : ℕ) → IsPlace r.space left len start
    → RiseIn asked r start (start + block_size r.space len) (blocks_inside asked r left len start)
unfolding blocks_inside
blocks_rise asked r zero len start place =
    let block : PlainRange = block_of r.space start len in
    elim (cases_Bool (asked len && is_part_of block r)) [
      | inl e ↦
          subst (RiseIn asked r start (start + block_size r.space len)) (sym (cond-true (asked len && is_part_of block r) (block ∷ []) [] e))
          (whole_rises asked r zero len start place e)
      | inr e ↦
          subst (RiseIn asked r start (start + block_size r.space len)) (sym (cond-false (asked len && is_part_of block r) (block ∷ []) [] e))
          (let h : start ≤ start + block_size r.space len = omega arith in h)
    ]
blocks_rise asked r (suc left) len start place =
    let block : PlainRange = block_of r.space start len in
    let half : ℕ = block_size r.space (len + 1) in
    let fits = place.fits in
    let halves : block_size r.space len ≡ half + half = size_halves r.space len (omega arith) in
    let first : start % half ≡ 0 = multiple_of_half start half (ap (λ n. start % n) (sym halves) ∙ place.aligned) in
    let left_place : IsPlace r.space left (len + 1) start = record { fits = omega arith; aligned = first } in
    let right_place : IsPlace r.space left (len + 1) (start + half) = record { fits = omega arith; aligned = add-mod_right start half ∙ first } in
    let lefts = blocks_rise asked r left (len + 1) start left_place in
    let rights = blocks_rise asked r left (len + 1) (start + half) right_place in
    let Rise : List PlainRange → Type 0 = RiseIn asked r start (start + block_size r.space len) in
    elim (cases_Bool (asked len && is_part_of block r)) [
      | inl e ↦ subst Rise (sym (blocks_whole asked r left len start e)) (whole_rises asked r (suc left) len start place e)
      | inr e ↦ elim (cases_Bool (has_some_of block r)) [
        | inl met ↦
            subst Rise (sym (blocks_met asked r left len start e met))
            (subst (λ n. RiseIn asked r start n (blocks_inside asked r left (len + 1) start ++ blocks_inside asked r left (len + 1) (start + half)))
            (let sum : start + half + half ≡ start + block_size r.space len = omega arith in sum)
            (rise_append asked r start (start + half) (start + half + half) (blocks_inside asked r left (len + 1) start) (blocks_inside asked r left (len + 1) (start + half)) lefts rights))
        | inr missed ↦
            subst Rise (sym (blocks_missed asked r left len start e missed))
            (let h : start ≤ start + block_size r.space len = omega arith in h)
      ]
    ]

longest_cut_fits : (space : Space) → longest_cut space ≤ width_of space
longest_cut_fits Asn = omega arith
longest_cut_fits Ipv4 = omega arith
longest_cut_fits Ipv6 = omega arith

-- the reverse cuts of a range
pub cuts_rise : (r : PlainRange) → RiseIn (is_cut_length r.space) r 0 (block_size r.space 0) (reverse_cuts r)
unfolding reverse_cuts
cuts_rise r =
    subst (λ n. RiseIn (is_cut_length r.space) r 0 n (blocks_inside (is_cut_length r.space) r (longest_cut r.space) 0 0))
    (let sum : 0 + block_size r.space 0 ≡ block_size r.space 0 = omega arith in sum)
    (blocks_rise (is_cut_length r.space) r (longest_cut r.space) 0 0
    (record { fits = let f = longest_cut_fits r.space in omega arith; aligned = zero-mod (block_size r.space 0) }))
