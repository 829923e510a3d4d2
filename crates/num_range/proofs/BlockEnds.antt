-- A block starts at a multiple of its size and never ends past its space.
use Rattle.std.proofs.Common.{◌≡◌, ℕ, ◌+◌, ◌-◌, ◌*◌, ◌/◌, ◌%◌, ◌^◌, ◌<◌, ◌≤◌, refl, sym, ◌∙◌, ap, subst, arith, lit≤}
use Rattle.std.proofs.Math.Nat.{div-lt_iff_lt-mul, mul_comm, mul-mod_left, pow-le-pow_right}
use Rattle.std.proofs.lemmas.Nat.{mul-add-lt, pow-add, div-add-mod', pow_pos}
use Rattle.num_range.specs.declared.space.Space.{Space}
use Rattle.num_range.specs.declared.space.Space.TheVariants.{Asn, Ipv4, Ipv6}
use Rattle.num_range.specs.Space.{width_of, top_of}
use Rattle.num_range.specs.Block.{block_size, IsBlockStart}

-- the numbers of a space are those of its width
pub top-below : (space : Space) → top_of space + 1 ≡ 2 ^ width_of space
top-below Asn = refl
top-below Ipv4 = refl
top-below Ipv6 = refl

-- they fit a `u128`
pub top_fits : (space : Space) → top_of space < 2 ^ 128
top_fits Asn = omega arith
top_fits Ipv4 = omega arith
top_fits Ipv6 = omega arith

-- the block that holds v, of the blocks of 2 ^ (width - len) numbers, ends below 2 ^ width
ends-below : (width len v : ℕ) → len ≤ width → v < 2 ^ width → (v - v % 2 ^ (width - len)) + (2 ^ (width - len) - 1) < 2 ^ width
ends-below width len v h below =
    let size = 2 ^ (width - len) in
    let count = 2 ^ len in
    let e : (width - len) + len ≡ width = omega arith in
    let whole : 2 ^ width ≡ size * count = ap (λ k. 2 ^ k) (sym e) ∙ pow-add 2 (width - len) len in
    let pos : 0 < size = pow_pos (width - len) in
    let quotient : v / size < count = (div-lt_iff_lt-mul {k = size} {x = v} {y = count} pos).1 (subst (λ n. v < n) (whole ∙ mul_comm size count) below) in
    let inside = mul-add-lt (v / size) size (size - 1) count quotient (omega arith) in
    let parts = div-add-mod' v size in
    omega arith

pub block_ends : (space : Space) (start len : ℕ) → IsBlockStart space start len → start + (block_size space len - 1) ≤ top_of space
block_ends space start len h =
    let t = top-below space in
    let e = ends-below (width_of space) len start h.0 (omega arith) in
    omega arith

pub block_fits : (space : Space) (start len : ℕ) → IsBlockStart space start len → start + (block_size space len - 1) < 2 ^ 128
block_fits space start len h =
    let t = top_fits space in
    let e = block_ends space start len h in
    omega arith

-- what is past a block's start taken away leaves the start
pub start_is_multiple : (v size : ℕ) → (v - v % size) % size ≡ 0
start_is_multiple v size =
    let e : v - v % size ≡ v / size * size = let parts = div-add-mod' v size in omega arith in
    ap (λ n. n % size) e ∙ mul-mod_left (v / size) size

-- a block of IPv6 addresses of length 3 or more has some numbers, and no more than 2000::/3
pub unicast_block_size : (len : ℕ) → 3 ≤ len → (1 ≤ 2 ^ (128 - len)) × (2 ^ (128 - len) ≤ 2 ^ 125)
unicast_block_size len h =
    let below : 128 - len ≤ 125 = omega arith in
    (pow_pos (128 - len), pow-le-pow_right (lit≤ tt) below)
