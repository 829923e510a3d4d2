-- The sizes of blocks are powers of two: each divides the greater ones, and is twice the next.
use Rattle.std.proofs.Common.{◌≡◌, ℕ, suc, ◌+◌, ◌-◌, ◌*◌, ◌/◌, ◌%◌, ◌^◌, ◌<◌, ◌≤◌, inl, inr, sym, ◌∙◌, ap, arith}
use Rattle.std.proofs.Math.Nat.{pow-suc, pow-le-pow_right, mul-mod_left, mod_self, mod-eq_of_lt, add-mod, zero-mod, mul-le-mul_right, mul_assoc}
use Rattle.std.proofs.lemmas.Bool.{cases_lt, cases_eq}
use Rattle.std.specs.Int.{next_multiple_of}
use Rattle.std.proofs.lemmas.Nat.{pow-add, pow_pos, div-add-mod', mod_below}
use Rattle.num_range.specs.declared.space.Space.{Space}
use Rattle.num_range.specs.Space.{width_of}
use Rattle.num_range.specs.Block.{block_size}

-- ---- multiples

pub multiple_is : (n d : ℕ) → n % d ≡ 0 → n / d * d ≡ n
multiple_is n d e = let parts : n / d * d + n % d ≡ n = div-add-mod' n d in omega arith

-- of two multiples the lesser is less by a whole step
pub multiples_apart : (a b d : ℕ) → a % d ≡ 0 → b % d ≡ 0 → a < b → a + d ≤ b
multiples_apart a b d ea eb lt =
    let wa : a / d * d ≡ a = multiple_is a d ea in
    let wb : b / d * d ≡ b = multiple_is b d eb in
    elim (cases_lt (a / d) (b / d)) [
      | inl below ↦
          let steps : (a / d + 1) * d ≤ b / d * d = mul-le-mul_right d (omega arith) in
          omega arith
      | inr above ↦
          let steps : b / d * d ≤ a / d * d = mul-le-mul_right d above in
          absurd (omega arith)
    ]

pub sum_of_multiples : (a b d : ℕ) → a % d ≡ 0 → b % d ≡ 0 → (a + b) % d ≡ 0
sum_of_multiples a b d ea eb = add-mod a b d ∙ ap (λ n. (n + b % d) % d) ea ∙ ap (λ n. (0 + n) % d) eb ∙ zero-mod d

-- a multiple of a power of two is one of each lesser power
pub multiple_of_lesser : (n j k : ℕ) → j ≤ k → n % 2 ^ k ≡ 0 → n % 2 ^ j ≡ 0
multiple_of_lesser n j k le e =
    let split : 2 ^ k ≡ 2 ^ (k - j) * 2 ^ j = ap (λ m. 2 ^ m) (let sum : k ≡ (k - j) + j = omega arith in sum) ∙ pow-add 2 (k - j) j in
    let whole : n / 2 ^ k * 2 ^ k ≡ n = multiple_is n (2 ^ k) e in
    let count : ℕ = n / 2 ^ k in
    let product : (count * 2 ^ (k - j)) * 2 ^ j ≡ n = mul_assoc count (2 ^ (k - j)) (2 ^ j) ∙ ap (λ m. count * m) (sym split) ∙ whole in
    ap (λ m. m % 2 ^ j) (sym product) ∙ mul-mod_left (count * 2 ^ (k - j)) (2 ^ j)

-- the least multiple that is no less than a number
pub next_multiple : (n d : ℕ) → 0 < d → (n ≤ next_multiple_of n d) × (next_multiple_of n d < n + d) × (next_multiple_of n d % d ≡ 0)
next_multiple n d pos =
    let parts : n / d * d + n % d ≡ n = div-add-mod' n d in
    let rest : n % d < d = mod_below n d pos in
    elim (cases_eq (n % d) 0) [
      | inl e ↦
          let more : (d - n % d) % d ≡ 0 = ap (λ m. m % d) (let whole : d - n % d ≡ d = omega arith in whole) ∙ mod_self d in
          let same : next_multiple_of n d ≡ n = omega arith in
          (omega arith, omega arith, ap (λ m. m % d) same ∙ e)
      | inr ne ↦
          let more : (d - n % d) % d ≡ d - n % d = mod-eq_of_lt (omega arith) in
          let next : next_multiple_of n d ≡ (n / d + 1) * d = omega arith in
          (omega arith, omega arith, ap (λ m. m % d) next ∙ mul-mod_left (n / d + 1) d)
    ]

-- ---- sizes of blocks

pub size_pos : (space : Space) (len : ℕ) → 0 < block_size space len
size_pos space len = pow_pos (width_of space - len)

-- the block of length 0 is the whole space
pub size_of_whole : (space : Space) → block_size space 0 ≡ 2 ^ width_of space
size_of_whole space = ap (λ k. 2 ^ k) (let e : width_of space - 0 ≡ width_of space = omega arith in e)

pub size_halves : (space : Space) (len : ℕ) → len < width_of space → block_size space len ≡ block_size space (len + 1) + block_size space (len + 1)
size_halves space len h =
    let bits : ℕ = width_of space - (len + 1) in
    let e : width_of space - len ≡ suc bits = omega arith in
    let double : 2 ^ suc bits ≡ 2 ^ bits * 2 = pow-suc 2 bits in
    ap (λ n. 2 ^ n) e ∙ (let sum : 2 ^ suc bits ≡ 2 ^ bits + 2 ^ bits = omega arith in sum)

pub size_falls : (space : Space) (len k : ℕ) → len ≤ k → block_size space k ≤ block_size space len
size_falls space len k h = pow-le-pow_right (omega arith) (omega arith)

pub multiple_of_longer : (space : Space) (n len k : ℕ) → len ≤ k → n % block_size space len ≡ 0 → n % block_size space k ≡ 0
multiple_of_longer space n len k h = multiple_of_lesser n (width_of space - k) (width_of space - len) (omega arith)

pub size_is_multiple : (space : Space) (len k : ℕ) → len ≤ k → block_size space len % block_size space k ≡ 0
size_is_multiple space len k h = multiple_of_longer space (block_size space len) len k h (mod_self (block_size space len))
