-- The number that labels say, and the block whose addresses share it.
use Rattle.std.proofs.Common.{◌≡◌, ◌↔◌, ℕ, ◌+◌, ◌-◌, ◌*◌, ◌^◌, ◌<◌, ◌≤◌, true, List, length, Option, None, Some, IsSome, IfSome, sym, ap, ◌∙◌, subst, arith}
use Rattle.std.proofs.Math.Pow.{pow_mono}
use Rattle.std.proofs.Math.Nat.{mul-add, mul-one, mul-mod_left}
use Rattle.std.proofs.lemmas.Bool.{cond-true}
use Rattle.std.proofs.lemmas.Bool.Decides.{nat_tests}
use Rattle.std.proofs.lemmas.Nat.{mul-add-lt, pow-add, pow_pos}
use Rattle.num_range.specs.declared.space.Space.{Space}
use Rattle.num_range.specs.declared.space.Space.TheVariants.{Asn, Ipv4, Ipv6}
use Rattle.num_range.specs.Space.{width_of, top_of}
use Rattle.num_range.specs.Range.{PlainRange}
use Rattle.num_range.specs.Block.{block_size, block_of, IsBlockStart}
use Rattle.num_range.specs.Cover.{is_cut_length}
use Rattle.reverse_zone.specs.Zone.{label_bits}
use Rattle.mirror_core.specs.Keys.{labels_value, block_of_labels}

-- one more label before others
pub value_bound : (b label rest n more : ℕ) → n ≡ 1 + more → label < 2 ^ b → rest < 2 ^ (b * more) → label + 2 ^ b * rest < 2 ^ (b * n)
value_bound b label rest n more longer low high =
    let places : b * n ≡ b + b * more = ap (λ k. b * k) longer ∙ mul-add b 1 more ∙ ap (λ k. k + b * more) (mul-one b) in
    subst (λ k. label + 2 ^ b * rest < k) (sym (ap (λ k. 2 ^ k) places ∙ pow-add 2 b (b * more)))
    (omega (arith, mul-add-lt rest (2 ^ b) label (2 ^ (b * more)) high low))

pub value_fits : (b label rest n : ℕ) → b * n ≤ 128 → label + 2 ^ b * rest < 2 ^ (b * n) → label + 2 ^ b * rest < 2 ^ 128
value_fits b label rest n few h = omega (arith, pow_mono {i = b * n} {j = 128} few)

-- ---- where zones are cut

pub record IsCut (space : Space) (len : ℕ) : Type 0 where
  pub low : 16 ≤ len
  pub high : len ≤ 64
  pub width : len ≤ width_of space

pub cut_length : (space : Space) (len : ℕ) → is_cut_length space len ≡ true → IsCut space len
cut_length Asn len h = absurd (cc)
cut_length Ipv4 len h = record { low = grind (arith, nat_tests); high = grind (arith, nat_tests); width = grind (arith, nat_tests) }
cut_length Ipv6 len h = record { low = grind (arith, nat_tests); high = grind (arith, nat_tests); width = grind (arith, nat_tests) }

start_bound : (len more value : ℕ) → value < 2 ^ len → value * 2 ^ more < 2 ^ (len + more)
start_bound len more value h =
    subst (λ k. value * 2 ^ more < k) (sym (pow-add 2 len more)) (omega (arith, mul-add-lt value (2 ^ more) 0 (2 ^ len) h (pow_pos more)))

below_width : (space : Space) (len value : ℕ) → IsCut space len → value < 2 ^ len → value * block_size space len < 2 ^ width_of space
below_width space len value cut h =
    subst (λ k. value * block_size space len < 2 ^ k) (omega (arith, cut.width)) (start_bound len (width_of space - len) value h)

pub start_fits : (space : Space) (len value : ℕ) → IsCut space len → value < 2 ^ len → value * block_size space len < 2 ^ 128
start_fits Asn len value cut h = omega (arith, below_width Asn len value cut h)
start_fits Ipv4 len value cut h = omega (arith, below_width Ipv4 len value cut h)
start_fits Ipv6 len value cut h = omega (arith, below_width Ipv6 len value cut h)

below_top : (space : Space) (start : ℕ) → start < 2 ^ width_of space → start ≤ top_of space
below_top Asn start h = omega arith
below_top Ipv4 start h = omega arith
below_top Ipv6 start h = omega arith

begins : (space : Space) (len value : ℕ) → IsCut space len → value < 2 ^ len → IsBlockStart space (value * block_size space len) len
begins space len value cut h =
    (cut.width, below_top space (value * block_size space len) (below_width space len value cut h), mul-mod_left value (block_size space len))

here : (space : Space) (start len : ℕ) (o : Option PlainRange) → IsSome o ↔ IsBlockStart space start len → IsBlockStart space start len
    → IfSome o (λ r. r ≡ block_of space start len) → o ≡ Some (block_of space start len)
here space start len None some is h = absurd (let there = some.1 is in cc)
here space start len (Some r) some is h = ap Some h

pub block_read : (space : Space) (labels : List ℕ) (len value start : ℕ) (o : Option PlainRange) → len ≡ label_bits space * length labels
    → is_cut_length space len ≡ true → value ≡ labels_value (label_bits space) labels → value < 2 ^ len → start ≡ value * block_size space len
    → IsSome o ↔ IsBlockStart space start len → IfSome o (λ r. r ≡ block_of space start len) → o ≡ block_of_labels space labels
block_read space labels len value start o lens cut values bound starts some h =
    let is : IsBlockStart space start len = subst (λ k. IsBlockStart space k len) (sym starts) (begins space len value (cut_length space len cut) bound) in
    here space start len o some is h
    ∙ ap (λ (k : ℕ). Some (block_of space k len)) (starts ∙ ap (λ (v : ℕ). v * block_size space len) values)
    ∙ ap (λ (l : ℕ). Some (block_of space (labels_value (label_bits space) labels * block_size space l) l)) lens
    ∙ sym (cond-true (is_cut_length space (label_bits space * length labels)) _ None (ap (is_cut_length space) (sym lens) ∙ cut))
