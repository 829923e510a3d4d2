-- A block's text, read in two ways.
use Rattle.std.proofs.Common.{◌≡◌, ℕ, List, Option, None, Some, IfSome, IfNone, refl, ap, ap₂}
use Rattle.num_range.specs.Number.{PlainNumber}
use Rattle.addr_text.specs.Block.{SpellsBlock}
use Rattle.addr_text.specs.Reading.{IsSpelled}

pub read_once : (text : List ℕ) (a b : Option (PlainNumber × ℕ)) → IfSome a (λ p. SpellsBlock text p.0 p.1)
    → IfNone a ((n : PlainNumber) (len : ℕ) → ¬ (SpellsBlock text n len)) → IsSpelled (λ p. SpellsBlock text p.0 p.1) b
    → ((m n : PlainNumber) (k l : ℕ) → SpellsBlock text m k → SpellsBlock text n l → (m ≡ n) × (k ≡ l)) → a ≡ b
read_once text None None some none h once = refl
read_once text None (Some y) some none h once = absurd (none y.0 y.1 h)
read_once text (Some x) None some none h once = absurd (h x some)
read_once text (Some x) (Some y) some none h once =
    let same = once x.0 y.0 x.1 y.1 some h in
    ap Some (ap₂ (λ (n : PlainNumber) (k : ℕ). (n, k)) same.0 same.1)
