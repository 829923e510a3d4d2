-- A name that is no class's.
use Rattle.std.proofs.Common.{◌≡◌, ℕ, Bool, false, List, codes, bytes_eq, Option, None, refl, sym, ap, ◌∙◌}
use Rattle.mirror_core.specs.Keys.{Class, class_named}

pub differs : (name given word : List ℕ) (r : Bool) → r ≡ bytes_eq name given → given ≡ word → r ≡ false → bytes_eq name word ≡ false
differs name given word r is same other = ap (bytes_eq name) (sym same) ∙ sym is ∙ other

pub none_named : (name : List ℕ) → bytes_eq name (codes "organisation") ≡ false → bytes_eq name (codes "as-block") ≡ false
    → bytes_eq name (codes "inetnum") ≡ false → bytes_eq name (codes "inet6num") ≡ false → bytes_eq name (codes "sub-assignment") ≡ false
    → bytes_eq name (codes "domain") ≡ false → ◌≡◌ {A = Option Class} (class_named name) None
none_named name a b c d e f = rw (a, b, c, d, e, f) refl
