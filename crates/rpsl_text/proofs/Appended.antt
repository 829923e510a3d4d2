-- Attributes that are appended one behind the other.
use Rattle.std.proofs.Common.{◌≡◌, ℕ, List, [], ◌++◌, append_assoc, append-nil, ap, sym, ◌∙◌}
use Rattle.rpsl_text.specs.Object.{attribute_line}

-- one more, and then the others
pub next : (begun mid new line more : List ℕ) → mid ≡ begun ++ line → new ≡ mid ++ more → new ≡ begun ++ (line ++ more)
next begun mid new line more one others = others ∙ ap (λ (t : List ℕ). t ++ more) one ∙ append_assoc begun line more

pub last : (begun new line : List ℕ) → new ≡ begun ++ line → new ≡ begun ++ (line ++ [])
last begun new line one = one ∙ ap (λ (t : List ℕ). begun ++ t) (sym (append-nil line))

-- the value is this one
pub valued : (begun new name read value : List ℕ) → new ≡ begun ++ attribute_line (name, read) → read ≡ value → new ≡ begun ++ attribute_line (name, value)
valued begun new name read value one same = one ∙ ap (λ (v : List ℕ). begun ++ attribute_line (name, v)) same
