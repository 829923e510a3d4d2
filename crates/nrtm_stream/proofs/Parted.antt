-- A text parted at a byte.
use Rattle.std.proofs.Common.{◌≡◌, ◌≢◌, ℕ, ◌==◌, List, [], ◌∷◌, ◌++◌, All, Option, Some, None, refl, sym, ap, ◌∙◌, subst, inl, inr, eq-eqb, ne_eqb}
use Rattle.std.proofs.lemmas.Bool.{cases_eq, cond-true, cond-false}
use Rattle.std.proofs.lemmas.List.Elements.{All-head, All-tail}
use Rattle.std.proofs.lemmas.Option.{none-some, same_Some}
use Rattle.std.specs.Option.{option_map}
use Rattle.addr_text.specs.Reading.{parted_at}

-- the byte and a text behind it, parted at the first such byte
abbrev with_byte : ℕ → Option (List ℕ × List ℕ) → Option (List ℕ × List ℕ)
with_byte b parts = option_map (λ parts. (b ∷ parts.0, parts.1)) parts

-- the byte stands here for the first time
pub parted_here : (c : ℕ) (front back : List ℕ) → All (λ b. b ≢ c) front → parted_at c (front ++ c ∷ back) ≡ Some (front, back)
parted_here c [] back h = cond-true (c == c) (Some ([], back)) (with_byte c (parted_at c back)) (eq-eqb c c refl)
parted_here c (b ∷ front) back h =
    cond-false (b == c) (Some ([], front ++ c ∷ back)) (with_byte b (parted_at c (front ++ c ∷ back))) (ne_eqb b c (All-head (λ b. b ≢ c) b front h))
    ∙ ap (with_byte b) (parted_here c front back (All-tail (λ b. b ≢ c) b front h))

later : (c b : ℕ) (text : List ℕ) (o : Option (List ℕ × List ℕ)) (parts : List ℕ × List ℕ)
    → ((p : List ℕ × List ℕ) → o ≡ Some p → text ≡ p.0 ++ c ∷ p.1) → with_byte b o ≡ Some parts → b ∷ text ≡ parts.0 ++ c ∷ parts.1
later c b text None parts rest e = absurd (none-some parts e)
later c b text (Some p) parts rest e =
    subst (λ (q : List ℕ × List ℕ). b ∷ text ≡ q.0 ++ c ∷ q.1) (same_Some (b ∷ p.0, p.1) parts e) (ap (λ t. b ∷ t) (rest p refl))

-- the parts with the byte between them are the text
pub parted_text : (c : ℕ) (text : List ℕ) (parts : List ℕ × List ℕ) → parted_at c text ≡ Some parts → text ≡ parts.0 ++ c ∷ parts.1
parted_text c [] parts e = absurd (none-some parts e)
parted_text c (b ∷ bs) parts e =
    elim (cases_eq b c) [
      | inl same ↦
          let here : Some ([], bs) ≡ Some parts = sym (cond-true (b == c) (Some ([], bs)) (with_byte b (parted_at c bs)) (eq-eqb b c same)) ∙ e in
          subst (λ (q : List ℕ × List ℕ). b ∷ bs ≡ q.0 ++ c ∷ q.1) (same_Some ([], bs) parts here) (ap (λ x. x ∷ bs) same)
      | inr other ↦
          later c b bs (parted_at c bs) parts (λ p. parted_text c bs p)
          (sym (cond-false (b == c) (Some ([], bs)) (with_byte b (parted_at c bs)) (ne_eqb b c other)) ∙ e)
    ]
