-- Elements of lists, and lists of ranges that rise.
use Rattle.std.proofs.Common.{◌≡◌, ℕ, zero, suc, ◌+◌, ◌<◌, ◌≤◌, Bool, true, List, [], ◌∷◌, ◌++◌, length, filter, refl, sym, ap, ◌∙◌, subst, inl, inr, ◌⊎◌, slice_index_or, arith}
use Rattle.std.specs.List.{All, Contains}
use Rattle.std.proofs.lemmas.Bool.{cases_Bool, cond-true, cond-false, false_from_ne_true}
use Rattle.num_range.specs.Range.{PlainRange}
use Rattle.cidr_cover.specs.Blocks.{IsRising}

-- ---- elements

abbrev pub Elem : {X : Type 0} → X → List X → Type 0
Elem x [] = ⊥
Elem x (y ∷ ys) = (y ≡ x) ⊎ Elem x ys

pub elem_of_contains : {X : Type 0} (x : X) (ys : List X) (k : ℕ) → k < length ys → slice_index_or ys k x ≡ x → Elem x ys
elem_of_contains x [] k lt e = omega arith
elem_of_contains x (y ∷ ys) zero lt e = inl e
elem_of_contains x (y ∷ ys) (suc k) lt e = inr (elem_of_contains x ys k (omega arith) e)

pub contains_of_elem : {X : Type 0} (x : X) (ys : List X) → Elem x ys → Contains ys x
contains_of_elem x [] h = absurd h
contains_of_elem x (y ∷ ys) (inl e) = (0, omega arith, e)
contains_of_elem x (y ∷ ys) (inr h) = let rest = contains_of_elem x ys h in (suc rest.0, omega (arith, rest.1), rest.2)

pub elem_append : {X : Type 0} (x : X) (ys zs : List X) → Elem x (ys ++ zs) → Elem x ys ⊎ Elem x zs
elem_append x [] zs h = inr h
elem_append x (y ∷ ys) zs (inl e) = inl (inl e)
elem_append x (y ∷ ys) zs (inr h) = elim (elem_append x ys zs h) [ inl l ↦ inl (inr l) | inr r ↦ inr r ]

-- ---- elements that pass a test

module _ {X : Type 0} (p : X → Bool) where
  pub elem_filter : (x : X) (ys : List X) → Elem x (filter p ys) → Elem x ys × (p x ≡ true)
  elem_filter x [] h = absurd h
  elem_filter x (y ∷ ys) h = elim (cases_Bool (p y)) [
    | inl t ↦ elim (subst (Elem x) (cond-true (p y) (y ∷ filter p ys) (filter p ys) t) h) [
      | inl e ↦ (inl e, ap p (sym e) ∙ t)
      | inr r ↦ let rest = elem_filter x ys r in (inr rest.0, rest.1)
    ]
    | inr f ↦ let rest = elem_filter x ys (subst (Elem x) (cond-false (p y) (y ∷ filter p ys) (filter p ys) f) h) in (inr rest.0, rest.1)
  ]

  pub filter_elem : (x : X) (ys : List X) → Elem x ys → p x ≡ true → Elem x (filter p ys)
  filter_elem x [] h t = absurd h
  filter_elem x (y ∷ ys) (inl e) t =
      subst (Elem x) (sym (cond-true (p y) (y ∷ filter p ys) (filter p ys) (ap p e ∙ t))) (inl e)
  filter_elem x (y ∷ ys) (inr h) t = elim (cases_Bool (p y)) [
    | inl u ↦ subst (Elem x) (sym (cond-true (p y) (y ∷ filter p ys) (filter p ys) u)) (inr (filter_elem x ys h t))
    | inr f ↦ subst (Elem x) (sym (cond-false (p y) (y ∷ filter p ys) (filter p ys) f)) (filter_elem x ys h t)
  ]

  pub none_passes : (ys : List X) → ((x : X) → Elem x ys → p x ≡ true → ⊥) → filter p ys ≡ []
  none_passes [] none = refl
  none_passes (y ∷ ys) none =
      cond-false (p y) (y ∷ filter p ys) (filter p ys) (false_from_ne_true (p y) (none y (inl refl)))
      ∙ none_passes ys (λ x h. none x (inr h))

-- ---- ranges that rise

abbrev pub RisesAbove : ℕ → List PlainRange → Type 0
RisesAbove low [] = Unit {0}
RisesAbove low (b ∷ bs) = (low ≤ b.first) × (b.first ≤ b.last) × RisesAbove (b.last + 1) bs

pub rises_lower : (low lower : ℕ) (bs : List PlainRange) → lower ≤ low → RisesAbove low bs → RisesAbove lower bs
rises_lower low lower [] le h = tt
rises_lower low lower (b ∷ bs) le h = let at = h.0 in (omega arith, h.1, h.2)

pub rises_filtered : (p : PlainRange → Bool) (low : ℕ) (bs : List PlainRange) → RisesAbove low bs → RisesAbove low (filter p bs)
rises_filtered p low [] h = tt
rises_filtered p low (b ∷ bs) h = elim (cases_Bool (p b)) [
  | inl t ↦ subst (RisesAbove low) (sym (cond-true (p b) (b ∷ filter p bs) (filter p bs) t)) (h.0, h.1, rises_filtered p (b.last + 1) bs h.2)
  | inr f ↦
      let at = h.0 in
      let within = h.1 in
      subst (RisesAbove low) (sym (cond-false (p b) (b ∷ filter p bs) (filter p bs) f))
      (rises_lower (b.last + 1) low (filter p bs) (omega arith) (rises_filtered p (b.last + 1) bs h.2))
]

pub above_low : (low : ℕ) (b : PlainRange) (bs : List PlainRange) → RisesAbove low bs → Elem b bs → (low ≤ b.first) × (b.first ≤ b.last)
above_low low b [] rises h = absurd h
above_low low b (c ∷ cs) rises (inl e) = subst (λ (x : PlainRange). (low ≤ x.first) × (x.first ≤ x.last)) e (rises.0, rises.1)
above_low low b (c ∷ cs) rises (inr h) =
    let rest = above_low (c.last + 1) b cs rises.2 h in
    let at = rises.0 in
    let within = rises.1 in
    let above = rest.0 in
    (omega arith, rest.1)

rises_from : (low : ℕ) (bs : List PlainRange) → All (λ b. b.first ≤ b.last) bs → IsRising bs → All (λ b. low ≤ b.first) bs → RisesAbove low bs
rises_from low [] each pairs above = tt
rises_from low (b ∷ bs) each pairs above = (
  above 0 b (omega arith),
  each 0 b (omega arith),
  rises_from (b.last + 1) bs
      (λ k d lt. each (suc k) d (omega arith))
      (λ i j d lt within. pairs (suc i) (suc j) d (omega arith) (omega arith))
      (λ k d lt. let up = pairs 0 (suc k) d (omega arith) (omega arith) in omega arith),
)

at_place : {X : Type 0} (xs : List X) (k : ℕ) (d : X) → k < length xs → Elem (slice_index_or xs k d) xs
at_place [] k d lt = omega arith
at_place (x ∷ xs) zero d lt = inl refl
at_place (x ∷ xs) (suc k) d lt = inr (at_place xs k d (omega arith))

pub rises_of_rising : (bs : List PlainRange) → ((b : PlainRange) → Elem b bs → b.first ≤ b.last) → IsRising bs → RisesAbove 0 bs
rises_of_rising bs each pairs =
    rises_from 0 bs (λ k d lt. each (slice_index_or bs k d) (at_place bs k d lt)) pairs (λ k d lt. omega arith)

-- the first of a rising list comes again in no later place
pub not_again : (low : ℕ) (b : PlainRange) (bs : List PlainRange) → RisesAbove low (b ∷ bs) → Elem b bs → ⊥
not_again low b bs rises h = let again = (above_low (b.last + 1) b bs rises.2 h).0 in let within = rises.1 in absurd (omega arith)

-- rising lists of the same ranges are the same
pub same_rising : (low : ℕ) (bs cs : List PlainRange) → RisesAbove low bs → RisesAbove low cs → ((b : PlainRange) → Elem b bs → Elem b cs)
    → ((b : PlainRange) → Elem b cs → Elem b bs) → bs ≡ cs
same_rising low [] [] rb rc to from = refl
same_rising low [] (c ∷ cs) rb rc to from = absurd (from c (inl refl))
same_rising low (b ∷ bs) [] rb rc to from = absurd (to b (inl refl))
same_rising low (b ∷ bs) (c ∷ cs) rb rc to from =
    ap (λ (x : PlainRange). x ∷ bs) same
    ∙ ap (λ (xs : List PlainRange). c ∷ xs) (same_rising (c.last + 1) bs cs down_rises rc.2 to_rest from_rest)
  where
    same : b ≡ c
    same = elim (to b (inl refl)) [
      | inl e ↦ sym e
      | inr in_cs ↦ elim (from c (inl refl)) [
        | inl e ↦ e
        | inr in_bs ↦
            let up = (above_low (c.last + 1) b cs rc.2 in_cs).0 in
            let down = (above_low (b.last + 1) c bs rb.2 in_bs).0 in
            let within = rb.1 in
            let also = rc.1 in
            absurd (omega arith)
      ]
    ]

    down_rises : RisesAbove (c.last + 1) bs
    down_rises = subst (λ (x : PlainRange). RisesAbove (x.last + 1) bs) same rb.2

    to_rest : (x : PlainRange) → Elem x bs → Elem x cs
    to_rest x h = elim (to x (inr h)) [
      | inl e ↦ absurd (not_again low b bs rb (subst (λ (y : PlainRange). Elem y bs) (sym (same ∙ e)) h))
      | inr r ↦ r
    ]

    from_rest : (x : PlainRange) → Elem x cs → Elem x bs
    from_rest x h = elim (from x (inr h)) [
      | inl e ↦ absurd (not_again low c cs rc (subst (λ (y : PlainRange). Elem y cs) (sym (sym same ∙ e)) h))
      | inr r ↦ r
    ]
