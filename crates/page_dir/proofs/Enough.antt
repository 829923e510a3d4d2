-- Which pages hold enough, while pages change.
use Rattle.std.proofs.Common.{◌≡◌, ℕ, ◌+◌, ◌-◌, ◌<◌, ◌≤◌, List, [], length, set, ap, sym, ◌∙◌, arith, inl, inr, subst, length-set, length-append, ◌++◌, get_or-set_same, get_or-set_other}
use Rattle.std.specs.List.{insert, remove}
use Rattle.std.proofs.lemmas.Bool.{cases_eq, cases_lt}
use Rattle.std.proofs.lemmas.List.{get_or_past}
use Rattle.std.proofs.lemmas.List.Edits.{length-insert, length-remove, get_or-insert_below, get_or-insert_above, get_or-remove_below, get_or-remove_above}
use Rattle.page_dir.specs.Pages.{HoldsEnough, page_of}
use Rattle.page_dir.specs.Spread.{AreTidy, IsPlace}

-- a page that has as much as one that holds enough, and so has the one before it
enough_like : {T : Type 0} (ps qs : List (List T)) (i k : ℕ) → HoldsEnough ps k → length (page_of ps k) ≤ length (page_of qs i)
    → (0 < i → (0 < k) × (length (page_of ps (k - 1)) ≤ length (page_of qs (i - 1)))) → HoldsEnough qs i
enough_like ps qs i k h here before = record {
  filled = omega (arith, h.filled);
  both = λ more. let b = before more in omega (arith, h.both b.0, b.1);
}

same_length : {T : Type 0} (ps qs : List (List T)) (i k : ℕ) → page_of qs i ≡ page_of ps k → length (page_of ps k) ≤ length (page_of qs i)
same_length ps qs i k e = omega (arith, ap length e)

pub tidy_from_enough : {T : Type 0} (ps : List (List T)) (first until : ℕ) → first ≤ length ps → ((i : ℕ) → i < length ps → HoldsEnough ps i) → AreTidy ps first until
tidy_from_enough ps first until h all = record { below = λ i lt. all i (omega arith); above = λ i le lt. all i lt }

pub tidy_next : {T : Type 0} {ps : List (List T)} {i until : ℕ} → AreTidy ps i until → HoldsEnough ps i → AreTidy ps (i + 1) until
tidy_next {T} {ps} {i} t h = record {
  below = λ k lt. elim (cases_eq k i) [ inl e ↦ subst (HoldsEnough ps) (sym e) h | inr ne ↦ t.below k (omega arith) ];
  above = t.above;
}

pub tidy_wider : {T : Type 0} {ps : List (List T)} {first until more : ℕ} → until ≤ more → AreTidy ps first until → AreTidy ps first more
tidy_wider le t = record { below = t.below; above = λ k h. t.above k (omega arith) }

pub tidy-removed : {T : Type 0} (ps : List (List T)) (first until r : ℕ) → first ≤ r → r < until → r < length ps → AreTidy ps first until → AreTidy (remove ps r) first until
tidy-removed ps first until r low high there t =
    let len = length-remove ps r there in
    record {
      below = λ i lt. enough_like ps (remove ps r) i i (t.below i lt)
          (same_length ps (remove ps r) i i (get_or-remove_below ps r [] i (omega arith) there))
          (λ more. (more, same_length ps (remove ps r) (i - 1) (i - 1) (get_or-remove_below ps r [] (i - 1) (omega arith) there)));
      above = λ i le lt. enough_like ps (remove ps r) i (i + 1) (t.above (i + 1) (omega arith) (omega (arith, len)))
          (same_length ps (remove ps r) i (i + 1) (get_or-remove_above ps r [] i (omega arith) there))
          (λ more. (
            omega arith,
            same_length ps (remove ps r) (i - 1) (i + 1 - 1)
                (get_or-remove_above ps r [] (i - 1) (omega arith) there ∙ ap (page_of ps) (let e : i - 1 + 1 ≡ i + 1 - 1 = omega arith in e)),
          ));
    }

grown : {T : Type 0} (ps : List (List T)) (r : ℕ) (page : List T) → r < length ps → length (page_of ps r) ≤ length page
    → (k : ℕ) → length (page_of ps k) ≤ length (page_of (set ps r page) k)
grown ps r page there more k = elim (cases_eq k r) [
  | inl e ↦ subst (λ j. length (page_of ps j) ≤ length (page_of (set ps r page) j)) (sym e) (
      let same = ap length (get_or-set_same ps r page [] there) in omega (arith, same))
  | inr ne ↦ same_length ps (set ps r page) k k (get_or-set_other ps r k page [] ne)
]

-- a page that gets no smaller
pub tidy-grown : {T : Type 0} (ps : List (List T)) (first until r : ℕ) (page : List T) → r < length ps → length (page_of ps r) ≤ length page
    → AreTidy ps first until → AreTidy (set ps r page) first until
tidy-grown ps first until r page there more t =
    let len = length-set ps r page in
    let each = grown ps r page there more in
    record {
      below = λ i lt. enough_like ps (set ps r page) i i (t.below i lt) (each i) (λ h. (h, each (i - 1)));
      above = λ i le lt. enough_like ps (set ps r page) i i (t.above i le (omega (arith, len))) (each i) (λ h. (h, each (i - 1)));
    }

-- any other page in a place that is not known to be tidy
pub tidy-set : {T : Type 0} (ps : List (List T)) (first until r : ℕ) (page : List T) → first ≤ r → r + 2 ≤ until
    → AreTidy ps first until → AreTidy (set ps r page) first until
tidy-set ps first until r page low high t =
    let len = length-set ps r page in
    record {
      below = λ i lt. enough_like ps (set ps r page) i i (t.below i lt)
          (same_length ps (set ps r page) i i (get_or-set_other ps r i page [] (omega arith)))
          (λ h. (h, same_length ps (set ps r page) (i - 1) (i - 1) (get_or-set_other ps r (i - 1) page [] (omega arith))));
      above = λ i le lt. enough_like ps (set ps r page) i i (t.above i le (omega (arith, len)))
          (same_length ps (set ps r page) i i (get_or-set_other ps r i page [] (omega arith)))
          (λ h. (h, same_length ps (set ps r page) (i - 1) (i - 1) (get_or-set_other ps r (i - 1) page [] (omega arith))));
    }

inserted_above : {T : Type 0} (ps : List (List T)) (r : ℕ) (page : List T) (i : ℕ) → r ≤ length ps → r < i → page_of (insert ps r page) i ≡ page_of ps (i - 1)
inserted_above ps r page i there h =
    ap (page_of (insert ps r page)) (let e : i ≡ i - 1 + 1 = omega arith in e) ∙ get_or-insert_above ps r page [] (i - 1) (omega arith) there

pub tidy-inserted : {T : Type 0} (ps : List (List T)) (first until r : ℕ) (page : List T) → first ≤ r → r < until → r ≤ length ps
    → AreTidy ps first until → AreTidy (insert ps r page) first (until + 1)
tidy-inserted ps first until r page low high there t =
    let len = length-insert ps r page there in
    record {
      below = λ i lt. enough_like ps (insert ps r page) i i (t.below i lt)
          (same_length ps (insert ps r page) i i (get_or-insert_below ps r page [] i (omega arith) there))
          (λ h. (h, same_length ps (insert ps r page) (i - 1) (i - 1) (get_or-insert_below ps r page [] (i - 1) (omega arith) there)));
      above = λ i le lt. enough_like ps (insert ps r page) i (i - 1) (t.above (i - 1) (omega arith) (omega (arith, len)))
          (same_length ps (insert ps r page) i (i - 1) (inserted_above ps r page i there (omega arith)))
          (λ h. (omega arith, same_length ps (insert ps r page) (i - 1) (i - 1 - 1) (inserted_above ps r page (i - 1) there (omega arith))));
    }

-- a page that goes after the one before it got its items
pub tidy-merged : {T : Type 0} (ps : List (List T)) (i until : ℕ) (both : List T) → 0 < i → i < length ps → i < until → both ≡ page_of ps (i - 1) ++ page_of ps i
    → AreTidy ps i until → AreTidy (remove (set ps (i - 1) both) i) i until
tidy-merged ps i until both more there high e t =
    let len = length-set ps (i - 1) both in
    let longer = ap length e ∙ length-append (page_of ps (i - 1)) (page_of ps i) in
    tidy-removed (set ps (i - 1) both) i until i (omega arith) high (omega (arith, len))
    (tidy-grown ps i until (i - 1) both (omega arith) (omega (arith, longer)) t)

-- a page is parted in two
pub tidy-parted : {T : Type 0} (ps mid after : List (List T)) (i : ℕ) (front back : List T) → i < length ps → ((k : ℕ) → k < length ps → HoldsEnough ps k)
    → mid ≡ set ps i front → after ≡ insert mid (i + 1) back → AreTidy after (i + 1 - 1) (i + 1 + 2)
tidy-parted ps mid after i front back h all mid_is after_is =
    let len = length-set ps i front in
    let whole = tidy_from_enough ps i (i + 2) (omega arith) all in
    let one = tidy-set ps i (i + 2) i front (omega arith) (omega arith) whole in
    let two = tidy-inserted (set ps i front) i (i + 2) (i + 1) back (omega arith) (omega arith) (omega (arith, len)) one in
    let at : i ≡ i + 1 - 1 = omega arith in
    let to : i + 2 + 1 ≡ i + 1 + 2 = omega arith in
    rw (after_is, mid_is) (subst (λ k. AreTidy (insert (set ps i front) (i + 1) back) (i + 1 - 1) k) to
    (subst (λ k. AreTidy (insert (set ps i front) (i + 1) back) k (i + 2 + 1)) at two))

-- a place that isn't the first of a page lies in a page
pub place_inside : {T : Type 0} (ps : List (List T)) (i at : ℕ) → IsPlace ps i at → (at ≡ 0 → ⊥) → i < length ps
place_inside {T} ps i at p more = elim (cases_lt i (length ps)) [
  | inl h ↦ h
  | inr h ↦ (let none : length (page_of ps i) ≡ 0 = ap length (get_or_past ps i [] h) in absurd (more (omega (arith, none, p.within))))
]

pub enough_grown : {T : Type 0} (ps after : List (List T)) (r : ℕ) (page : List T) → after ≡ set ps r page → r < length ps → length (page_of ps r) ≤ length page
    → ((i : ℕ) → i < length ps → HoldsEnough ps i) → (i : ℕ) → i < length after → HoldsEnough after i
enough_grown ps after r page is there more all i h =
    let len = ap length is ∙ length-set ps r page in
    let whole = tidy-grown ps (length ps) (length ps) r page there more (tidy_from_enough ps (length ps) (length ps) (omega arith) all) in
    subst (λ qs. HoldsEnough qs i) (sym is) (whole.below i (omega (arith, len)))
