-- The place behind all items that pass a test, by its page.
use Rattle.std.proofs.Common.{◌≡◌, ℕ, zero, suc, ◌+◌, ◌-◌, ◌<◌, ◌≤◌, Bool, true, false, cond, List, [], ◌∷◌, ◌++◌, length, take, drop, refl, ap, sym, ◌∙◌, subst, inl, inr, arith, length-append, zero-add}
use Rattle.std.specs.declared.cmp.Ordering.{Ordering}
use Rattle.std.specs.declared.cmp.Ordering.TheVariants.{Less, Equal, Greater}
use Rattle.std.specs.Cmp.{IsTotalOrder}
use Rattle.std.specs.Ordering.{is_lt, is_le}
use Rattle.std.specs.List.{slice_get, prefix_len, AllByRecursion}
use Rattle.std.specs.Option.{IsSomeAnd}
use Rattle.std.proofs.lemmas.Bool.{cases_lt}
use Rattle.std.proofs.lemmas.List.{drop_all, nil_from_length}
use Rattle.std.proofs.lemmas.Cmp.{alike_right}
use Rattle.page_dir.specs.declared.locating.Side.{Side}
use Rattle.page_dir.specs.declared.locating.Side.TheVariants.{Below, UpTo}
use Rattle.page_dir.specs.Pages.{joined, page_of}
use Rattle.page_dir.specs.Searching.{FailsAt, IsDown, IsTurn, PassesAt, stands_before}
use Rattle.page_dir.specs.Sorted.{Rises}
use Rattle.page_dir.specs.Spread.{start}
use Rattle.page_dir.proofs.Joining.{start_next, joined-split}
use Rattle.page_dir.proofs.Starts.{start_rises}
use Rattle.page_dir.proofs.Splicing.{slice_get-append_left, slice_get-append_right}

pub prefix_by_turn : {T : Type 0} (test : T → Bool) (ts : List T) (n : ℕ) → n ≤ length ts → ((i : ℕ) → i < n → PassesAt test ts i)
    → (n < length ts → FailsAt test ts n) → prefix_len test ts ≡ n
prefix_by_turn test [] zero h pass fail = refl
prefix_by_turn test [] (suc n) h pass fail = absurd (omega arith)
prefix_by_turn test (t ∷ ts) zero h pass fail = ap (λ b. cond b (1 + prefix_len test ts) 0) (fail (omega arith))
prefix_by_turn test (t ∷ ts) (suc n) h pass fail =
    ap (λ b. cond b (1 + prefix_len test ts) 0) (pass 0 (omega arith))
    ∙ (let e = prefix_by_turn test ts n (omega arith) (λ i lt. pass (suc i) (omega arith)) (λ lt. fail (omega arith)) in omega (arith, e))

-- an item of a page among all
pub joined_at : {T : Type 0} (ps : List (List T)) (i j : ℕ) → i < length ps → j < length (page_of ps i) → slice_get (joined ps) (start ps i + j) ≡ slice_get (page_of ps i) j
joined_at [] i j h inside = absurd (omega arith)
joined_at (p ∷ ps) zero j h inside = ap (slice_get (p ++ joined ps)) (zero-add j) ∙ slice_get-append_left p (joined ps) j inside
joined_at (p ∷ ps) (suc i) j h inside =
    ap (slice_get (p ++ joined ps)) (let e = length-append p (joined (take i ps)) in let s : start (p ∷ ps) (suc i) + j ≡ length p + (start ps i + j) = omega (arith, e) in s)
    ∙ slice_get-append_right p (joined ps) (start ps i + j)
    ∙ joined_at ps i j (omega arith) inside

pub pages-le-items : {T : Type 0} (ps : List (List T)) → ((i : ℕ) → i < length ps → 0 < length (page_of ps i)) → length ps ≤ length (joined ps)
pages-le-items [] filled = omega arith
pages-le-items (p ∷ ps) filled =
    let rest = pages-le-items ps (λ i h. filled (suc i) (omega arith)) in
    let here = filled 0 (omega arith) in
    omega (arith, rest, here, length-append p (joined ps))

module _ {T : Type 0} (test : T → Bool) (ps : List (List T)) (filled : (i : ℕ) → i < length ps → 0 < length (page_of ps i)) where
  passes_joined : (i j : ℕ) → i < length ps → j < length (page_of ps i) → PassesAt test (page_of ps i) j → PassesAt test (joined ps) (start ps i + j)
  passes_joined i j h inside p = subst (λ o. IsSomeAnd o (λ t. test t ≡ true)) (sym (joined_at ps i j h inside)) p

  fails_joined : (i j : ℕ) → i < length ps → j < length (page_of ps i) → FailsAt test (page_of ps i) j → FailsAt test (joined ps) (start ps i + j)
  fails_joined i j h inside p = subst (λ o. IsSomeAnd o (λ t. test t ≡ false)) (sym (joined_at ps i j h inside)) p

  -- no page begins before the place
  pub place_at_front : IsTurn (λ i. PassesAt test (page_of ps i) 0) (λ i. FailsAt test (page_of ps i) 0) (length ps) 0 → 0 ≡ prefix_len test (joined ps)
  place_at_front turn = sym (prefix_by_turn test (joined ps) 0 (omega arith) (λ i h. absurd (omega arith)) (λ more. elim (cases_lt 0 (length ps)) [
    | inl h ↦ fails_joined 0 0 h (filled 0 h) (turn.after h)
    | inr none ↦ (let e : length (joined ps) ≡ 0 = ap (λ qs. length (joined qs)) (nil_from_length ps (omega arith)) in absurd (omega arith))
  ]))

  not_both : (ts : List T) → PassesAt test ts 0 → FailsAt test ts 0 → ⊥
  not_both [] p f = p
  not_both (t ∷ ts) p f = let e : true ≡ false = sym p ∙ f in cc

  pub place_is_inside : (page at : ℕ) → page < length ps → PassesAt test (page_of ps page) 0
      → IsTurn (PassesAt test (page_of ps page)) (FailsAt test (page_of ps page)) (length (page_of ps page)) at → 0 < at
  place_is_inside page at h first turn = elim (cases_lt 0 at) [
    | inl lt ↦ lt
    | inr le ↦ (let zero_at : at ≡ 0 = omega arith in let f = filled page h in
        absurd (not_both (page_of ps page) first (subst (FailsAt test (page_of ps page)) zero_at (turn.after (omega arith)))))
  ]

  -- the place lies in the last page that begins before it
  pub place_in_page : (page at : ℕ) → page < length ps → IsDown test (joined ps) → PassesAt test (page_of ps page) 0
      → (page + 1 < length ps → FailsAt test (page_of ps (page + 1)) 0)
      → IsTurn (PassesAt test (page_of ps page)) (FailsAt test (page_of ps page)) (length (page_of ps page)) at
      → start ps page + at ≡ prefix_len test (joined ps)
  place_in_page page at h down first next turn =
      let more = place_is_inside page at h first turn in
      let whole = ap length (joined-split ps (page + 1)) in
      let sum = length-append (joined (take (page + 1) ps)) (joined (drop (page + 1) ps)) in
      let end = start_next ps page h in
      let last = passes_joined page (at - 1) h (omega (arith, turn.within)) (turn.before more) in
      sym (prefix_by_turn test (joined ps) (start ps page + at) (omega (arith, whole, sum, end, turn.within))
      (λ i lt. down i (start ps page + (at - 1)) (omega arith) last)
      (λ lt. elim (cases_lt at (length (page_of ps page))) [
        | inl inside ↦ fails_joined page at h inside (turn.after inside)
        | inr over ↦ elim (cases_lt (page + 1) (length ps)) [
          | inl there ↦ (let e : start ps (page + 1) + 0 ≡ start ps page + at = omega (arith, end, turn.within) in
              subst (FailsAt test (joined ps)) e (fails_joined (page + 1) 0 there (filled (page + 1) there) (next there)))
          | inr over' ↦ (let e : length (joined (drop (page + 1) ps)) ≡ 0 = ap (λ qs. length (joined qs)) (drop_all (page + 1) ps over') in absurd (omega (arith, whole, sum, end, turn.within, e)))
        ]
      ]))

  passes_within : (ts : List T) (i : ℕ) → PassesAt test ts i → i < length ts
  passes_within [] i h = absurd h
  passes_within (t ∷ ts) zero h = omega arith
  passes_within (t ∷ ts) (suc i) h = let rest = passes_within ts i h in omega (arith, rest)

  passes_in_page : (i j : ℕ) → i < length ps → j < length (page_of ps i) → PassesAt test (joined ps) (start ps i + j) → PassesAt test (page_of ps i) j
  passes_in_page i j h inside p = subst (λ o. IsSomeAnd o (λ t. test t ≡ true)) (joined_at ps i j h inside) p

  -- so the first items of pages do
  pub down_of_pages : IsDown test (joined ps) → (i j : ℕ) → i ≤ j → j < length ps → PassesAt test (page_of ps j) 0 → PassesAt test (page_of ps i) 0
  down_of_pages down i j le h p =
      let rising = start_rises ps i j le in
      passes_in_page i 0 (omega arith) (filled i (omega arith))
      (down (start ps i + 0) (start ps j + 0) (omega (arith, rising)) (passes_joined j 0 h (filled j h) p))

-- what stands before a place among rising keys is a front
pub less_from : (r : Ordering) → is_lt r ≡ true → r ≡ Less
less_from Less h = refl
less_from Equal h = cc
less_from Greater h = cc

upto_trans : {K : Type 0} {cmp : K → K → Ordering} → IsTotalOrder cmp → (limit p q : K) (r : Ordering) → cmp p q ≡ Less → cmp q limit ≡ r → is_le r ≡ true → cmp p limit ≡ Less
upto_trans o limit p q Less lt e h = o.trans p q limit lt e
upto_trans o limit p q Equal lt e h = sym (alike_right o q limit p e) ∙ lt
upto_trans o limit p q Greater lt e h = cc

before_trans : {K : Type 0} {cmp : K → K → Ordering} → IsTotalOrder cmp → (side : Side) (limit p q : K) → cmp p q ≡ Less
    → stands_before cmp side limit q ≡ true → stands_before cmp side limit p ≡ true
before_trans {K} {cmp} o Below limit p q lt h = ap is_lt (o.trans p q limit lt (less_from (cmp q limit) h))
before_trans {K} {cmp} o UpTo limit p q lt h = ap is_le (upto_trans o limit p q (cmp q limit) lt refl h)

first_passes : {K V : Type 0} {cmp : K → K → Ordering} → IsTotalOrder cmp → (side : Side) (limit : K) (p : K × V) (qs : List (K × V)) (j : ℕ)
    → AllByRecursion (λ q. cmp p.0 q.0 ≡ Less) qs → PassesAt (λ q. stands_before cmp side limit q.0) qs j → stands_before cmp side limit p.0 ≡ true
first_passes o side limit p [] j all h = absurd h
first_passes o side limit p (q ∷ qs) zero all h = before_trans o side limit p.0 q.0 all.0 h
first_passes o side limit p (q ∷ qs) (suc j) all h = first_passes o side limit p qs j all.1 h

pub down_from_rises : {K V : Type 0} {cmp : K → K → Ordering} → IsTotalOrder cmp → (side : Side) (limit : K) (ps : List (K × V)) → Rises cmp ps
    → IsDown (λ p. stands_before cmp side limit p.0) ps
down_from_rises o side limit [] rises i j le h = absurd h
down_from_rises o side limit (p ∷ ps) rises zero zero le h = h
down_from_rises o side limit (p ∷ ps) rises zero (suc j) le h = first_passes o side limit p ps j rises.0 h
down_from_rises o side limit (p ∷ ps) rises (suc i) zero le h = absurd (omega arith)
down_from_rises o side limit (p ∷ ps) rises (suc i) (suc j) le h = down_from_rises o side limit ps rises.1 i j (omega arith) h
