-- What is found among pairs whose keys rise. For callers too.
use Rattle.std.proofs.Common.{◌≡◌, ℕ, zero, suc, ◌+◌, ◌<◌, ◌≤◌, Bool, true, false, cond, List, [], ◌∷◌, ◌++◌, Option, Some, None, length, take, drop, refl, ap, sym, ◌∙◌, subst, inl, inr, arith}
use Rattle.std.specs.declared.cmp.Ordering.{Ordering}
use Rattle.std.specs.List.{slice_get, prefix_len}
use Rattle.std.specs.Cmp.{IsTotalOrder}
use Rattle.std.specs.Ordering.{is_le, is_lt}
use Rattle.std.specs.Option.{option_or, IfSome, IsSomeAnd}
use Rattle.std.proofs.lemmas.Bool.{cases_Bool}
use Rattle.std.proofs.lemmas.List.{take-append-drop}
use Rattle.std.proofs.lemmas.List.Sums.{prefix_len-le-length, prefix_len_passes, prefix_len_stops}
use Rattle.std.proofs.lemmas.Option.{get_or_from_slice_get, none-some, same_Some, slice_get_within}
use Rattle.page_dir.specs.Searching.{IsDown, PassesAt}
use Rattle.page_dir.specs.Sorted.{Rises, last_at_most, last_by, rank}
use Rattle.page_dir.specs.Splices.{spliced}
use Rattle.page_dir.specs.declared.locating.Side.TheVariants.{UpTo}
use Rattle.page_dir.proofs.Places.{down_from_rises}
use Rattle.page_dir.proofs.Splicing.{slice_get-drop}
use Rattle.page_dir.proofs.Rising.{rank_at, rises_right}

-- the item right before a place
abbrev pub item_before : {T : Type 0} → List T → ℕ → Option T
item_before ts zero = None
item_before ts (suc i) = slice_get ts i

none_passes : {T : Type 0} (test : T → Bool) (ts : List T) → ((i : ℕ) → PassesAt test ts i → ⊥) → last_by test ts ≡ None
none_passes test [] h = refl
none_passes test (t ∷ ts) h = elim (cases_Bool (test t)) [
  | inl e ↦ absurd (h 0 e)
  | inr e ↦ ap (λ o. option_or o (cond (test t) (Some t) None)) (none_passes test ts (λ i. h (suc i))) ∙ ap (λ b. cond b (Some t) None) e
]

some_first : {T : Type 0} (ts : List T) (t : T) (n : ℕ) → n < length ts → option_or (slice_get ts n) (Some t) ≡ slice_get ts n
some_first [] t n h = absurd (omega arith)
some_first (x ∷ ts) t zero h = refl
some_first (x ∷ ts) t (suc n) h = some_first ts t n (omega arith)

last_of_more : {T : Type 0} (ts : List T) (t : T) (n : ℕ) → n ≤ length ts → option_or (item_before ts n) (Some t) ≡ slice_get (t ∷ ts) n
last_of_more ts t zero h = refl
last_of_more [] t (suc n) h = absurd (omega arith)
last_of_more (x ∷ ts) t (suc zero) h = refl
last_of_more (x ∷ ts) t (suc (suc n)) h = some_first ts t n (omega arith)

-- where the items that pass are a front, the last of them stands at its end
pub last_by-front : {T : Type 0} (test : T → Bool) (ts : List T) → IsDown test ts → last_by test ts ≡ item_before ts (prefix_len test ts)
last_by-front test [] down = refl
last_by-front test (t ∷ ts) down = elim (cases_Bool (test t)) [
  | inl e ↦
      ap (λ o. option_or o (cond (test t) (Some t) None)) (last_by-front test ts (λ i j le h. down (suc i) (suc j) (omega arith) h))
      ∙ ap (λ b. option_or (item_before ts (prefix_len test ts)) (cond b (Some t) None)) e
      ∙ last_of_more ts t (prefix_len test ts) (prefix_len-le-length test ts)
      ∙ ap (item_before (t ∷ ts)) (let s : suc (prefix_len test ts) ≡ 1 + prefix_len test ts = omega arith in s ∙ sym (ap (λ b. cond b (1 + prefix_len test ts) 0) e))
  | inr e ↦
      none_passes test (t ∷ ts) (λ i h. (let first : true ≡ false = sym (down 0 i (omega arith) h) ∙ e in cc))
      ∙ sym (ap (λ b. item_before (t ∷ ts) (cond b (1 + prefix_len test ts) 0)) e)
]

option_or-none : {T : Type 0} (o : Option T) → option_or o None ≡ o
option_or-none None = refl
option_or-none (Some t) = refl

option_or_assoc : {T : Type 0} (o p q : Option T) → option_or (option_or o p) q ≡ option_or o (option_or p q)
option_or_assoc None p q = refl
option_or_assoc (Some t) p q = refl

pub last_by-append : {T : Type 0} (test : T → Bool) (xs ys : List T) → last_by test (xs ++ ys) ≡ option_or (last_by test ys) (last_by test xs)
last_by-append test [] ys = sym (option_or-none (last_by test ys))
last_by-append test (x ∷ xs) ys =
    ap (λ o. option_or o (cond (test x) (Some x) None)) (last_by-append test xs ys) ∙ option_or_assoc (last_by test ys) (last_by test xs) (cond (test x) (Some x) None)

-- whatever comes before a list whose first item passes
some_or : {T : Type 0} (o : Option T) (t : T) (p : Option T) → option_or (option_or o (Some t)) p ≡ option_or o (Some t)
some_or None t p = refl
some_or (Some x) t p = refl

first_hides : {T : Type 0} (test : T → Bool) (ts : List T) (o : Option T) → IsSomeAnd (slice_get ts 0) (λ t. test t ≡ true) → option_or (last_by test ts) o ≡ last_by test ts
first_hides test [] o h = absurd h
first_hides test (t ∷ ts) o h =
    ap (λ b. option_or (option_or (last_by test ts) (cond b (Some t) None)) o) h
    ∙ some_or (last_by test ts) t o
    ∙ sym (ap (λ b. option_or (last_by test ts) (cond b (Some t) None)) h)

none_from_first : {T : Type 0} (test : T → Bool) (ts : List T) → IsDown test ts → IfSome (slice_get ts 0) (λ t. test t ≡ false) → last_by test ts ≡ None
none_from_first test [] down h = refl
none_from_first test (t ∷ ts) down h = none_passes test (t ∷ ts) (λ i p. let e : true ≡ false = sym (down 0 i (omega arith) p) ∙ h in cc)

slice_get-drop_first : {T : Type 0} (ts : List T) (i : ℕ) → slice_get (drop i ts) 0 ≡ slice_get ts i
slice_get-drop_first ts i = slice_get-drop i ts 0 ∙ ap (slice_get ts) (let e : i + 0 ≡ i = omega arith in e)

passed : {T : Type 0} (test : T → Bool) (rest : Option T) (x t : T) (o : Option T) → o ≡ rest → (rest ≡ Some t → test t ≡ true) → option_or o (cond (test x) (Some x) None) ≡ Some t → test t ≡ true
passed test rest x t None e more h = elim (cases_Bool (test x)) [
  | inl yes' ↦ (let same : x ≡ t = same_Some x t (sym (ap (λ b. cond b (Some x) None) yes') ∙ h) in ap test (sym same) ∙ yes')
  | inr no' ↦ absurd (none-some t (sym (ap (λ b. cond b (Some x) None) no') ∙ h))
]
passed test rest x t (Some y) e more h = more (sym e ∙ h)

stops_there : {T : Type 0} (test : T → Bool) (ts : List T) → IfSome (slice_get ts (prefix_len test ts)) (λ t. test t ≡ false)
stops_there test [] = tt
stops_there test (t ∷ ts) = elim (cases_Bool (test t)) [
  | inl yes' ↦ subst (λ k. IfSome (slice_get (t ∷ ts) k) (λ x. test x ≡ false))
      (let s : suc (prefix_len test ts) ≡ 1 + prefix_len test ts = omega arith in s ∙ sym (ap (λ b. cond b (1 + prefix_len test ts) 0) yes')) (stops_there test ts)
  | inr no' ↦ subst (λ k. IfSome (slice_get (t ∷ ts) k) (λ x. test x ≡ false)) (sym (ap (λ b. cond b (1 + prefix_len test ts) 0) no')) no'
]

some_passes : {T : Type 0} (test : T → Bool) (ts : List T) (t : T) → last_by test ts ≡ Some t → test t ≡ true
some_passes test [] t e = cc
some_passes test (x ∷ ts) t e = passed test (last_by test ts) x t (last_by test ts) refl (λ h. some_passes test ts t h) e

module _ {K V : Type 0} (cmp : K → K → Ordering) where
  -- what is found in a splice: behind it, else among the new pairs, else before it
  pub last_at_most-spliced : (key : K) (at n : ℕ) (new ps : List (K × V)) → last_at_most cmp key (spliced at n new ps)
      ≡ option_or (last_at_most cmp key (drop (at + n) ps)) (option_or (last_at_most cmp key new) (last_at_most cmp key (take at ps)))
  last_at_most-spliced key at n new ps =
      let test = λ (p : K × V). is_le (cmp p.0 key) in
      last_by-append test (take at ps) (new ++ drop (at + n) ps)
      ∙ ap (λ o. option_or o (last_by test (take at ps))) (last_by-append test new (drop (at + n) ps))
      ∙ option_or_assoc (last_by test (drop (at + n) ps)) (last_by test new) (last_by test (take at ps))

  -- from the first key behind a splice on, what is found stays
  pub last_at_most-behind : (key : K) (at n : ℕ) (new ps : List (K × V)) → IsSomeAnd (slice_get ps (at + n)) (λ p. is_le (cmp p.0 key) ≡ true)
      → last_at_most cmp key (spliced at n new ps) ≡ last_at_most cmp key ps
  last_at_most-behind key at n new ps h =
      let test = λ (p : K × V). is_le (cmp p.0 key) in
      let rest = drop (at + n) ps in
      let first = subst (λ o. IsSomeAnd o (λ p. test p ≡ true)) (sym (slice_get-drop_first ps (at + n))) h in
      last_at_most-spliced key at n new ps
      ∙ first_hides test rest (option_or (last_by test new) (last_by test (take at ps))) first
      ∙ sym (ap (last_by test) (sym (take-append-drop (at + n) ps)) ∙ last_by-append test (take (at + n) ps) rest ∙ first_hides test rest (last_by test (take (at + n) ps)) first)

  pub found_is_at_most : (key : K) (ps : List (K × V)) (p : K × V) → last_at_most cmp key ps ≡ Some p → is_le (cmp p.0 key) ≡ true
  found_is_at_most key ps p e = some_passes (λ q. is_le (cmp q.0 key)) ps p e

  -- the first pair that isn't below a key, and the pairs below it
  pub first_is_at_least : (key : K) (ps : List (K × V)) (p : K × V) → slice_get ps (rank cmp key ps) ≡ Some p → is_lt (cmp p.0 key) ≡ false
  first_is_at_least key ps p e =
      let test = λ (q : K × V). is_lt (cmp q.0 key) in
      let stops = prefix_len_stops test ps p (slice_get_within ps (rank cmp key ps) p e) in
      sym (ap test (get_or_from_slice_get ps (rank cmp key ps) p p e)) ∙ stops

  pub below_rank_is_less : (key : K) (ps : List (K × V)) (i : ℕ) (p : K × V) → i < rank cmp key ps → slice_get ps i ≡ Some p → is_lt (cmp p.0 key) ≡ true
  below_rank_is_less key ps i p h e =
      let test = λ (q : K × V). is_lt (cmp q.0 key) in
      sym (ap test (get_or_from_slice_get ps i p p e)) ∙ prefix_len_passes test ps i p h

  module _ (o : IsTotalOrder cmp) where
    -- below a splice, what is found stays
    pub last_at_most-before : (key : K) (at n : ℕ) (new ps : List (K × V)) → Rises cmp ps → Rises cmp (spliced at n new ps)
        → IfSome (slice_get ps at) (λ p. is_le (cmp p.0 key) ≡ false) → IfSome (slice_get (new ++ drop (at + n) ps) 0) (λ p. is_le (cmp p.0 key) ≡ false)
        → last_at_most cmp key (spliced at n new ps) ≡ last_at_most cmp key ps
    last_at_most-before key at n new ps rises rises' was is =
        let test = λ (p : K × V). is_le (cmp p.0 key) in
        let here : last_by test (new ++ drop (at + n) ps) ≡ None =
        none_from_first test (new ++ drop (at + n) ps) (down_from_rises o UpTo key (new ++ drop (at + n) ps) (rises_right cmp (take at ps) (new ++ drop (at + n) ps) rises')) is in
        let there : last_by test (drop at ps) ≡ None =
        none_from_first test (drop at ps) (down_from_rises o UpTo key (drop at ps) (rises_right cmp (take at ps) (drop at ps) (subst (Rises cmp) (sym (take-append-drop at ps)) rises)))
        (subst (λ s. IfSome s (λ p. test p ≡ false)) (sym (slice_get-drop_first ps at)) was) in
        last_by-append test (take at ps) (new ++ drop (at + n) ps)
        ∙ ap (λ s. option_or s (last_by test (take at ps))) (here ∙ sym there)
        ∙ sym (last_by-append test (take at ps) (drop at ps))
        ∙ ap (last_by test) (take-append-drop at ps)

    found_before : (key : K) (ps : List (K × V)) (p : K × V) (n : ℕ) → Rises cmp ps → prefix_len (λ q. is_le (cmp q.0 key)) ps ≡ n → item_before ps n ≡ Some p
        → (slice_get ps (rank cmp p.0 ps) ≡ Some p) × IfSome (slice_get ps (rank cmp p.0 ps + 1)) (λ q. is_le (cmp q.0 key) ≡ false)
    found_before key ps p zero rises count e = cc
    found_before key ps p (suc m) rises count e =
        let test = λ (q : K × V). is_le (cmp q.0 key) in
        let place = rank_at cmp o ps m p rises e in (
          ap (slice_get ps) place ∙ e,
          subst (λ k. IfSome (slice_get ps k) (λ q. test q ≡ false)) (let s : suc m ≡ rank cmp p.0 ps + 1 = omega (arith, place) in s)
              (subst (λ k. IfSome (slice_get ps k) (λ q. test q ≡ false)) count (stops_there test ps)),
        )

    -- the pair that is found stands at the rank of its key, and the next key is greater than the one that was looked for
    pub found_place : (key : K) (ps : List (K × V)) (p : K × V) → Rises cmp ps → last_at_most cmp key ps ≡ Some p
        → (slice_get ps (rank cmp p.0 ps) ≡ Some p) × IfSome (slice_get ps (rank cmp p.0 ps + 1)) (λ q. is_le (cmp q.0 key) ≡ false)
    found_place key ps p rises e =
        let test = λ (q : K × V). is_le (cmp q.0 key) in
        found_before key ps p (prefix_len test ps) rises refl (sym (last_by-front test ps (down_from_rises o UpTo key ps rises)) ∙ e)

-- nothing is found only where the first key is greater
pub none_found : {K V : Type 0} (cmp : K → K → Ordering) (key : K) (ps : List (K × V)) → last_at_most cmp key ps ≡ None → IfSome (slice_get ps 0) (λ p. is_le (cmp p.0 key) ≡ false)
none_found cmp key [] e = tt
none_found cmp key (p ∷ ps) e = elim (cases_Bool (is_le (cmp p.0 key))) [
  | inl yes' ↦ (let no' = sym (first_hides (λ q. is_le (cmp q.0 key)) (p ∷ ps) (Some p) yes') ∙ ap (λ s. option_or s (Some p)) e in absurd (none-some p (sym e ∙ no')))
  | inr no' ↦ no'
]
