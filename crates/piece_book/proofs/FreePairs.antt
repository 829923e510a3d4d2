-- Rising pairs: where a key belongs, a pair that comes or goes there, and the next pair from a key on.
use Rattle.std.proofs.Common.{◌≡◌, ℕ, ◌+◌, ◌<◌, suc, zero, Bool, true, false, cond, List, [], ◌∷◌, ◌++◌, length, get_or, take, drop, None, Some, refl, sym, ◌∙◌, ap, subst, inl, inr, arith}
use Rattle.std.specs.declared.cmp.Ordering.{Ordering}
use Rattle.std.specs.declared.cmp.Ordering.TheVariants.{Less, Equal, Greater}
use Rattle.std.specs.Ordering.{is_lt, is_eq, ordering_reverse}
use Rattle.std.specs.Cmp.{IsTotalOrder}
use Rattle.std.specs.List.{AllByRecursion, count_by, slice_get}
use Rattle.std.proofs.lemmas.Bool.{cases_Bool, false≢true}
use Rattle.std.proofs.lemmas.List.Sums.{sum_by-cons, sum_by-append, sum_by-take-drop, sum_by-drop_more}
use Rattle.std.proofs.lemmas.Cmp.{tied_itself}
use Rattle.page_dir.specs.Sorted.{Rises, rank}
use Rattle.page_dir.specs.Splices.{spliced}

-- ---- all of a part

all_joined : {T : Type 0} (P : T → Type 0) (xs ys : List T) → AllByRecursion P xs → AllByRecursion P ys → AllByRecursion P (xs ++ ys)
all_joined P [] ys h k = k
all_joined P (x ∷ xs) ys h k = (h.0, all_joined P xs ys h.1 k)

all_taken : {T : Type 0} (P : T → Type 0) (n : ℕ) (xs : List T) → AllByRecursion P xs → AllByRecursion P (take n xs)
all_taken P zero xs h = tt
all_taken P (suc n) [] h = tt
all_taken P (suc n) (x ∷ xs) h = (h.0, all_taken P n xs h.1)

all_left : {T : Type 0} (P : T → Type 0) (n : ℕ) (xs : List T) → AllByRecursion P xs → AllByRecursion P (drop n xs)
all_left P zero xs h = h
all_left P (suc n) [] h = tt
all_left P (suc n) (x ∷ xs) h = all_left P n xs h.1

pub all_weaker : {T : Type 0} (P Q : T → Type 0) → ((x : T) → P x → Q x) → (xs : List T) → AllByRecursion P xs → AllByRecursion Q xs
all_weaker P Q f [] h = tt
all_weaker P Q f (x ∷ xs) h = (f x h.0, all_weaker P Q f xs h.1)

pub all_at : {T : Type 0} (P : T → Type 0) (xs : List T) (i : ℕ) (x : T) → AllByRecursion P xs → slice_get xs i ≡ Some x → P x
all_at P [] i x h e = absurd (cc)
all_at P (y ∷ ys) zero x h e = let same : y ≡ x = cc in subst P same h.0
all_at P (y ∷ ys) (suc i) x h e = all_at P ys i x h.1 e

-- ---- counts

pub counts-cons : {T : Type 0} (test : T → Bool) (x : T) (xs : List T) → count_by test (x ∷ xs) ≡ cond (test x) 1 0 + count_by test xs
counts-cons test x xs = sum_by-cons (λ y. cond (test y) 1 0) x xs

pub counts_none : {T : Type 0} (test : T → Bool) (xs : List T) → AllByRecursion (λ x. test x ≡ false) xs → count_by test xs ≡ 0
counts_none test [] h = refl
counts_none test (x ∷ xs) h =
    let none : ◌≡◌ {A = ℕ} (cond (test x) 1 0) 0 = ap (λ b. cond b 1 0) h.0 in
    let rest : count_by test xs ≡ 0 = counts_none test xs h.1 in
    omega (arith, counts-cons test x xs)

pub none_counted : {T : Type 0} (test : T → Bool) (xs : List T) → count_by test xs ≡ 0 → AllByRecursion (λ x. test x ≡ false) xs
none_counted test [] h = tt
none_counted test (x ∷ xs) h = elim (cases_Bool (test x)) [
  | inl t ↦
      let one : ◌≡◌ {A = ℕ} (cond (test x) 1 0) 1 = ap (λ b. cond b 1 0) t in
      absurd (omega (arith, counts-cons test x xs))
  | inr f ↦
      let rest : count_by test xs ≡ 0 = omega (arith, counts-cons test x xs) in
      (f, none_counted test xs rest)
]

pub count_all : {T : Type 0} (xs : List T) → count_by (λ _. true) xs ≡ length xs
count_all [] = refl
count_all (x ∷ xs) = omega (arith, counts-cons (λ _. true) x xs, count_all xs)

pub counts_spliced : {T : Type 0} (test : T → Bool) (at : ℕ) (new xs : List T) → count_by test (spliced at 0 new xs) ≡ count_by test xs + count_by test new
counts_spliced {T} test at new xs =
    let one : T → ℕ = λ x. cond (test x) 1 0 in
    let none : at + 0 ≡ at = omega arith in
    let outer = sum_by-append one (take at xs) (new ++ drop (at + 0) xs) in
    let inner = sum_by-append one new (drop (at + 0) xs) in
    let same : count_by test (drop (at + 0) xs) ≡ count_by test (drop at xs) = ap (λ n. count_by test (drop n xs)) none in
    let whole = sum_by-take-drop one xs at in
    omega arith

pub counts_without : {T : Type 0} (test : T → Bool) (at : ℕ) (xs : List T) (d : T) → at < length xs
    → count_by test (spliced at 1 [] xs) + cond (test (get_or xs at d)) 1 0 ≡ count_by test xs
counts_without {T} test at xs d h =
    let one : T → ℕ = λ x. cond (test x) 1 0 in
    let outer = sum_by-append one (take at xs) (drop (at + 1) xs) in
    let whole = sum_by-take-drop one xs at in
    let more = sum_by-drop_more one xs at d h in
    omega arith

-- what is counted is there
pub counted_at : {T : Type 0} (test : T → Bool) (xs : List T) (i : ℕ) (x : T) → slice_get xs i ≡ Some x → test x ≡ true → 0 < count_by test xs
counted_at test [] i x e t = absurd (cc)
counted_at test (y ∷ ys) zero x e t =
    let same : y ≡ x = cc in
    let passes : ◌≡◌ {A = ℕ} (cond (test y) 1 0) 1 = ap (λ b. cond b 1 0) (ap test same ∙ t) in
    omega (arith, counts-cons test y ys)
counted_at test (y ∷ ys) (suc i) x e t =
    let rest : 0 < count_by test ys = counted_at test ys i x e t in
    omega (arith, counts-cons test y ys)

is_less : (r : Ordering) → is_lt r ≡ true → r ≡ Less
is_less Less e = refl
is_less Equal e = absurd (false≢true e)
is_less Greater e = absurd (false≢true e)

pub equal_is : (r : Ordering) → is_eq r ≡ true → r ≡ Equal
equal_is Less e = absurd (false≢true e)
equal_is Equal e = refl
equal_is Greater e = absurd (false≢true e)

reverse_greater : (r : Ordering) → is_lt r ≡ false → is_eq r ≡ false → ordering_reverse r ≡ Less
reverse_greater Less e f = absurd (false≢true (sym e))
reverse_greater Equal e f = absurd (false≢true (sym f))
reverse_greater Greater e f = refl

cc_some : {T : Type 0} {a b : T} → Some a ≡ Some b → a ≡ b
cc_some e = cc

module _ {K : Type 0} {cmp : K → K → Ordering} (o : IsTotalOrder cmp) where
  -- what an order says of two keys

  -- a key that is neither less nor equal has the other below it
  turned : (key a : K) → is_lt (cmp a key) ≡ false → is_eq (cmp a key) ≡ false → cmp key a ≡ Less
  turned key a f g = o.antisymm key a ∙ reverse_greater (cmp a key) f g

  not_equal_above : (key a : K) → cmp key a ≡ Less → is_eq (cmp a key) ≡ false
  not_equal_above key a l = ap is_eq (o.antisymm a key ∙ ap ordering_reverse l)

  not_less_above : (key a : K) → cmp key a ≡ Less → is_lt (cmp a key) ≡ false
  not_less_above key a l = ap is_lt (o.antisymm a key ∙ ap ordering_reverse l)

  not_less_itself : (key : K) → is_lt (cmp key key) ≡ false
  not_less_itself key = ap is_lt (tied_itself o key)

module _ {K V : Type 0} {cmp : K → K → Ordering} (o : IsTotalOrder cmp) where
  abbrev Above : K → K × V → Type 0
  Above key q = cmp key q.0 ≡ Less

  -- ---- splices of one more pair

  behind : (q : K × V) (qs new : List (K × V)) (at n : ℕ) → spliced (1 + at) n new (q ∷ qs) ≡ q ∷ spliced at n new qs
  behind q qs new at n =
      let one : 1 + at ≡ suc at = omega arith in
      let end : suc at + n ≡ suc (at + n) = omega arith in
      ap (λ m. take m (q ∷ qs) ++ (new ++ drop (m + n) (q ∷ qs))) one ∙ ap (λ m. take (suc at) (q ∷ qs) ++ (new ++ drop m (q ∷ qs))) end

  all_spliced : (P : K × V → Type 0) (at n : ℕ) (new ps : List (K × V)) → AllByRecursion P ps → AllByRecursion P new → AllByRecursion P (spliced at n new ps)
  all_spliced P at n new ps h k = all_joined P (take at ps) (new ++ drop (at + n) ps) (all_taken P at ps h) (all_joined P new (drop (at + n) ps) k (all_left P (at + n) ps h))

  rank_of : (key : K) (q : K × V) (qs : List (K × V)) (b : Bool) → is_lt (cmp q.0 key) ≡ b → rank cmp key (q ∷ qs) ≡ cond b (1 + rank cmp key qs) 0
  rank_of key q qs b e = ap (λ t. cond t (1 + rank cmp key qs) 0) e

  -- a pair whose key is new comes to its place
  pub rises_inserted : (key : K) (v : V) (ps : List (K × V)) → Rises cmp ps → AllByRecursion (λ q. is_eq (cmp q.0 key) ≡ false) ps
      → Rises cmp (spliced (rank cmp key ps) 0 ((key, v) ∷ []) ps)
  rises_inserted key v [] h new = (tt, tt)
  rises_inserted key v (q ∷ qs) h new = elim (cases_Bool (is_lt (cmp q.0 key))) [
    | inl t ↦
        let place : spliced (rank cmp key (q ∷ qs)) 0 ((key, v) ∷ []) (q ∷ qs) ≡ q ∷ spliced (rank cmp key qs) 0 ((key, v) ∷ []) qs =
        ap (λ m. spliced m 0 ((key, v) ∷ []) (q ∷ qs)) (rank_of key q qs true t) ∙ behind q qs ((key, v) ∷ []) (rank cmp key qs) 0 in
        subst (Rises cmp) (sym place)
        (all_spliced (Above q.0) (rank cmp key qs) 0 ((key, v) ∷ []) qs h.0 (is_less (cmp q.0 key) t, tt), rises_inserted key v qs h.1 new.1)
    | inr f ↦
        let above : cmp key q.0 ≡ Less = turned o key q.0 f new.0 in
        let place : spliced (rank cmp key (q ∷ qs)) 0 ((key, v) ∷ []) (q ∷ qs) ≡ (key, v) ∷ q ∷ qs =
        ap (λ m. spliced m 0 ((key, v) ∷ []) (q ∷ qs)) (rank_of key q qs false f) in
        subst (Rises cmp) (sym place)
        ((above, all_weaker (Above q.0) (Above key) (λ r l. o.trans key q.0 r.0 above l) qs h.0), (h.0, h.1))
  ]

  rises_left : (n : ℕ) (ps : List (K × V)) → Rises cmp ps → Rises cmp (drop n ps)
  rises_left zero ps h = h
  rises_left (suc n) [] h = tt
  rises_left (suc n) (p ∷ ps) h = rises_left n ps h.1

  pub rises_without : (at n : ℕ) (ps : List (K × V)) → Rises cmp ps → Rises cmp (spliced at n [] ps)
  rises_without zero n ps h = let e : 0 + n ≡ n = omega arith in subst (λ m. Rises cmp (drop m ps)) (sym e) (rises_left n ps h)
  rises_without (suc at) n [] h = let e : suc at + n ≡ suc (at + n) = omega arith in subst (λ m. Rises {V = V} cmp (drop m [])) (sym e) tt
  rises_without (suc at) n (p ∷ ps) h =
      let e : suc at + n ≡ suc (at + n) = omega arith in
      subst (λ m. Rises cmp (p ∷ (take at ps ++ drop m (p ∷ ps)))) (sym e)
      (all_spliced (Above p.0) at n [] ps h.0 tt, rises_without at n ps h.1)

  -- ---- the pair of a key that is there

  pub record StandsAt (key : K) (ps : List (K × V)) (at : ℕ) : Type 0 where
    pub within : at < length ps
    pub is : (d : K × V) → cmp (get_or ps at d).0 key ≡ Equal

  pub stands_at_rank : (key : K) (ps : List (K × V)) → Rises cmp ps → 0 < count_by (λ q. is_eq (cmp q.0 key)) ps → StandsAt key ps (rank cmp key ps)
  stands_at_rank key [] h some = absurd (omega arith)
  stands_at_rank key (q ∷ qs) h some =
      let more : count_by (λ p. is_eq (cmp p.0 key)) (q ∷ qs) ≡ cond (is_eq (cmp q.0 key)) 1 0 + count_by (λ p. is_eq (cmp p.0 key)) qs = counts-cons (λ p. is_eq (cmp p.0 key)) q qs in
      elim (cases_Bool (is_lt (cmp q.0 key))) [
        | inl t ↦
            let other : is_eq (cmp q.0 key) ≡ false = ap is_eq (is_less (cmp q.0 key) t) in
            let none : ◌≡◌ {A = ℕ} (cond (is_eq (cmp q.0 key)) 1 0) 0 = ap (λ b. cond b 1 0) other in
            let rest : StandsAt key qs (rank cmp key qs) = stands_at_rank key qs h.1 (omega arith) in
            let one : 1 + rank cmp key qs ≡ suc (rank cmp key qs) = omega arith in
            let l : rank cmp key qs < length qs = rest.within in
            subst (StandsAt key (q ∷ qs)) (sym (rank_of key q qs true t ∙ one)) (record { within = omega arith; is = rest.is })
        | inr f ↦ elim (cases_Bool (is_eq (cmp q.0 key))) [
          | inl e ↦ subst (StandsAt key (q ∷ qs)) (sym (rank_of key q qs false f)) (record { within = omega arith; is = λ d. equal_is (cmp q.0 key) e })
          | inr g ↦
              let above : cmp key q.0 ≡ Less = turned o key q.0 f g in
              let none : count_by (λ (p : K × V). is_eq (cmp p.0 key)) qs ≡ 0 =
              counts_none (λ (p : K × V). is_eq (cmp p.0 key)) qs
              (all_weaker (Above q.0) (λ r. is_eq (cmp r.0 key) ≡ false) (λ r l. not_equal_above o key r.0 (o.trans key q.0 r.0 above l)) qs h.0) in
              let first : ◌≡◌ {A = ℕ} (cond (is_eq (cmp q.0 key)) 1 0) 0 = ap (λ b. cond b 1 0) g in
              absurd (omega arith)
        ]
      ]

  -- ---- the next pair from a key on

  pub none_from : (key : K) (ps : List (K × V)) → slice_get ps (rank cmp key ps) ≡ None → AllByRecursion (λ q. is_lt (cmp q.0 key) ≡ true) ps
  none_from key [] e = tt
  none_from key (q ∷ qs) e = elim (cases_Bool (is_lt (cmp q.0 key))) [
    | inl t ↦
        let one : 1 + rank cmp key qs ≡ suc (rank cmp key qs) = omega arith in
        (t, none_from key qs (sym (ap (slice_get (q ∷ qs)) (rank_of key q qs true t ∙ one)) ∙ e))
    | inr f ↦ let wrong : Some q ≡ None = sym (ap (slice_get (q ∷ qs)) (rank_of key q qs false f)) ∙ e in absurd (cc)
  ]

  pub record IsNext (key : K) (ps : List (K × V)) (p : K × V) : Type 0 where
    pub from : is_lt (cmp p.0 key) ≡ false
    pub least : AllByRecursion (λ q. is_lt (cmp q.0 key) ≡ false → is_lt (cmp q.0 p.0) ≡ false) ps

  pub next_from : (key : K) (ps : List (K × V)) (p : K × V) → Rises cmp ps → slice_get ps (rank cmp key ps) ≡ Some p → IsNext key ps p
  next_from key [] p h e = absurd (cc)
  next_from key (q ∷ qs) p h e = elim (cases_Bool (is_lt (cmp q.0 key))) [
    | inl t ↦
        let one : 1 + rank cmp key qs ≡ suc (rank cmp key qs) = omega arith in
        let rest : IsNext key qs p = next_from key qs p h.1 (sym (ap (slice_get (q ∷ qs)) (rank_of key q qs true t ∙ one)) ∙ e) in
        record { from = rest.from; least = (λ f. absurd (false≢true (sym f ∙ t)), rest.least) }
    | inr f ↦
        let same : q ≡ p = cc_some (sym (ap (slice_get (q ∷ qs)) (rank_of key q qs false f)) ∙ e) in
        subst (IsNext key (q ∷ qs)) same (record {
          from = f;
          least = (λ g. not_less_itself o q.0, all_weaker (Above q.0) (λ r. is_lt (cmp r.0 key) ≡ false → is_lt (cmp r.0 q.0) ≡ false) (λ r l g. not_less_above o q.0 r.0 l) qs h.0);
        })
  ]
