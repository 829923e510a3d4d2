-- Pairs whose keys rise, and splices of them. For callers too.
use Rattle.std.proofs.Common.{◌≡◌, ℕ, zero, suc, ◌+◌, ◌-◌, ◌<◌, ◌≤◌, true, false, cond, List, [], ◌∷◌, ◌++◌, Some, length, take, drop, refl, ap, sym, ◌∙◌, subst, arith, append_assoc, get_or, length-append, length-take-le}
use Rattle.std.specs.declared.cmp.Ordering.{Ordering}
use Rattle.std.specs.declared.cmp.Ordering.TheVariants.{Less, Equal, Greater}
use Rattle.std.specs.Cmp.{IsTotalOrder}
use Rattle.std.specs.Ordering.{is_lt, is_le, ordering_reverse}
use Rattle.std.specs.List.{AllByRecursion, slice_get}
use Rattle.std.specs.Option.{IfSome}
use Rattle.std.proofs.lemmas.List.{take-append-drop, drop_more, drop-drop, get_or-take}
use Rattle.std.proofs.lemmas.List.Sums.{prefix_len-le-length, prefix_len_passes}
use Rattle.std.proofs.lemmas.Option.{get_or_from_slice_get, slice_get_within}
use Rattle.std.proofs.lemmas.Cmp.{alike_right, tied_itself}
use Rattle.std.proofs.Math.Seq.{take-add}
use Rattle.page_dir.specs.Sorted.{MeetsBelow, Rises, rank}
use Rattle.page_dir.specs.Splices.{spliced}
use Rattle.page_dir.proofs.Places.{less_from}
use Rattle.page_dir.proofs.Splicing.{spliced_behind}

all_left : {T : Type 0} (P : T → Type 0) (xs ys : List T) → AllByRecursion P (xs ++ ys) → AllByRecursion P xs
all_left P [] ys h = tt
all_left P (x ∷ xs) ys h = (h.0, all_left P xs ys h.1)

all_right : {T : Type 0} (P : T → Type 0) (xs ys : List T) → AllByRecursion P (xs ++ ys) → AllByRecursion P ys
all_right P [] ys h = h
all_right P (x ∷ xs) ys h = all_right P xs ys h.1

all_both : {T : Type 0} (P : T → Type 0) (xs ys : List T) → AllByRecursion P xs → AllByRecursion P ys → AllByRecursion P (xs ++ ys)
all_both P [] ys h k = k
all_both P (x ∷ xs) ys h k = (h.0, all_both P xs ys h.1 k)

not_less_back : {K : Type 0} {cmp : K → K → Ordering} → IsTotalOrder cmp → (x y : K) → cmp x y ≡ Less → is_lt (cmp y x) ≡ false
not_less_back o x y h = ap is_lt (o.antisymm y x ∙ ap ordering_reverse h)

pub all_at : {T : Type 0} (P : T → Type 0) (ts : List T) (i : ℕ) (t : T) → AllByRecursion P ts → slice_get ts i ≡ Some t → P t
all_at P [] i t h e = cc
all_at P (x ∷ ts) zero t h e = let same : x ≡ t = cc in subst P same h.0
all_at P (x ∷ ts) (suc i) t h e = all_at P ts i t h.1 e

in_three : {T : Type 0} (at n : ℕ) (ts : List T) → ts ≡ take at ts ++ (take n (drop at ts) ++ drop (at + n) ts)
in_three at n ts =
    sym (take-append-drop at ts) ∙ ap (λ xs. take at ts ++ xs) (sym (take-append-drop n (drop at ts)) ∙ ap (λ xs. take n (drop at ts) ++ xs) (drop-drop n at ts))

module _ {K V : Type 0} (cmp : K → K → Ordering) where
  pub rises_right : (xs ys : List (K × V)) → Rises cmp (xs ++ ys) → Rises cmp ys
  rises_right [] ys h = h
  rises_right (x ∷ xs) ys h = rises_right xs ys h.1

  pub rises_left : (xs ys : List (K × V)) → Rises cmp (xs ++ ys) → Rises cmp xs
  rises_left [] ys h = tt
  rises_left (x ∷ xs) ys h = (all_left (λ q. cmp x.0 q.0 ≡ Less) xs ys h.0, rises_left xs ys h.1)

  -- pairs in the middle go
  pub rises_without : (xs ys zs : List (K × V)) → Rises cmp (xs ++ (ys ++ zs)) → Rises cmp (xs ++ zs)
  rises_without [] ys zs h = rises_right ys zs h
  rises_without (x ∷ xs) ys zs h =
      (let P = λ (q : K × V). cmp x.0 q.0 ≡ Less in all_both P xs zs (all_left P xs (ys ++ zs) h.0) (all_right P ys zs (all_right P xs (ys ++ zs) h.0)), rises_without xs ys zs h.1)

  module _ (o : IsTotalOrder cmp) where
    rank_below_all : (key : K) (zs : List (K × V)) → AllByRecursion (λ z. cmp key z.0 ≡ Less) zs → rank cmp key zs ≡ 0
    rank_below_all key [] h = refl
    rank_below_all key (z ∷ zs) h = ap (λ b. cond b (1 + rank cmp key zs) 0) (not_less_back o key z.0 h.0)

    -- a key that fits between two lists
    pub rank_between : (xs : List (K × V)) (q : K × V) (zs : List (K × V)) → Rises cmp (xs ++ q ∷ zs) → rank cmp q.0 (xs ++ zs) ≡ length xs
    rank_between [] q zs h = rank_below_all q.0 zs h.0
    rank_between (x ∷ xs) q zs h =
        ap (λ r. cond (is_lt r) (1 + rank cmp q.0 (xs ++ zs)) 0) (all_right (λ r. cmp x.0 r.0 ≡ Less) xs (q ∷ zs) h.0).0
        ∙ (let e = rank_between xs q zs h.1 in omega (arith, e))

-- a key that is at least another is above all that are below it
less_than_both : {K : Type 0} (cmp : K → K → Ordering) → IsTotalOrder cmp → (p from q : K) (r : Ordering) → cmp p from ≡ Less → cmp from q ≡ r → is_le r ≡ true → cmp p q ≡ Less
less_than_both cmp o p from q Less lt e h = o.trans p from q lt e
less_than_both cmp o p from q Equal lt e h = sym (alike_right o from q p e) ∙ lt
less_than_both cmp o p from q Greater lt e h = cc

-- two lists that meet
module _ {K V : Type 0} (cmp : K → K → Ordering) (o : IsTotalOrder cmp) where
  all_above : (k : K) (p : K × V) (ps : List (K × V)) → cmp k p.0 ≡ Less → AllByRecursion (λ q. cmp p.0 q.0 ≡ Less) ps → AllByRecursion (λ q. cmp k q.0 ≡ Less) ps
  all_above k p [] lt h = tt
  all_above k p (q ∷ ps) lt h = (o.trans k p.0 q.0 lt h.0, all_above k p ps lt h.1)

  pub rises_both : (xs ys : List (K × V)) → Rises cmp xs → Rises cmp ys → MeetsBelow cmp xs ys → Rises cmp (xs ++ ys)
  rises_both [] ys h k meets = k
  rises_both (x ∷ []) [] h k meets = h
  rises_both (x ∷ []) (y ∷ ys) h k meets = let lt = meets x y refl refl in ((lt, all_above x.0 y ys lt k.0), k)
  rises_both (x ∷ x' ∷ xs) ys h k meets =
      let rest = rises_both (x' ∷ xs) ys h.1 k (λ p q last first. meets p q (ap (slice_get (x ∷ x' ∷ xs)) (let i : suc (suc (length xs)) - 1 ≡ suc (suc (length xs) - 1) = omega arith in i) ∙ last) first) in
      ((h.0.0, all_above x.0 x' (xs ++ ys) h.0.0 rest.0), rest)

  -- a splice, from its two ends and its new pairs
  pub rises-spliced : (at n : ℕ) (new ps : List (K × V)) → Rises cmp ps → Rises cmp new → MeetsBelow cmp (take at ps) new → MeetsBelow cmp new (drop (at + n) ps)
      → Rises cmp (spliced at n new ps)
  rises-spliced at n [] ps h k before behind =
      rises_without cmp (take at ps) (take n (drop at ps)) (drop (at + n) ps) (subst (Rises cmp) (in_three at n ps) h)
  rises-spliced at n (q ∷ new) ps h k before behind =
      let rest = rises_right cmp (take (at + n) ps) (drop (at + n) ps) (subst (Rises cmp) (sym (take-append-drop (at + n) ps)) h) in
      rises_both (take at ps) (q ∷ (new ++ drop (at + n) ps))
      (rises_left cmp (take at ps) (drop at ps) (subst (Rises cmp) (sym (take-append-drop at ps)) h))
      (rises_both (q ∷ new) (drop (at + n) ps) k rest behind)
      (λ p q' last first. before p q' last first)

  -- from the first key that is at least one on, the new pairs' keys may be that one and greater
  pub meets_from : (from : K) (new ps : List (K × V)) → IfSome (slice_get new 0) (λ q. is_le (cmp from q.0) ≡ true) → MeetsBelow cmp (take (rank cmp from ps) ps) new
  meets_from from new ps least p q last first =
      let r = rank cmp from ps in
      let within = prefix_len-le-length (λ x. is_lt (cmp x.0 from)) ps in
      let len = length-take-le r ps within in
      let there = slice_get_within (take r ps) (length (take r ps) - 1) p last in
      let same : get_or ps (r - 1) p ≡ p =
      sym (get_or-take r ps (r - 1) p (omega arith)) ∙ ap (λ k. get_or (take r ps) (k - 1) p) (sym len) ∙ get_or_from_slice_get (take r ps) (length (take r ps) - 1) p p last in
      let passes = prefix_len_passes (λ x. is_lt (cmp x.0 from)) ps (r - 1) p (omega arith) in
      let lt : cmp p.0 from ≡ Less = less_from (cmp p.0 from) (ap (λ x. is_lt (cmp x.0 from)) (sym same) ∙ passes) in
      less_than_both cmp o p.0 from q.0 (cmp from q.0) lt refl (subst (λ s. IfSome s (λ x. is_le (cmp from x.0) ≡ true)) first least)

  -- the place of a pair is the rank of its key
  pub rank_at : (ps : List (K × V)) (i : ℕ) (p : K × V) → Rises cmp ps → slice_get ps i ≡ Some p → rank cmp p.0 ps ≡ i
  rank_at [] i p h e = cc
  rank_at (x ∷ ps) zero p h e =
      let same : x ≡ p = cc in
      ap (λ b. cond b (1 + rank cmp p.0 ps) 0) (ap (λ y. is_lt (cmp y.0 p.0)) same ∙ ap is_lt (tied_itself o p.0))
  rank_at (x ∷ ps) (suc i) p h e =
      ap (λ r. cond (is_lt r) (1 + rank cmp p.0 ps) 0) (all_at (λ q. cmp x.0 q.0 ≡ Less) ps i p h.0 e)
      ∙ (let k = rank_at ps i p h.1 e in omega (arith, k))

-- a splice whose new pairs come one part after another
module _ {T : Type 0} (ps new : List T) (at n : ℕ) where
  in_parts : (k : ℕ) → spliced at n new ps ≡ (take at ps ++ take k new) ++ (drop k new ++ drop (at + n) ps)
  in_parts k =
      ap (λ xs. take at ps ++ (xs ++ drop (at + n) ps)) (sym (take-append-drop k new))
      ∙ ap (λ xs. take at ps ++ xs) (append_assoc (take k new) (drop k new) (drop (at + n) ps))
      ∙ sym (append_assoc (take at ps) (take k new) (drop k new ++ drop (at + n) ps))

  front_part : (k : ℕ) → spliced at n (take k new) ps ≡ (take at ps ++ take k new) ++ drop (at + n) ps
  front_part k = sym (append_assoc (take at ps) (take k new) (drop (at + n) ps))

  length_front : (k : ℕ) → at ≤ length ps → k ≤ length new → length (take at ps ++ take k new) ≡ at + k
  length_front k h h' =
      let e = length-append (take at ps) (take k new) in
      let f = length-take-le at ps h in
      let f' = length-take-le k new h' in
      omega (arith, e, f, f')

  -- the next part comes behind those that came
  pub next_part : (done more : ℕ) → at ≤ length ps → done ≤ length new
      → spliced (at + done) 0 (take more (drop done new)) (spliced at n (take done new) ps) ≡ spliced at n (take (done + more) new) ps
  next_part done more h h' =
      let front = take at ps ++ take done new in
      let rest = drop (at + n) ps in
      ap (spliced (at + done) 0 (take more (drop done new))) (front_part done)
      ∙ spliced_behind front rest (at + done) 0 (take more (drop done new)) (length_front done h h')
      ∙ append_assoc (take at ps) (take done new) (take more (drop done new) ++ rest)
      ∙ ap (λ xs. take at ps ++ xs) (sym (append_assoc (take done new) (take more (drop done new)) rest))
      ∙ ap (λ xs. take at ps ++ (xs ++ rest)) (sym (take-add done more new))

module _ {K V : Type 0} (cmp : K → K → Ordering) (ps new : List (K × V)) (at n : ℕ) (rises : Rises cmp (spliced at n new ps)) where
  -- a front of the new pairs alone
  pub part_rises : (k : ℕ) → Rises cmp (spliced at n (take k new) ps)
  part_rises k =
      subst (Rises cmp) (sym (front_part ps new at n k))
      (rises_without cmp (take at ps ++ take k new) (drop k new) (drop (at + n) ps) (subst (Rises cmp) (in_parts ps new at n k) rises))

  -- the place of the next new pair among the pairs with those that came
  pub next_rank : IsTotalOrder cmp → (done : ℕ) (d : K × V) → at ≤ length ps → done < length new
      → rank cmp (get_or new done d).0 (spliced at n (take done new) ps) ≡ at + done
  next_rank o done d h h' =
      let front = take at ps ++ take done new in
      let rest = drop (at + n) ps in
      let q = get_or new done d in
      let whole : Rises cmp ((front ++ q ∷ []) ++ (drop (done + 1) new ++ rest)) =
      subst (Rises cmp) (in_parts ps new at n done ∙ ap (λ xs. front ++ (xs ++ rest)) (drop_more new done d h')
      ∙ sym (append_assoc front (q ∷ []) (drop (done + 1) new ++ rest))) rises in
      let less : Rises cmp (front ++ q ∷ rest) =
      subst (Rises cmp) (append_assoc front (q ∷ []) rest) (rises_without cmp (front ++ q ∷ []) (drop (done + 1) new) rest whole) in
      ap (rank cmp q.0) (front_part ps new at n done)
      ∙ rank_between cmp o front q rest less
      ∙ length_front ps new at n done h (omega arith)
