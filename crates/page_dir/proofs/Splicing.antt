-- A splice of a list, by lengths and places. For callers too.
use Rattle.std.proofs.Common.{◌≡◌, ℕ, zero, suc, ◌+◌, ◌<◌, ◌≤◌, List, [], ◌∷◌, ◌++◌, length, take, drop, refl, ap, sym, ◌∙◌, arith, length-append, length-take-le, length-drop, append_assoc, zero-add, suc-add, add_assoc}
use Rattle.std.proofs.lemmas.List.{take_at, drop_at, take-append-le, drop-append-le, append-nil, drop_all, take_all, drop-drop}
use Rattle.std.specs.List.{slice_get}
use Rattle.page_dir.specs.Splices.{spliced}

pub length-spliced : {T : Type 0} (at n : ℕ) (new ts : List T) → at + n ≤ length ts → length (spliced at n new ts) + n ≡ length ts + length new
length-spliced at n new ts h =
    let whole = length-append (take at ts) (new ++ drop (at + n) ts) in
    let rest = length-append new (drop (at + n) ts) in
    let front = length-take-le at ts (omega arith) in
    let back = length-drop (at + n) ts in
    omega (arith, whole, rest, front, back)

-- behind a front of so many items
pub spliced_behind : {T : Type 0} (front rest : List T) (at n : ℕ) (new : List T) → length front ≡ at → spliced at n new (front ++ rest) ≡ front ++ (new ++ drop n rest)
spliced_behind front rest at n new e =
    ap (λ xs. xs ++ (new ++ drop (at + n) (front ++ rest))) (take_at front rest at e)
    ∙ ap (λ xs. front ++ (new ++ xs)) (sym (drop-drop n at (front ++ rest)) ∙ ap (drop n) (drop_at front rest at e))

pub spliced-append_left : {T : Type 0} (at n : ℕ) (new front rest : List T) → at + n ≤ length front → spliced at n new (front ++ rest) ≡ spliced at n new front ++ rest
spliced-append_left at n new front rest h =
    ap (λ xs. xs ++ (new ++ drop (at + n) (front ++ rest))) (take-append-le at front rest (omega arith))
    ∙ ap (λ xs. take at front ++ (new ++ xs)) (drop-append-le (at + n) front rest h)
    ∙ ap (λ xs. take at front ++ xs) (sym (append_assoc new (drop (at + n) front) rest))
    ∙ sym (append_assoc (take at front) (new ++ drop (at + n) front) rest)

spliced-cons : {T : Type 0} (at n : ℕ) (new : List T) (t : T) (ts : List T) → spliced (suc at) n new (t ∷ ts) ≡ t ∷ spliced at n new ts
spliced-cons at n new t ts = ap (λ k. t ∷ (take at ts ++ (new ++ drop k (t ∷ ts)))) (suc-add at n)

pub spliced-append_right : {T : Type 0} (at n : ℕ) (new front rest : List T) → spliced (length front + at) n new (front ++ rest) ≡ front ++ spliced at n new rest
spliced-append_right at n new [] rest = ap (λ k. spliced k n new rest) (zero-add at)
spliced-append_right at n new (t ∷ front) rest =
    ap (λ k. spliced k n new (t ∷ (front ++ rest))) (suc-add (length front) at)
    ∙ spliced-cons (length front + at) n new t (front ++ rest)
    ∙ ap (λ xs. t ∷ xs) (spliced-append_right at n new front rest)

-- all of a list goes
pub spliced_end : {T : Type 0} (new ts : List T) (at : ℕ) → at ≡ length ts → spliced at 0 new ts ≡ ts ++ new
spliced_end new ts at e =
    ap (λ xs. xs ++ (new ++ drop (at + 0) ts)) (take_all at ts (omega arith))
    ∙ ap (λ xs. ts ++ (new ++ xs)) (drop_all (at + 0) ts (omega arith))
    ∙ ap (λ xs. ts ++ xs) (append-nil new)

-- all from a place on goes
pub spliced_tail : {T : Type 0} (ts : List T) (at n : ℕ) → at + n ≡ length ts → spliced at n [] ts ≡ take at ts
spliced_tail ts at n e = ap (λ xs. take at ts ++ xs) (drop_all (at + n) ts (omega arith)) ∙ append-nil (take at ts)

-- what stands at a place of two lists
pub slice_get-append_left : {T : Type 0} (xs ys : List T) (i : ℕ) → i < length xs → slice_get (xs ++ ys) i ≡ slice_get xs i
slice_get-append_left [] ys i h = absurd (omega arith)
slice_get-append_left (x ∷ xs) ys zero h = refl
slice_get-append_left (x ∷ xs) ys (suc i) h = slice_get-append_left xs ys i (omega arith)

pub slice_get-append_right : {T : Type 0} (xs ys : List T) (i : ℕ) → slice_get (xs ++ ys) (length xs + i) ≡ slice_get ys i
slice_get-append_right [] ys i = ap (slice_get ys) (zero-add i)
slice_get-append_right (x ∷ xs) ys i = ap (slice_get (x ∷ (xs ++ ys))) (suc-add (length xs) i) ∙ slice_get-append_right xs ys i

pub slice_get-drop : {T : Type 0} (n : ℕ) (ts : List T) (i : ℕ) → slice_get (drop n ts) i ≡ slice_get ts (n + i)
slice_get-drop n [] i = ap (λ xs. slice_get xs i) (drop_all n [] (omega arith))
slice_get-drop zero (t ∷ ts) i = ap (slice_get (t ∷ ts)) (sym (zero-add i))
slice_get-drop (suc n) (t ∷ ts) i = slice_get-drop n ts i ∙ ap (slice_get (t ∷ ts)) (sym (suc-add n i))

slice_get-take : {T : Type 0} (n : ℕ) (ts : List T) (i : ℕ) → i < n → slice_get (take n ts) i ≡ slice_get ts i
slice_get-take zero ts i h = absurd (omega arith)
slice_get-take (suc n) [] i h = refl
slice_get-take (suc n) (t ∷ ts) zero h = refl
slice_get-take (suc n) (t ∷ ts) (suc i) h = slice_get-take n ts i (omega arith)

-- what stands at a place of a splice: before it, among the new items, and behind it
module _ {T : Type 0} (at n : ℕ) (new ts : List T) (there : at ≤ length ts) where
  pub spliced_before : (i : ℕ) → i < at → slice_get (spliced at n new ts) i ≡ slice_get ts i
  spliced_before i h =
      slice_get-append_left (take at ts) (new ++ drop (at + n) ts) i (let e = length-take-le at ts there in omega (arith, e)) ∙ slice_get-take at ts i h

  at_front : (i : ℕ) → slice_get (spliced at n new ts) (at + i) ≡ slice_get (new ++ drop (at + n) ts) i
  at_front i =
      ap (λ k. slice_get (spliced at n new ts) (k + i)) (sym (length-take-le at ts there))
      ∙ slice_get-append_right (take at ts) (new ++ drop (at + n) ts) i

  pub spliced_inside : (i : ℕ) → i < length new → slice_get (spliced at n new ts) (at + i) ≡ slice_get new i
  spliced_inside i h = at_front i ∙ slice_get-append_left new (drop (at + n) ts) i h

  pub spliced_after : (i : ℕ) → slice_get (spliced at n new ts) (at + length new + i) ≡ slice_get ts (at + n + i)
  spliced_after i =
      ap (slice_get (spliced at n new ts)) (add_assoc at (length new) i)
      ∙ at_front (length new + i) ∙ slice_get-append_right new (drop (at + n) ts) i ∙ slice_get-drop (at + n) ts i
