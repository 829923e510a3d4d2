-- Where a value is put in a list of ranges, and which holder is changed.
use Rattle.std.proofs.Common.{◌≡◌, ℕ, zero, suc, ◌+◌, ◌<◌, ◌≤◌, nat_lt, Bool, true, false, None, Some, List, [], ◌∷◌, ◌++◌, length, take, drop, get_or, set, map, cond, refl, sym, ◌∙◌, ap, add-one, arith}
use Rattle.std.specs.List.{insert, position, position_or_len}
use Rattle.std.proofs.lemmas.Grind.{common_steps}
use Rattle.std.proofs.lemmas.List.{drop_more}
use Rattle.std.proofs.Math.ListN.{drop_of_length-le}
use Rattle.std.proofs.Math.Seq.{take-length, drop-length}
use Rattle.std.proofs.lemmas.Bool.{cond-true, cond-false, lt-ltb, le-ltb}
use Rattle.num_range.specs.Range.{PlainRange, same_range, range_before}
use Rattle.reg_entry.specs.Ranges.{with_range}
use Rattle.reg_entry.specs.declared.holder.Holder.{Holder}
use Rattle.reg_entry.specs.Holders.{has_handle, edited_holder}

put_first : {T : Type 0} (r : PlainRange) (x : T) (p : PlainRange × T) (ps : List (PlainRange × T)) → same_range p.0 r ≡ true
    → with_range (p ∷ ps) r x ≡ (r, x) ∷ ps
put_first r x p ps t = cond-true (same_range p.0 r) _ _ t

-- in the place of the range itself
pub put_same : {T : Type 0} (ps : List (PlainRange × T)) (i : ℕ) (r : PlainRange) (x : T) (d : PlainRange × T) → i < length ps
    → same_range (get_or ps i d).0 r ≡ true → take i ps ++ with_range (drop i ps) r x ≡ set ps i (r, x)
put_same [] i r x d h t = absurd (omega arith)
put_same (p ∷ ps) zero r x d h t = put_first r x p ps t
put_same (p ∷ ps) (suc i) r x d h t = ap (λ qs. p ∷ qs) (put_same ps i r x d (omega arith) t)

-- before the first range that is behind it
pub put_before : {T : Type 0} (ps : List (PlainRange × T)) (i : ℕ) (r : PlainRange) (x : T) (d : PlainRange × T) → i < length ps
    → same_range (get_or ps i d).0 r ≡ false → range_before r (get_or ps i d).0 ≡ true → take i ps ++ with_range (drop i ps) r x ≡ insert ps i (r, x)
put_before [] i r x d h f t = absurd (omega arith)
put_before (p ∷ ps) zero r x d h f t = cond-false (same_range p.0 r) _ _ f ∙ cond-true (range_before r p.0) _ _ t
put_before (p ∷ ps) (suc i) r x d h f t = ap (λ qs. p ∷ qs) (put_before ps i r x d (omega arith) f t)

-- behind all
pub put_last : {T : Type 0} (ps : List (PlainRange × T)) (i : ℕ) (r : PlainRange) (x : T) → i ≡ length ps
    → take i ps ++ with_range (drop i ps) r x ≡ ps ++ (r, x) ∷ []
put_last ps i r x e =
    ap (λ n. take n ps ++ with_range (drop n ps) r x) e ∙ rw (take-length ps, drop-length ps)

-- ---- a holder changed

changed_here : {T : Type 0} (f : T → T) (xs : List T) (i : ℕ) (d : T) → i < length xs
    → set (map f (take i xs) ++ drop i xs) i (f (get_or (map f (take i xs) ++ drop i xs) i d)) ≡ map f (take (suc i) xs) ++ drop (suc i) xs
changed_here f [] i d h = absurd (omega arith)
changed_here f (x ∷ xs) zero d h = refl
changed_here f (x ∷ xs) (suc i) d h = ap (λ ys. f x ∷ ys) (changed_here f xs i d (omega arith))

kept_here : {T : Type 0} (f : T → T) (xs : List T) (i : ℕ) (d : T) → i < length xs
    → f (get_or (map f (take i xs) ++ drop i xs) i d) ≡ get_or (map f (take i xs) ++ drop i xs) i d
    → map f (take i xs) ++ drop i xs ≡ map f (take (suc i) xs) ++ drop (suc i) xs
kept_here f [] i d h e = absurd (omega arith)
kept_here f (x ∷ xs) zero d h e = ap (λ y. y ∷ xs) (sym e)
kept_here f (x ∷ xs) (suc i) d h e = ap (λ ys. f x ∷ ys) (kept_here f xs i d (omega arith) e)

abbrev pub edits : List ℕ → Holder → ℕ → Holder × ℕ → Holder × ℕ
edits handle holder day m = cond (has_handle handle m) (holder, day) m

-- the holder of this place has the handle, and gets other fields
pub edited_here : (now hs : List (Holder × ℕ)) (i : ℕ) (holder : Holder) (day : ℕ) (m : Holder × ℕ) → i < length hs
    → now ≡ edited_holder (take i hs) holder day ++ drop i hs → m ≡ get_or now i m → has_handle holder.handle m ≡ true
    → set now i (holder, day) ≡ edited_holder (take (i + 1) hs) holder day ++ drop (i + 1) hs
edited_here now hs i holder day m h e at t =
    let f : Holder × ℕ → Holder × ℕ = edits holder.handle holder day in
    let done : List (Holder × ℕ) = map f (take i hs) ++ drop i hs in
    let here : m ≡ get_or done i m = at ∙ ap (λ xs. get_or xs i m) e in
    let new : f (get_or done i m) ≡ (holder, day) = ap f (sym here) ∙ cond-true (has_handle holder.handle m) (holder, day) m t in
    ap (λ xs. set xs i (holder, day)) e ∙ ap (λ y. set done i y) (sym new) ∙ changed_here f hs i m h
    ∙ ap (λ n. map f (take n hs) ++ drop n hs) (sym (add-one i))

-- the holder of this place has another handle, and stays
pub others_stay : (now hs : List (Holder × ℕ)) (i : ℕ) (holder : Holder) (day : ℕ) (m : Holder × ℕ) → i < length hs
    → now ≡ edited_holder (take i hs) holder day ++ drop i hs → m ≡ get_or now i m → has_handle holder.handle m ≡ false
    → now ≡ edited_holder (take (i + 1) hs) holder day ++ drop (i + 1) hs
others_stay now hs i holder day m h e at t =
    let f : Holder × ℕ → Holder × ℕ = edits holder.handle holder day in
    let done : List (Holder × ℕ) = map f (take i hs) ++ drop i hs in
    let here : m ≡ get_or done i m = at ∙ ap (λ xs. get_or xs i m) e in
    let same : f (get_or done i m) ≡ get_or done i m = ap f (sym here) ∙ cond-false (has_handle holder.handle m) (holder, day) m t ∙ here in
    e ∙ kept_here f hs i m h same ∙ ap (λ n. map f (take n hs) ++ drop n hs) (sym (add-one i))

-- ---- where the first lies that passes a test

first_passes : {T : Type 0} (p : T → Bool) (x : T) (xs : List T) → p x ≡ true → position_or_len p (x ∷ xs) ≡ 0
first_passes p x xs t = grind (arith, common_steps)

pub position_found : {T : Type 0} (p : T → Bool) (xs : List T) (i : ℕ) (d : T) → i + position_or_len p (drop i xs) ≡ position_or_len p xs
    → i < length xs → p (get_or xs i d) ≡ true → position p xs ≡ Some i
position_found p xs i d e h t =
    let first : position_or_len p (drop i xs) ≡ 0 = ap (position_or_len p) (drop_more xs i d h) ∙ first_passes p (get_or xs i d) (drop (i + 1) xs) t in
    let at : position_or_len p xs ≡ i = omega arith in
    ap (λ n. cond (nat_lt n (length xs)) (Some n) None) at ∙ cond-true (nat_lt i (length xs)) (Some i) None (lt-ltb i (length xs) h)

pub position_nowhere : {T : Type 0} (p : T → Bool) (xs : List T) (i : ℕ) → i + position_or_len p (drop i xs) ≡ position_or_len p xs
    → length xs ≤ i → position p xs ≡ None
position_nowhere p xs i e h =
    let none : position_or_len p (drop i xs) ≡ 0 = ap (position_or_len p) (drop_of_length-le xs h) in
    let at : position_or_len p xs ≡ i = omega arith in
    ap (λ n. cond (nat_lt n (length xs)) (Some n) None) at ∙ cond-false (nat_lt i (length xs)) (Some i) None (le-ltb i (length xs) h)
