-- The items of pages, one page after another, while pages change.
use Rattle.std.proofs.Common.{◌≡◌, ℕ, zero, suc, ◌+◌, ◌-◌, ◌<◌, ◌≤◌, List, [], ◌∷◌, ◌++◌, length, set, take, drop, refl, inl, inr, ap, sym, ◌∙◌, arith, length-set, length-take-le, get_or-set_same, length-append, append_assoc, zero-add, add-one}
use Rattle.std.specs.List.{insert, remove}
use Rattle.std.proofs.lemmas.List.{drop_at, drop-drop, drop-set, drop-append-le, take_at, take-set-le, take_more, take-append-drop, append-nil, nil_from_length, drop_more, drop_all}
use Rattle.std.proofs.lemmas.Bool.{cases_lt}
use Rattle.std.proofs.lemmas.List.Concat.{flat_map-append}
use Rattle.page_dir.specs.Pages.{joined, page_of}
use Rattle.page_dir.specs.Splices.{spliced}
use Rattle.page_dir.specs.Spread.{start}
use Rattle.page_dir.proofs.Splicing.{spliced_behind, spliced_tail, spliced-append_left, spliced-append_right}

pub joined-append : {T : Type 0} (ps qs : List (List T)) → joined (ps ++ qs) ≡ joined ps ++ joined qs
joined-append ps qs = flat_map-append (λ page. page) ps qs

-- what stands before a page, and the rest
pub joined-split : {T : Type 0} (ps : List (List T)) (i : ℕ) → joined (take i ps) ++ joined (drop i ps) ≡ joined ps
joined-split ps i = sym (joined-append (take i ps) (drop i ps)) ∙ ap joined (take-append-drop i ps)

pub joined-drop : {T : Type 0} (ps : List (List T)) (i : ℕ) → i < length ps → joined (drop i ps) ≡ page_of ps i ++ joined (drop (i + 1) ps)
joined-drop ps i h = ap joined (drop_more ps i [] h)

pub start_next : {T : Type 0} (ps : List (List T)) (i : ℕ) → i < length ps → start ps (i + 1) ≡ start ps i + length (page_of ps i)
start_next ps i h =
    ap (λ qs. length (joined qs)) (take_more ps i [] h)
    ∙ ap length (joined-append (take i ps) (page_of ps i ∷ []))
    ∙ length-append (joined (take i ps)) (page_of ps i ++ [])
    ∙ ap (λ xs. start ps i + length xs) (append-nil (page_of ps i))

-- a page that has nothing goes
pub joined-remove_empty : {T : Type 0} (ps : List (List T)) (i : ℕ) → i < length ps → length (page_of ps i) ≡ 0 → joined (remove ps i) ≡ joined ps
joined-remove_empty [] i h e = absurd (omega arith)
joined-remove_empty (p ∷ ps) zero h e = ap (λ q. q ++ joined ps) (sym (nil_from_length p e))
joined-remove_empty (p ∷ ps) (suc i) h e = ap (λ xs. p ++ xs) (joined-remove_empty ps i (omega arith) e)

-- a page goes and the one before it has its items too
pub joined-merge : {T : Type 0} (ps : List (List T)) (i : ℕ) (both : List T) → suc i < length ps → both ≡ page_of ps i ++ page_of ps (suc i)
    → joined (remove (set ps i both) (suc i)) ≡ joined ps
joined-merge [] i both h e = absurd (omega arith)
joined-merge (p ∷ []) i both h e = absurd (omega arith)
joined-merge (p ∷ q ∷ ps) zero both h e = ap (λ xs. xs ++ joined ps) e ∙ append_assoc p q (joined ps)
joined-merge (p ∷ q ∷ ps) (suc i) both h e = ap (λ xs. p ++ xs) (joined-merge (q ∷ ps) i both (omega arith) e)

pub joined-merged : {T : Type 0} (ps : List (List T)) (i : ℕ) (both : List T) → 0 < i → i < length ps → both ≡ page_of ps (i - 1) ++ page_of ps i
    → joined (remove (set ps (i - 1) both) i) ≡ joined ps
joined-merged ps zero both more h e = absurd (omega arith)
joined-merged ps (suc i) both more h e =
    let same : suc i - 1 ≡ i = omega arith in
    ap (λ k. joined (remove (set ps k both) (suc i))) same ∙ joined-merge ps i both h (e ∙ ap (λ k. page_of ps k ++ page_of ps (suc i)) same)

-- a splice within a page
pub joined-spliced : {T : Type 0} (ps : List (List T)) (i at n : ℕ) (new : List T) → i < length ps → at + n ≤ length (page_of ps i)
    → joined (set ps i (spliced at n new (page_of ps i))) ≡ spliced (start ps i + at) n new (joined ps)
joined-spliced [] i at n new h inside = absurd (omega arith)
joined-spliced (p ∷ ps) zero at n new h inside =
    sym (spliced-append_left at n new p (joined ps) inside) ∙ ap (λ k. spliced k n new (p ++ joined ps)) (sym (zero-add at))
joined-spliced (p ∷ ps) (suc i) at n new h inside =
    ap (λ xs. p ++ xs) (joined-spliced ps i at n new (omega arith) inside)
    ∙ sym (spliced-append_right (start ps i + at) n new p (joined ps))
    ∙ ap (λ k. spliced k n new (p ++ joined ps)) (let e = length-append p (joined (take i ps)) in omega (arith, e))

-- a page is parted in two
pub joined-parted : {T : Type 0} (ps : List (List T)) (i : ℕ) (front back : List T) → i < length ps → front ++ back ≡ page_of ps i
    → joined (insert (set ps i front) (suc i) back) ≡ joined ps
joined-parted [] i front back h e = absurd (omega arith)
joined-parted (p ∷ ps) zero front back h e = sym (append_assoc front back (joined ps)) ∙ ap (λ xs. xs ++ joined ps) e
joined-parted (p ∷ ps) (suc i) front back h e = ap (λ xs. p ++ xs) (joined-parted ps i front back (omega arith) e)

pub parted_joined : {T : Type 0} (ps mid after : List (List T)) (i at n : ℕ) (back : List T) → i < length ps → at + n ≡ length (page_of ps i)
    → back ≡ drop at (page_of ps i) → mid ≡ set ps i (spliced at n [] (page_of ps i)) → after ≡ insert mid (i + 1) back → joined after ≡ joined ps
parted_joined ps mid after i at n back h e back_is mid_is after_is =
    ap joined after_is
    ∙ ap (λ qs. joined (insert qs (i + 1) back)) (mid_is ∙ ap (set ps i) (spliced_tail (page_of ps i) at n e))
    ∙ ap (λ k. joined (insert (set ps i (take at (page_of ps i))) k back)) (add-one i)
    ∙ joined-parted ps i (take at (page_of ps i)) back h (ap (λ xs. take at (page_of ps i) ++ xs) back_is ∙ take-append-drop at (page_of ps i))

pub take-insert : {T : Type 0} (ps : List (List T)) (i : ℕ) (page : List T) → i ≤ length ps → take i (insert ps i page) ≡ take i ps
take-insert ps i page h = take_at (take i ps) (page ∷ drop i ps) i (length-take-le i ps h)

pub start-parted : {T : Type 0} (ps : List (List T)) (i : ℕ) (front back : List T) → i < length ps
    → start (insert (set ps i front) (i + 1) back) (i + 1) ≡ start ps i + length front
start-parted ps i front back h =
    let len = length-set ps i front in
    ap (λ qs. length (joined qs)) (take-insert (set ps i front) (i + 1) back (omega (arith, len)))
    ∙ start_next (set ps i front) i (omega (arith, len))
    ∙ ap (λ qs. length (joined qs) + length (page_of (set ps i front) i)) (take-set-le i ps i front (omega arith))
    ∙ ap (λ page. start ps i + length page) (get_or-set_same ps i front [] h)

-- items come to the end of the page before a place
pub joined-appended : {T : Type 0} (ps : List (List T)) (i at : ℕ) (new : List T) → 0 < i → i ≤ length ps → at ≡ length (page_of ps (i - 1))
    → joined (set ps (i - 1) (spliced at 0 new (page_of ps (i - 1)))) ≡ joined (take i ps) ++ (new ++ joined (drop i ps))
joined-appended ps i at new more h e =
    let below : i - 1 < length ps = omega arith in
    let next : i - 1 + 1 ≡ i = omega arith in
    let place : start ps (i - 1) + at ≡ start ps i = ap (λ n. start ps (i - 1) + n) e ∙ sym (start_next ps (i - 1) below) ∙ ap (start ps) next in
    joined-spliced ps (i - 1) at 0 new below (omega (arith, e))
    ∙ ap (λ k. spliced k 0 new (joined ps)) place
    ∙ ap (spliced (start ps i) 0 new) (sym (joined-split ps i))
    ∙ spliced_behind (joined (take i ps)) (joined (drop i ps)) (start ps i) 0 new refl

-- items behind a place go, and others come in there
pub joined-replaced : {T : Type 0} (before after : List (List T)) (i n : ℕ) (new : List T) → take i after ≡ take i before
    → joined (drop i after) ≡ drop n (joined (drop i before)) → joined (take i after) ++ (new ++ joined (drop i after)) ≡ spliced (start before i) n new (joined before)
joined-replaced before after i n new front rest =
    ap (λ ps. joined ps ++ (new ++ joined (drop i after))) front
    ∙ ap (λ xs. joined (take i before) ++ (new ++ xs)) rest
    ∙ sym (spliced_behind (joined (take i before)) (joined (drop i before)) (start before i) n new refl)
    ∙ ap (spliced (start before i) n new) (joined-split before i)

-- items are taken away from a page on: the page goes, or only some of its items do
pub cut_inside : {T : Type 0} (ps : List (List T)) (i left : ℕ) → 0 < left → left ≤ length (joined (drop i ps)) → i < length ps
cut_inside {T} ps i left more h = elim (cases_lt i (length ps)) [
  | inl lt ↦ lt
  | inr ge ↦ (let none : length (joined (drop i ps)) ≡ 0 = ap (λ qs. length (joined qs)) (drop_all i ps ge) in absurd (omega arith))
]

pub take-remove : {T : Type 0} (ps : List (List T)) (i : ℕ) → i < length ps → take i (remove ps i) ≡ take i ps
take-remove ps i h = take_at (take i ps) (drop (suc i) ps) i (length-take-le i ps (omega arith))

pub drop-remove : {T : Type 0} (ps : List (List T)) (i : ℕ) → i < length ps → drop i (remove ps i) ≡ drop (i + 1) ps
drop-remove ps i h = drop_at (take i ps) (drop (suc i) ps) i (length-take-le i ps (omega arith)) ∙ ap (λ k. drop k ps) (sym (add-one i))

pub cut_removed : {T : Type 0} (ps : List (List T)) (i left here : ℕ) → i < length ps → here ≡ length (page_of ps i) → here ≤ left
    → drop (left - here) (joined (drop i (remove ps i))) ≡ drop left (joined (drop i ps))
cut_removed ps i left here h e le =
    let page = page_of ps i in
    let rest = joined (drop (i + 1) ps) in
    ap (λ qs. drop (left - here) (joined qs)) (drop-remove ps i h)
    ∙ ap (drop (left - here)) (sym (drop_at page rest here (sym e)))
    ∙ drop-drop (left - here) here (page ++ rest)
    ∙ ap (λ k. drop k (page ++ rest)) (let s : here + (left - here) ≡ left = omega arith in s)
    ∙ ap (drop left) (sym (joined-drop ps i h))

pub cut_spliced : {T : Type 0} (ps : List (List T)) (i left : ℕ) → i < length ps → left ≤ length (page_of ps i)
    → joined (drop i (set ps i (spliced 0 left [] (page_of ps i)))) ≡ drop left (joined (drop i ps))
cut_spliced ps i left h le =
    let page = page_of ps i in
    let rest = joined (drop (i + 1) ps) in
    ap joined (drop-set ps i (spliced 0 left [] page) h)
    ∙ ap (λ k. drop k page ++ rest) (zero-add left)
    ∙ sym (drop-append-le left page rest le)
    ∙ ap (drop left) (sym (joined-drop ps i h))

pub length-joined-remove : {T : Type 0} (ps : List (List T)) (i here : ℕ) → i < length ps → here ≡ length (page_of ps i)
    → length (joined (drop i (remove ps i))) + here ≡ length (joined (drop i ps))
length-joined-remove ps i here h e =
    let one = ap (λ qs. length (joined qs)) (drop-remove ps i h) in
    let two = ap length (joined-drop ps i h) ∙ length-append (page_of ps i) (joined (drop (i + 1) ps)) in
    omega (arith, one, two)
