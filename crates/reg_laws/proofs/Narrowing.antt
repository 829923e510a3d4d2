-- The first of the least size among the registrations round a range is one that is no wider than any.
use Rattle.std.proofs.Common.{◌≡◌, zero, suc, ◌<◌, ◌≤◌, Bool, true, false, ◌&&◌, nat_le, ◌⊎◌, inl, inr, List, [], ◌∷◌, ◌++◌, Option, None, Some, filter, map, refl, sym, ◌∙◌, ap, subst, arith}
use Rattle.std.specs.List.{Contains, flat_map}
use Rattle.std.proofs.lemmas.Bool.{cond_both, cases_Bool, both_ways, and_parts, and_from, leb-true, leb-false, cond-true, cond-false}
use Rattle.num_range.specs.Range.{PlainRange}
use Rattle.reg_entry.specs.declared.piece.Piece.{Piece}
use Rattle.reg_entry.specs.declared.sub_card.SubCard.{SubCard}
use Rattle.reg_entry.specs.declared.found.Found.{Found}
use Rattle.reg_entry.specs.declared.found.Found.TheVariants.{Piece as ThePiece, Sub}
use Rattle.reg_entry.specs.Card.{is_delegated}
use Rattle.reg_entry.specs.Ranges.{lies_inside}
use Rattle.reg_entry.specs.Register.{Register, register_pieces}
use Rattle.reg_entry.specs.Sums.{found_size, found_sub, all_found, narrower, least_found, narrowest}
use Rattle.reg_laws.specs.Narrowest.{IsRound, is_sub, IsNoWider, IsNarrowest}

-- ---- members, by recursion

abbrev Has : {X : Type 0} → List X → X → Type 0
Has [] x = ⊥
Has (y ∷ ys) x = (y ≡ x) ⊎ Has ys x

has_of_contains : {X : Type 0} (xs : List X) (x : X) → Contains xs x → Has xs x
has_of_contains [] x (k, h, e) = absurd (omega arith)
has_of_contains (y ∷ ys) x (zero, h, e) = inl e
has_of_contains (y ∷ ys) x (suc k, h, e) = inr (has_of_contains ys x (k, omega arith, e))

contains_of_has : {X : Type 0} (xs : List X) (x : X) → Has xs x → Contains xs x
contains_of_has [] x h = absurd h
contains_of_has (y ∷ ys) x (inl e) = (zero, omega arith, e)
contains_of_has (y ∷ ys) x (inr h) = let c = contains_of_has ys x h in (suc c.0, (let l = c.1 in omega arith), c.2)

has_left : {X : Type 0} (xs ys : List X) (x : X) → Has xs x → Has (xs ++ ys) x
has_left [] ys x h = absurd h
has_left (z ∷ xs) ys x (inl e) = inl e
has_left (z ∷ xs) ys x (inr h) = inr (has_left xs ys x h)

has_right : {X : Type 0} (xs ys : List X) (x : X) → Has ys x → Has (xs ++ ys) x
has_right [] ys x h = h
has_right (z ∷ xs) ys x h = inr (has_right xs ys x h)

has_either : {X : Type 0} (xs ys : List X) (x : X) → Has (xs ++ ys) x → Has xs x ⊎ Has ys x
has_either [] ys x h = inr h
has_either (z ∷ xs) ys x (inl e) = inl (inl e)
has_either (z ∷ xs) ys x (inr h) = elim (has_either xs ys x h) [ inl a ↦ inl (inr a) | inr b ↦ inr b ]

has_of_filter : {X : Type 0} (test : X → Bool) (xs : List X) (x : X) → Has (filter test xs) x → Has xs x × (test x ≡ true)
has_of_filter test [] x h = absurd h
has_of_filter test (y ∷ ys) x h =
    elim (cases_Bool (test y)) [
      | inl t ↦
          let g : (y ≡ x) ⊎ Has (filter test ys) x = subst (λ zs. Has zs x) (cond-true (test y) (y ∷ filter test ys) (filter test ys) t) h in
          elim g [ inl e ↦ (inl e, sym (ap test e) ∙ t) | inr k ↦ let p = has_of_filter test ys x k in (inr p.0, p.1) ]
      | inr f ↦
          let p = has_of_filter test ys x (subst (λ zs. Has zs x) (cond-false (test y) (y ∷ filter test ys) (filter test ys) f) h) in (inr p.0, p.1)
    ]

filter_has : {X : Type 0} (test : X → Bool) (xs : List X) (x : X) → Has xs x → test x ≡ true → Has (filter test xs) x
filter_has test [] x h t = absurd h
filter_has test (y ∷ ys) x (inl e) t =
    subst (λ zs. Has zs x) (sym (cond-true (test y) (y ∷ filter test ys) (filter test ys) (ap test e ∙ t))) (inl e)
filter_has test (y ∷ ys) x (inr h) t =
    cond_both (test y) (y ∷ filter test ys) (filter test ys) (λ zs. Has zs x) (λ e. inr (filter_has test ys x h t)) (λ e. filter_has test ys x h t)

has_of_map : {X Y : Type 0} (f : X → Y) (xs : List X) (y : Y) → Has (map f xs) y → (x : X) × Has xs x × (f x ≡ y)
has_of_map f [] y h = absurd h
has_of_map f (x ∷ xs) y (inl e) = (x, inl refl, e)
has_of_map f (x ∷ xs) y (inr h) = let p = has_of_map f xs y h in (p.0, inr p.1, p.2)

map_has : {X Y : Type 0} (f : X → Y) (xs : List X) (x : X) → Has xs x → Has (map f xs) (f x)
map_has f [] x h = absurd h
map_has f (z ∷ xs) x (inl e) = inl (ap f e)
map_has f (z ∷ xs) x (inr h) = inr (map_has f xs x h)

has_of_flat : {X Y : Type 0} (f : X → List Y) (xs : List X) (y : Y) → Has (flat_map f xs) y → (x : X) × Has xs x × Has (f x) y
has_of_flat f [] y h = absurd h
has_of_flat f (x ∷ xs) y h =
    elim (has_either (f x) (flat_map f xs) y h) [ inl a ↦ (x, inl refl, a) | inr b ↦ let p = has_of_flat f xs y b in (p.0, inr p.1, p.2) ]

flat_has : {X Y : Type 0} (f : X → List Y) (xs : List X) (x : X) (y : Y) → Has xs x → Has (f x) y → Has (flat_map f xs) y
flat_has f [] x y h k = absurd h
flat_has f (z ∷ xs) x y (inl e) k = has_left (f z) (flat_map f xs) y (subst (λ w. Has (f w) y) (sym e) k)
flat_has f (z ∷ xs) x y (inr h) k = has_right (f z) (flat_map f xs) y (flat_has f xs x y h k)

-- ---- the registrations round a range

abbrev subs_round : Register → PlainRange → List (PlainRange × SubCard)
subs_round r range = filter (λ s. lies_inside range s.0) r.subs

abbrev found_subs : Register → PlainRange → List Found
found_subs r range = flat_map (found_sub r) (subs_round r range)

abbrev pieces_round : Register → PlainRange → List Piece
pieces_round r range = filter (λ p. is_delegated p.card.status && lies_inside range p.range) (register_pieces r range.space)

abbrev found_pieces : Register → PlainRange → List Found
found_pieces r range = map (λ p. ThePiece p) (pieces_round r range)

sub_is_round : (r : Register) (range : PlainRange) (f : Found) → Has (found_subs r range) f → IsRound r range f × (is_sub f ≡ true)
sub_is_round r range f h =
    let s = has_of_flat (found_sub r) (subs_round r range) f h in
    let t = has_of_filter (λ s. lies_inside range s.0) r.subs s.0 s.1 in
    let m = has_of_map (λ p. Sub s.0.0 s.0.1 p.range) (filter (λ p. lies_inside s.0.0 p.range) (register_pieces r s.0.0.space)) f s.2 in
    let p = has_of_filter (λ p. lies_inside s.0.0 p.range) (register_pieces r s.0.0.space) m.0 m.1 in
    subst (λ g. IsRound r range g × (is_sub g ≡ true)) m.2
    ((contains_of_has r.subs s.0 t.0, t.1, (m.0, contains_of_has (register_pieces r s.0.0.space) m.0 p.0, refl, p.1)), refl)

piece_is_round : (r : Register) (range : PlainRange) (f : Found) → Has (found_pieces r range) f → IsRound r range f × (is_sub f ≡ false)
piece_is_round r range f h =
    let m = has_of_map (λ p. ThePiece p) (pieces_round r range) f h in
    let p = has_of_filter (λ p. is_delegated p.card.status && lies_inside range p.range) (register_pieces r range.space) m.0 m.1 in
    let both = and_parts (is_delegated m.0.card.status) (lies_inside range m.0.range) p.1 in
    subst (λ g. IsRound r range g × (is_sub g ≡ false)) m.2
    ((contains_of_has (register_pieces r range.space) m.0 p.0, both.0, both.1), refl)

round_is_found : (r : Register) (range : PlainRange) (f : Found) → IsRound r range f → Has (all_found r range) f
round_is_found r range (ThePiece p) h =
    has_right (found_subs r range) (found_pieces r range) (ThePiece p)
    (map_has (λ q. ThePiece q) (pieces_round r range) p
    (filter_has (λ q. is_delegated q.card.status && lies_inside range q.range) (register_pieces r range.space) p
    (has_of_contains (register_pieces r range.space) p h.0) (and_from (is_delegated p.card.status) (lies_inside range p.range) h.1 h.2)))
round_is_found r range (Sub s card parent) h =
    let p : Piece = h.2.0 in
    let held = filter_has (λ q. lies_inside s q.range) (register_pieces r s.space) p (has_of_contains (register_pieces r s.space) p h.2.1) h.2.3 in
    has_left (found_subs r range) (found_pieces r range) (Sub s card parent)
    (flat_has (found_sub r) (subs_round r range) (s, card) (Sub s card parent)
    (filter_has (λ t. lies_inside range t.0) r.subs (s, card) (has_of_contains r.subs (s, card) h.0) h.1)
    (subst (λ x. Has (found_sub r (s, card)) (Sub s card x)) h.2.2
    (map_has (λ q. Sub s card q.range) (filter (λ q. lies_inside s q.range) (register_pieces r s.space)) p held)))

-- ---- the first of the least size

-- behind a piece there is no sub
abbrev NoSubs : List Found → Type 0
NoSubs fs = (g : Found) → Has fs g → is_sub g ≡ false

abbrev SubsFirst : List Found → Type 0
SubsFirst [] = Unit {0}
SubsFirst (f ∷ fs) = (is_sub f ≡ false → NoSubs fs) × SubsFirst fs

no_subs_first : (fs : List Found) → NoSubs fs → SubsFirst fs
no_subs_first [] h = tt
no_subs_first (f ∷ fs) h = (λ e g k. h g (inr k), no_subs_first fs (λ g k. h g (inr k)))

subs_before : (fs gs : List Found) → ((f : Found) → Has fs f → is_sub f ≡ true) → SubsFirst gs → SubsFirst (fs ++ gs)
subs_before [] gs h k = k
subs_before (f ∷ fs) gs h k = (λ e. absurd (both_ways (is_sub f) e (h f (inl refl))), subs_before fs gs (λ g m. h g (inr m)) k)

-- what is found among the list
abbrev IsLeastOf : List Found → Option Found → Type 0
IsLeastOf fs None = (g : Found) → Has fs g → ⊥
IsLeastOf fs (Some f) = Has fs f × ((g : Found) → Has fs g → IsNoWider f g)

narrower_is_least : (f : Found) (fs : List Found) (o : Option Found) → (is_sub f ≡ false → NoSubs fs) → IsLeastOf fs o → IsLeastOf (f ∷ fs) (narrower f o)
narrower_is_least f fs None first h =
    (inl refl, λ g k. elim k [ inl e ↦ itself f g e | inr m ↦ absurd (h g m) ])
  where
    itself : (f g : Found) → f ≡ g → IsNoWider f g
    itself f g e = (let s : found_size f ≡ found_size g = ap found_size e in omega arith, λ t k. ap is_sub e ∙ k)
narrower_is_least f fs (Some least) first h =
    cond_both (nat_le (found_size f) (found_size least)) (Some f) (Some least) (IsLeastOf (f ∷ fs))
    (λ t.
    let le : found_size f ≤ found_size least = leb-true (found_size f) (found_size least) t in
    (inl refl, λ g k. elim k [ inl e ↦ itself f g e | inr m ↦ (let n = (h.1 g m).0 in omega arith, λ e s. is_a_sub f g (λ p. first p g m) s) ]))
    (λ t.
    let lt : found_size least < found_size f = leb-false (found_size f) (found_size least) t in (
      inr h.0,
      λ g k. elim k [
        | inl e ↦ let s : found_size f ≡ found_size g = ap found_size e in (omega arith, λ same is. absurd (omega arith))
        | inr m ↦ h.1 g m
      ],
    ))
  where
    itself : (f g : Found) → f ≡ g → IsNoWider f g
    itself f g e = (let s : found_size f ≡ found_size g = ap found_size e in omega arith, λ t k. ap is_sub e ∙ k)

    is_a_sub : (f g : Found) → (is_sub f ≡ false → is_sub g ≡ false) → is_sub g ≡ true → is_sub f ≡ true
    is_a_sub f g h s = elim (cases_Bool (is_sub f)) [ inl t ↦ t | inr e ↦ absurd (both_ways (is_sub g) (h e) s) ]

least_is_least : (fs : List Found) → SubsFirst fs → IsLeastOf fs (least_found fs)
least_is_least [] h = λ g k. k
least_is_least (f ∷ fs) h = narrower_is_least f fs (least_found fs) h.0 (least_is_least fs h.1)

pub narrowest_least : (r : Register) (range : PlainRange) → IsNarrowest r range (narrowest r range)
narrowest_least r range =
    of_all (narrowest r range)
    (least_is_least (all_found r range)
    (subs_before (found_subs r range) (found_pieces r range) (λ f h. (sub_is_round r range f h).1)
    (no_subs_first (found_pieces r range) (λ f h. (piece_is_round r range f h).1))))
  where
    is_round : (f : Found) → Has (all_found r range) f → IsRound r range f
    is_round f h =
        elim (has_either (found_subs r range) (found_pieces r range) f h) [ inl a ↦ (sub_is_round r range f a).0 | inr b ↦ (piece_is_round r range f b).0 ]

    of_all : (o : Option Found) → IsLeastOf (all_found r range) o → IsNarrowest r range o
    of_all None h = λ f k. h f (round_is_found r range f k)
    of_all (Some f) h = (is_round f h.0, λ g k. h.1 g (round_is_found r range g k))
