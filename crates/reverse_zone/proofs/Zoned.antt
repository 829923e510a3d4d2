-- Each cut of a reverse entry stands once in all zones, and nothing else does.
use Rattle.std.proofs.Common.{◌≡◌, ℕ, zero, suc, ◌+◌, ◌*◌, ◌/◌, ◌%◌, ◌^◌, ◌<◌, ◌≤◌, Bool, true, false, cond, ◌&&◌, ◌||◌, nat_le, ◌==◌, List, [], ◌∷◌, ◌++◌, map, filter, find, Option, Some, IsSomeAnd, refl, sym, ap, ◌∙◌, subst, inl, inr, ◌⊎◌, true≢false, arith}
use Rattle.std.specs.List.{Contains, flat_map, list_any, range_with_len}
use Rattle.std.proofs.lemmas.Bool.{cases_Bool, cases_lt, cond-true, cond-false, and_parts, le-leb, eqb-true, false_from_ne_true}
use Rattle.std.proofs.lemmas.Nat.{pow_pos, div-add-mod', mod_below}
use Rattle.std.proofs.Math.Nat.{mul-mod_left}
use Rattle.std.proofs.lemmas.Bool.Decides.{nat_tests}
use Rattle.std.proofs.lemmas.Grind.{flat_map-append}
use Rattle.std.proofs.lemmas.List.Folds.{flat_map-map}
use Rattle.std.proofs.lemmas.List.Elements.{filter-append}
use Rattle.num_range.specs.declared.space.Space.{Space}
use Rattle.num_range.specs.declared.space.Space.TheVariants.{Asn, Ipv4, Ipv6}
use Rattle.num_range.specs.Space.{top_of, space_rank, same_space}
use Rattle.num_range.specs.Range.{PlainRange, IsRange, IsInside, same_range, lies_inside}
use Rattle.num_range.specs.Cover.{is_cut_length, reverse_cuts}
use Rattle.cidr_cover.specs.Cuts.{IsReverseCut}
use Rattle.reg_entry.specs.declared.piece.Piece.{Piece}
use Rattle.reg_entry.specs.Pieces.{piece_meets, piece_holds, IsPieceOf, AllPiecesOf}
use Rattle.reg_entry.specs.Ranges.{IsBelow, AreApart}
use Rattle.reg_entry.specs.Register.{Register, register_pieces}
use Rattle.reg_entry.specs.Whole.{IsWholeRegister, IsReverseIn, AreReversesIn}
use Rattle.reverse_zone.specs.declared.apex.Apex.{Apex}
use Rattle.reverse_zone.specs.declared.apex.Apex.TheVariants.{Four, Six}
use Rattle.reverse_zone.specs.Apex.{apex_range}
use Rattle.reverse_zone.specs.Zone.{in_pool, apexes, apexes_from, apexes_in, cuts_in, zone_cuts}
use Rattle.reverse_zone.specs.Delegated.{zoned_cuts, servers_of, IsEntryCut, AreDelegated}
use Rattle.reverse_zone.proofs.Members.{Elem, elem_of_contains, contains_of_elem, elem_append, elem_filter, filter_elem, none_passes, RisesAbove, rises_filtered, not_again}
use Rattle.reverse_zone.proofs.Parts.{CutLaws, nested, cut_order, cut_elem, cuts_rise}
use Rattle.reverse_zone.proofs.WholeNames.{whole_names}
use Rattle.reverse_zone.proofs.Names.{names_differ, quotient_is, range_same, labelled4, labelled6}

abbrev pub Entry : Type 0
Entry = PlainRange × List (List ℕ)

-- ---- lists of lists

none_of_all : {X Y : Type 0} (f : X → List Y) (xs : List X) → ((x : X) → Elem x xs → f x ≡ []) → flat_map f xs ≡ []
none_of_all f [] none = refl
none_of_all {X} {Y} f (x ∷ xs) none =
    ap (λ (ys : List Y). ys ++ flat_map f xs) (none x (inl refl)) ∙ none_of_all f xs (λ y h. none y (inr h))

same_of_all : {X Y : Type 0} (f g : X → List Y) (xs : List X) → ((x : X) → f x ≡ g x) → flat_map f xs ≡ flat_map g xs
same_of_all f g [] same = refl
same_of_all {X} {Y} f g (x ∷ xs) same =
    ap (λ (ys : List Y). ys ++ flat_map f xs) (same x) ∙ ap (λ (ys : List Y). g x ++ ys) (same_of_all f g xs same)

elem_flat_map : {X Y : Type 0} (f : X → List Y) (y : Y) (xs : List X) → Elem y (flat_map f xs) → (x : X) × Elem x xs × Elem y (f x)
elem_flat_map f y [] h = absurd h
elem_flat_map f y (x ∷ xs) h = elim (elem_append y (f x) (flat_map f xs) h) [
  | inl here ↦ (x, inl refl, here)
  | inr there ↦ let rest = elem_flat_map f y xs there in (rest.0, inr rest.1, rest.2)
]

elem_map : {X Y : Type 0} (f : X → Y) (y : Y) (xs : List X) → Elem y (map f xs) → (x : X) × Elem x xs × (f x ≡ y)
elem_map f y [] h = absurd h
elem_map f y (x ∷ xs) (inl e) = (x, inl refl, e)
elem_map f y (x ∷ xs) (inr h) = let rest = elem_map f y xs h in (rest.0, inr rest.1, rest.2)

-- a test that passes only what another one passes
of_filtered : {X Y : Type 0} (p f : X → Bool) (y : Y) (xs : List X) → ((x : X) → f x ≡ true → p x ≡ true)
    → flat_map (λ x. cond (f x) (y ∷ []) []) (filter p xs) ≡ flat_map (λ x. cond (f x) (y ∷ []) []) xs
of_filtered p f y [] wider = refl
of_filtered {X} {Y} p f y (x ∷ xs) wider = elim (cases_Bool (p x)) [
  | inl t ↦
      ap (flat_map (λ x. cond (f x) (y ∷ []) [])) (cond-true (p x) (x ∷ filter p xs) (filter p xs) t)
      ∙ ap (λ (ys : List Y). cond (f x) (y ∷ []) [] ++ ys) (of_filtered p f y xs wider)
  | inr n ↦
      ap (flat_map (λ x. cond (f x) (y ∷ []) [])) (cond-false (p x) (x ∷ filter p xs) (filter p xs) n)
      ∙ of_filtered p f y xs wider
      ∙ sym (ap (λ b. cond b (y ∷ []) [] ++ flat_map (λ x. cond (f x) (y ∷ []) []) xs)
      (false_from_ne_true (f x) (λ t. true≢false (sym (wider x t) ∙ n))))
]

-- one number of a run passes
none_of_run : {Y : Type 0} (f : ℕ → Bool) (y : Y) (q a n : ℕ) → ((k : ℕ) → f k ≡ true → k ≡ q) → q < a
    → flat_map (λ k. cond (f k) (y ∷ []) []) (range_with_len a n) ≡ []
none_of_run f y q a zero only below = refl
none_of_run {Y} f y q a (suc n) only below =
    ap (λ b. cond b (y ∷ []) [] ++ flat_map (λ k. cond (f k) (y ∷ []) []) (range_with_len (a + 1) n))
    (false_from_ne_true (f a) (λ t. let e = only a t in omega arith))
    ∙ none_of_run f y q (a + 1) n only (omega arith)

one_of_run : {Y : Type 0} (f : ℕ → Bool) (y : Y) (q a n : ℕ) → ((k : ℕ) → f k ≡ true → k ≡ q) → f q ≡ true → a ≤ q → q < a + n
    → flat_map (λ k. cond (f k) (y ∷ []) []) (range_with_len a n) ≡ y ∷ []
one_of_run f y q a zero only passes low high = absurd (omega arith)
one_of_run {Y} f y q a (suc n) only passes low high = elim (cases_lt a q) [
  | inl lt ↦
      ap (λ b. cond b (y ∷ []) [] ++ flat_map (λ k. cond (f k) (y ∷ []) []) (range_with_len (a + 1) n))
      (false_from_ne_true (f a) (λ t. let e = only a t in omega arith))
      ∙ one_of_run f y q (a + 1) n only passes (omega arith) (omega arith)
  | inr ge ↦
      let e : a ≡ q = omega arith in
      ap (λ b. cond b (y ∷ []) [] ++ flat_map (λ k. cond (f k) (y ∷ []) []) (range_with_len (a + 1) n)) (ap f e ∙ passes)
      ∙ ap (λ (ys : List Y). y ∷ ys) (none_of_run f y q (a + 1) n only (omega arith))
]

-- ---- which apex a cut has

module _ (laws : CutLaws) where
  abbrev fits : PlainRange → Apex → Bool
  fits c apex = lies_inside c (apex_range apex)

  -- the octet or the nibbles at the front of the cut, which are those of the apex
  of_four : (r c : PlainRange) (octet : ℕ) → IsReverseCut r c → fits c (Four octet) ≡ true → octet ≡ c.first / 2 ^ 24
  of_four r c octet cut t =
      let inside = (laws.inside c (apex_range (Four octet))).0 t in
      let order = cut_order r c cut in
      let low = inside.1 in
      let high = inside.2 in
      sym (quotient_is c.first octet (2 ^ 24) (omega arith) low (omega arith))

  of_six : (r c : PlainRange) (nibbles : ℕ) → IsReverseCut r c → fits c (Six nibbles) ≡ true → nibbles ≡ c.first / 2 ^ 116
  of_six r c nibbles cut t =
      let inside = (laws.inside c (apex_range (Six nibbles))).0 t in
      let order = cut_order r c cut in
      let low = inside.1 in
      let high = inside.2 in
      sym (quotient_is c.first nibbles (2 ^ 116) (omega arith) low (omega arith))

  -- a cut lies in the zone of its first number
  fits_four : (r c : PlainRange) → IsReverseCut r c → c.space ≡ Ipv4 → fits c (Four (c.first / 2 ^ 24)) ≡ true
  fits_four r c cut e =
      let h = labelled4 r c cut e in
      let parts : c.first / 2 ^ 24 * 2 ^ 24 + c.first % 2 ^ 24 ≡ c.first = div-add-mod' c.first (2 ^ 24) in
      let rest = mod_below c.first (2 ^ 24) (omega arith) in
      let few = h.fits in
      let pos = pow_pos (8 + 8 * h.digits) in
      let both = nested (8 + 8 * h.digits) 24 c.first (c.first / 2 ^ 24 * 2 ^ 24) c.first (omega arith) h.starts (mul-mod_left (c.first / 2 ^ 24) (2 ^ 24))
      (omega arith) (omega arith) (omega arith) (omega arith) in
      let ends = h.ends in
      let low = both.0 in
      let high = both.1 in
      (laws.inside c (apex_range (Four (c.first / 2 ^ 24)))).1 (e, low, omega arith)

  fits_six : (r c : PlainRange) → IsReverseCut r c → c.space ≡ Ipv6 → fits c (Six (c.first / 2 ^ 116)) ≡ true
  fits_six r c cut e =
      let h = labelled6 r c cut e in
      let parts : c.first / 2 ^ 116 * 2 ^ 116 + c.first % 2 ^ 116 ≡ c.first = div-add-mod' c.first (2 ^ 116) in
      let rest = mod_below c.first (2 ^ 116) (omega arith) in
      let few = h.fits in
      let pos = pow_pos (64 + 4 * h.digits) in
      let both = nested (64 + 4 * h.digits) 116 c.first (c.first / 2 ^ 116 * 2 ^ 116) c.first (omega arith) h.starts (mul-mod_left (c.first / 2 ^ 116) (2 ^ 116))
      (omega arith) (omega arith) (omega arith) (omega arith) in
      let ends = h.ends in
      let low = both.0 in
      let high = both.1 in
      (laws.inside c (apex_range (Six (c.first / 2 ^ 116)))).1 (e, low, omega arith)

  not_six : (c : PlainRange) (nibbles : ℕ) → c.space ≡ Ipv4 → fits c (Six nibbles) ≡ false
  not_six c nibbles e = false_from_ne_true (fits c (Six nibbles)) (λ t.
      let ranks : 1 ≡ 2 = ap space_rank (sym e ∙ ((laws.inside c (apex_range (Six nibbles))).0 t).0) in
      omega arith)

  not_four : (c : PlainRange) (octet : ℕ) → c.space ≡ Ipv6 → fits c (Four octet) ≡ false
  not_four c octet e = false_from_ne_true (fits c (Four octet)) (λ t.
      let ranks : 2 ≡ 1 = ap space_rank (sym e ∙ ((laws.inside c (apex_range (Four octet))).0 t).0) in
      omega arith)

  module _ {Y : Type 0} (y : Y) (c : PlainRange) where
    of_apexes : flat_map (λ a. cond (fits c a) (y ∷ []) []) apexes
        ≡ flat_map (λ o. cond (fits c (Four o)) (y ∷ []) []) (range_with_len 0 256) ++ flat_map (λ n. cond (fits c (Six n)) (y ∷ []) []) (range_with_len 0x200 512)
    unfolding apexes_from
    of_apexes =
        flat_map-append (λ a. cond (fits c a) (y ∷ []) []) (map Four (range_with_len 0 256)) (map Six (range_with_len 0x200 512))
        ∙ ap (λ (ys : List Y). ys ++ flat_map (λ a. cond (fits c a) (y ∷ []) []) (map Six (range_with_len 0x200 512)))
        (flat_map-map (λ a. cond (fits c a) (y ∷ []) []) Four (range_with_len 0 256))
        ∙ ap (λ (ys : List Y). flat_map (λ o. cond (fits c (Four o)) (y ∷ []) []) (range_with_len 0 256) ++ ys)
        (flat_map-map (λ a. cond (fits c a) (y ∷ []) []) Six (range_with_len 0x200 512))

    one_four : (r : PlainRange) → IsReverseCut r c → c.space ≡ Ipv4 → c.first < 2 ^ 32 → flat_map (λ a. cond (fits c a) (y ∷ []) []) apexes ≡ y ∷ []
    one_four r cut e high =
        let parts : c.first / 2 ^ 24 * 2 ^ 24 + c.first % 2 ^ 24 ≡ c.first = div-add-mod' c.first (2 ^ 24) in
        of_apexes
        ∙ ap (λ (ys : List Y). ys ++ flat_map (λ n. cond (fits c (Six n)) (y ∷ []) []) (range_with_len 0x200 512))
        (one_of_run (λ o. fits c (Four o)) y (c.first / 2 ^ 24) 0 256 (λ o t. of_four r c o cut t) (fits_four r c cut e) (omega arith) (omega arith))
        ∙ ap (λ (ys : List Y). y ∷ ys)
        (none_of_all (λ n. cond (fits c (Six n)) (y ∷ []) []) (range_with_len 0x200 512) (λ n h. ap (λ b. cond b (y ∷ []) []) (not_six c n e)))

    one_six : (r : PlainRange) → IsReverseCut r c → c.space ≡ Ipv6 → 2 ^ 125 ≤ c.first → c.first < 2 ^ 126
        → flat_map (λ a. cond (fits c a) (y ∷ []) []) apexes ≡ y ∷ []
    one_six r cut e low high =
        let parts : c.first / 2 ^ 116 * 2 ^ 116 + c.first % 2 ^ 116 ≡ c.first = div-add-mod' c.first (2 ^ 116) in
        let rest = mod_below c.first (2 ^ 116) (omega arith) in
        of_apexes
        ∙ ap (λ (ys : List Y). ys ++ flat_map (λ n. cond (fits c (Six n)) (y ∷ []) []) (range_with_len 0x200 512))
        (none_of_all (λ o. cond (fits c (Four o)) (y ∷ []) []) (range_with_len 0 256) (λ o h. ap (λ b. cond b (y ∷ []) []) (not_four c o e)))
        ∙ one_of_run (λ n. fits c (Six n)) y (c.first / 2 ^ 116) 0x200 512 (λ n t. of_six r c n cut t) (fits_six r c cut e) (omega arith) (omega arith)

  -- ---- one entry's cuts in one zone

  space_same : (a b : Space) → same_space a b ≡ true → a ≡ b
  space_same a b h = sym (back a) ∙ ap of_rank (eqb-true (space_rank a) (space_rank b) h) ∙ back b
    where
      of_rank : ℕ → Space
      of_rank zero = Asn
      of_rank (suc zero) = Ipv4
      of_rank (suc (suc n)) = Ipv6

      back : (s : Space) → of_rank (space_rank s) ≡ s
      back Asn = refl
      back Ipv4 = refl
      back Ipv6 = refl

  range_told : (d c : PlainRange) → same_range d c ≡ true → d ≡ c
  range_told d c h =
      let ends = and_parts (same_space d.space c.space && (d.first == c.first)) (d.last == c.last) h in
      let starts = and_parts (same_space d.space c.space) (d.first == c.first) ends.0 in
      range_same d c (space_same d.space c.space starts.0) (eqb-true d.first c.first starts.1) (eqb-true d.last c.last ends.1)

  range_tells : (c : PlainRange) → same_range c c ≡ true
  range_tells c = grind (arith, nat_tests)

  one_alike : (low : ℕ) (c : PlainRange) (ds : List PlainRange) → RisesAbove low ds → Elem c ds → filter (λ d. same_range d c) ds ≡ c ∷ []
  one_alike low c [] rises h = absurd h
  one_alike low c (d ∷ ds) rises (inl e) =
      cond-true (same_range d c) (d ∷ filter (λ d. same_range d c) ds) (filter (λ d. same_range d c) ds) (ap (λ x. same_range x c) e ∙ range_tells c)
      ∙ ap (λ (x : PlainRange). x ∷ filter (λ d. same_range d c) ds) e
      ∙ ap (λ (xs : List PlainRange). c ∷ xs)
      (none_passes (λ d. same_range d c) ds (λ x g t. not_again low d ds rises (subst (λ (z : PlainRange). Elem z ds) (range_told x c t ∙ sym e) g)))
  one_alike low c (d ∷ ds) rises (inr h) =
      cond-false (same_range d c) (d ∷ filter (λ d. same_range d c) ds) (filter (λ d. same_range d c) ds)
      (false_from_ne_true (same_range d c) (λ t. not_again low d ds rises (subst (λ (z : PlainRange). Elem z ds) (sym (range_told d c t)) h)))
      ∙ one_alike (d.last + 1) c ds rises.2 h

  servers_mapped : (v : List (List ℕ)) (c : PlainRange) (ds : List PlainRange)
      → servers_of (map (λ d. (d, v)) ds) c ≡ map (λ d. v) (filter (λ d. same_range d c) ds)
  servers_mapped v c [] = refl
  servers_mapped v c (d ∷ ds) = at (same_range d c) (servers_mapped v c ds)
    where
      at : (b : Bool) → servers_of (map (λ d. (d, v)) ds) c ≡ map (λ d. v) (filter (λ d. same_range d c) ds)
          → map (λ (x : Entry). x.1) (cond b ((d, v) ∷ filter (λ (x : Entry). same_range x.0 c) (map (λ d. (d, v)) ds)) (filter (λ (x : Entry). same_range x.0 c) (map (λ d. (d, v)) ds)))
          ≡ map (λ (x : PlainRange). v) (cond b (d ∷ filter (λ d. same_range d c) ds) (filter (λ d. same_range d c) ds))
      at true h = ap (λ (vs : List (List (List ℕ))). v ∷ vs) h
      at false h = h

  hit : (a : Apex) (s : Entry) (c : PlainRange) → Elem c (reverse_cuts s.0) → fits c a ≡ true → servers_of (cuts_in a s) c ≡ s.1 ∷ []
  hit a s c h t =
      servers_mapped s.1 c (filter (λ d. fits d a) (reverse_cuts s.0))
      ∙ ap (map (λ (x : PlainRange). s.1))
      (one_alike 0 c (filter (λ d. fits d a) (reverse_cuts s.0)) (rises_filtered (λ d. fits d a) 0 (reverse_cuts s.0) (cuts_rise laws s.0))
      (filter_elem (λ d. fits d a) c (reverse_cuts s.0) h t))

  miss : (a : Apex) (s : Entry) (c : PlainRange) → (Elem c (reverse_cuts s.0) → fits c a ≡ true → ⊥) → servers_of (cuts_in a s) c ≡ []
  miss a s c none =
      servers_mapped s.1 c (filter (λ d. fits d a) (reverse_cuts s.0))
      ∙ ap (map (λ (x : PlainRange). s.1))
      (none_passes (λ d. same_range d c) (filter (λ d. fits d a) (reverse_cuts s.0)) (λ x h t.
      let both = elem_filter (λ d. fits d a) c (reverse_cuts s.0) (subst (λ (z : PlainRange). Elem z (filter (λ d. fits d a) (reverse_cuts s.0))) (range_told x c t) h) in
      none both.0 both.1))

  -- ---- all entries' cuts in one zone

  abbrev IsBefore : PlainRange → PlainRange → Type 0
  IsBefore r s = (space_rank r.space < space_rank s.space) ⊎ ((space_rank r.space ≡ space_rank s.space) × (r.last < s.first))

  before_of_below : (r s : PlainRange) → IsBelow r s → IsBefore r s
  before_of_below r s h = grind (arith, nat_tests)

  before_after : (r s t : PlainRange) → IsRange s → IsBefore r s → IsBefore s t → IsBefore r t
  before_after r s t valid h k = grind (arith, valid)

  apart_head : (p : Entry) (ps : List Entry) → AreApart (p ∷ ps) → IsRange p.0
  apart_head p [] h = h
  apart_head p (q ∷ qs) h = h.0

  apart_tail : (p : Entry) (ps : List Entry) → AreApart (p ∷ ps) → AreApart ps
  apart_tail p [] h = tt
  apart_tail p (q ∷ qs) h = h.2

  before_all : (p : Entry) (ps : List Entry) (q : Entry) → AreApart (p ∷ ps) → Elem q ps → IsBefore p.0 q.0
  before_all p [] q h at = absurd at
  before_all p (x ∷ xs) q h (inl e) = subst (λ (y : Entry). IsBefore p.0 y.0) e (before_of_below p.0 x.0 h.1)
  before_all p (x ∷ xs) q h (inr at) =
      before_after p.0 x.0 q.0 (apart_head x xs h.2) (before_of_below p.0 x.0 h.1) (before_all x xs q h.2 at)

  -- no cut lies in two ranges that are apart
  not_both : (r s c : PlainRange) → IsBefore r s → IsReverseCut r c → IsReverseCut s c → ⊥
  not_both r s c before cr cs =
      let order = cut_order r c cr in
      let ir = cr.is_cut.inside in
      let js = cs.is_cut.inside in
      let until = ir.2 in
      let from = js.1 in
      let ranks : space_rank r.space ≡ space_rank s.space = ap space_rank (sym ir.0 ∙ js.0) in
      elim before [ inl lt ↦ absurd (omega arith) | inr both ↦ let lt = both.1 in absurd (omega arith) ]

  one_entry : (a : Apex) (s : Entry) (c : PlainRange) (rs : List Entry) → AreApart rs → Elem s rs → Elem c (reverse_cuts s.0) → fits c a ≡ true
      → flat_map (λ t. servers_of (cuts_in a t) c) rs ≡ s.1 ∷ []
  one_entry a s c [] apart at h t = absurd at
  one_entry a s c (r ∷ rs) apart (inl e) h t =
      ap (λ (x : Entry). servers_of (cuts_in a x) c ++ flat_map (λ t. servers_of (cuts_in a t) c) rs) e
      ∙ ap (λ (vs : List (List (List ℕ))). vs ++ flat_map (λ t. servers_of (cuts_in a t) c) rs) (hit a s c h t)
      ∙ ap (λ (vs : List (List (List ℕ))). s.1 ∷ vs)
      (none_of_all (λ t. servers_of (cuts_in a t) c) rs (λ x g. miss a x c (λ k u.
      not_both s.0 x.0 c (subst (λ (y : Entry). IsBefore y.0 x.0) e (before_all r rs x apart g)) (cut_elem laws s.0 c h) (cut_elem laws x.0 c k))))
  one_entry a s c (r ∷ rs) apart (inr at) h t =
      ap (λ (vs : List (List (List ℕ))). vs ++ flat_map (λ t. servers_of (cuts_in a t) c) rs)
      (miss a r c (λ k u. not_both r.0 s.0 c (before_all r rs s apart at) (cut_elem laws r.0 c k) (cut_elem laws s.0 c h)))
      ∙ one_entry a s c rs (apart_tail r rs apart) at h t

  servers_append : (us vs : List Entry) (c : PlainRange) → servers_of (us ++ vs) c ≡ servers_of us c ++ servers_of vs c
  servers_append us vs c = ap (map (λ (x : Entry). x.1)) (filter-append (λ (x : Entry). same_range x.0 c) us vs) ∙ parted (filter (λ (x : Entry). same_range x.0 c) us)
    where
      parted : (xs : List Entry) → map (λ (x : Entry). x.1) (xs ++ filter (λ (x : Entry). same_range x.0 c) vs)
          ≡ map (λ (x : Entry). x.1) xs ++ map (λ (x : Entry). x.1) (filter (λ (x : Entry). same_range x.0 c) vs)
      parted [] = refl
      parted (x ∷ xs) = ap (λ (ys : List (List (List ℕ))). x.1 ∷ ys) (parted xs)

  servers_flat : {X : Type 0} (f : X → List Entry) (xs : List X) (c : PlainRange) → servers_of (flat_map f xs) c ≡ flat_map (λ x. servers_of (f x) c) xs
  servers_flat f [] c = refl
  servers_flat {X} f (x ∷ xs) c =
      servers_append (f x) (flat_map f xs) c ∙ ap (λ (vs : List (List (List ℕ))). servers_of (f x) c ++ vs) (servers_flat f xs c)

  in_zone : (r : Register) (s : Entry) (c : PlainRange) (a : Apex) → AreApart r.reverses → Elem s r.reverses → Elem c (reverse_cuts s.0)
      → servers_of (zone_cuts r a) c ≡ cond (fits c a) (s.1 ∷ []) []
  in_zone r s c a apart at h = elim (cases_Bool (fits c a)) [
    | inl t ↦
        servers_flat (cuts_in a) r.reverses c ∙ one_entry a s c r.reverses apart at h t
        ∙ sym (cond-true (fits c a) (s.1 ∷ []) [] t)
    | inr f ↦
        servers_flat (cuts_in a) r.reverses c
        ∙ none_of_all (λ t. servers_of (cuts_in a t) c) r.reverses (λ x g. miss a x c (λ k u. true≢false (sym u ∙ f)))
        ∙ sym (cond-false (fits c a) (s.1 ∷ []) [] f)
  ]

  -- ---- the piece that an entry lies in

  found_elem : {X : Type 0} (p : X → Bool) (P : X → Type 0) (xs : List X) → IsSomeAnd (find p xs) P → (x : X) × Elem x xs × P x
  found_elem p P [] h = absurd h
  found_elem {X} p P (x ∷ xs) h = elim (cases_Bool (p x)) [
    | inl t ↦ (x, inl refl, subst (λ (o : Option X). IsSomeAnd o P) (cond-true (p x) (Some x) (find p xs) t) h)
    | inr f ↦ let rest = found_elem p P xs (subst (λ (o : Option X). IsSomeAnd o P) (cond-false (p x) (Some x) (find p xs) f) h) in (rest.0, inr rest.1, rest.2)
  ]

  any_elem : {X : Type 0} (p : X → Bool) (x : X) (xs : List X) → Elem x xs → p x ≡ true → list_any p xs ≡ true
  any_elem p x [] h t = absurd h
  any_elem p x (y ∷ ys) (inl e) t = ap (λ b. b || list_any p ys) (ap p e ∙ t)
  any_elem p x (y ∷ ys) (inr h) t = or_true (p y) (list_any p ys) (any_elem p x ys h t)
    where
      or_true : (b d : Bool) → d ≡ true → (b || d) ≡ true
      or_true true d e = refl
      or_true false d e = e

  one_reverse : (r : Register) (s : Entry) (rs : List Entry) → AreReversesIn r rs → Elem s rs → IsReverseIn r s
  one_reverse r s [] all h = absurd h
  one_reverse r s (x ∷ xs) all (inl e) = subst (IsReverseIn r) e all.0
  one_reverse r s (x ∷ xs) all (inr h) = one_reverse r s xs all.1 h

  one_piece : (space : Space) (p : Piece) (ps : List Piece) → AllPiecesOf space ps → Elem p ps → IsPieceOf space p
  one_piece space p [] all h = absurd h
  one_piece space p (x ∷ xs) all (inl e) = subst (IsPieceOf space) e all.0
  one_piece space p (x ∷ xs) all (inr h) = one_piece space p xs all.1 h

  record IsInPiece (r : Register) (range : PlainRange) : Type 0 where
    piece : Piece
    known : Elem piece (register_pieces r range.space)
    of : IsPieceOf range.space piece
    inside : IsInside range piece.range

  entry_piece : (r : Register) (s : Entry) → IsWholeRegister r → Elem s r.reverses → IsInPiece r s.0
  entry_piece r s whole h =
      let found = found_elem (λ p. piece_holds p s.0.first) _ (register_pieces r s.0.space) (one_reverse r s r.reverses whole.reverses h).inside in
      record {
        piece = found.0;
        known = found.1;
        of = one_piece s.0.space found.0 (register_pieces r s.0.space) (whole.pieces.each s.0.space).each found.1;
        inside = (laws.inside s.0 found.0.range).0 found.2.0;
      }

  pooled : (r : Register) (s c : PlainRange) (a : Apex) → IsInPiece r s → IsReverseCut s c → fits c a ≡ true → in_pool r a ≡ true
  pooled r s c a at cut t =
      let zoned = (laws.inside c (apex_range a)).0 t in
      let ranged = cut.is_cut.inside in
      let order = cut_order s c cut in
      let z1 = zoned.1 in
      let z2 = zoned.2 in
      let r1 = ranged.1 in
      let r2 = ranged.2 in
      let p1 = at.inside.1 in
      let p2 = at.inside.2 in
      let meets : piece_meets (apex_range a) at.piece ≡ true
      = ap (λ b. b && nat_le (apex_range a).first at.piece.range.last) (le-leb at.piece.range.first (apex_range a).last (omega arith))
      ∙ le-leb (apex_range a).first at.piece.range.last (omega arith) in
      any_elem (piece_meets (apex_range a)) at.piece (register_pieces r (apex_range a).space)
      (subst (λ space. Elem at.piece (register_pieces r space)) (sym ranged.0 ∙ zoned.0) at.known) meets

  -- ---- all zones

  one_apex : (r : Register) (s c : PlainRange) (v : List (List ℕ)) → IsInPiece r s → IsReverseCut s c
      → flat_map (λ a. cond (fits c a) (v ∷ []) []) apexes ≡ v ∷ []
  one_apex r s c v at cut = by_space s.space refl
    where
      of_space : (space : Space) → s.space ≡ space → c.space ≡ space
      of_space space e = cut.is_cut.inside.0 ∙ e

      by_space : (space : Space) → s.space ≡ space → flat_map (λ a. cond (fits c a) (v ∷ []) []) apexes ≡ v ∷ []
      by_space Asn e = absurd (true≢false (sym (subst (λ k. is_cut_length k cut.length ≡ true) e cut.is_cut.cut_length)))
      by_space Ipv4 e =
          let top = subst (λ k. at.piece.range.last ≤ top_of k) e at.of.within in
          let r2 = cut.is_cut.inside.2 in
          let p2 = at.inside.2 in
          let order = cut_order s c cut in
          one_four v c s cut (of_space Ipv4 e) (omega arith)
      by_space Ipv6 e =
          let pool = at.of.pooled (at.of.of_space ∙ e) in
          let r1 = cut.is_cut.inside.1 in
          let r2 = cut.is_cut.inside.2 in
          let p1 = at.inside.1 in
          let p2 = at.inside.2 in
          let order = cut_order s c cut in
          let low = pool.0 in
          let high = pool.1 in
          one_six v c s cut (of_space Ipv6 e) (omega arith) (omega arith)

  once : (r : Register) (s : Entry) (c : PlainRange) → IsWholeRegister r → Elem s r.reverses → Elem c (reverse_cuts s.0)
      → servers_of (zoned_cuts r) c ≡ s.1 ∷ []
  once r s c whole at h =
      let cut = cut_elem laws s.0 c h in
      let piece = entry_piece r s whole at in
      servers_flat (zone_cuts r) (apexes_in r) c
      ∙ same_of_all (λ a. servers_of (zone_cuts r a) c) (λ a. cond (fits c a) (s.1 ∷ []) []) (apexes_in r) (λ a. in_zone r s c a whole.reverses_apart at h)
      ∙ of_filtered (in_pool r) (fits c) s.1 apexes (λ a t. pooled r s.0 c a piece cut t)
      ∙ one_apex r s.0 c s.1 piece cut

  only : (r : Register) (apex : Apex) (c : Entry) → Elem c (zone_cuts r apex) → IsEntryCut r c × IsInside c.0 (apex_range apex)
  only r apex c h =
      let (s, at, there) = elem_flat_map (cuts_in apex) c r.reverses h in
      let (cut, zoned, same) = elem_map (λ d. (d, s.1)) c (filter (λ d. fits d apex) (reverse_cuts s.0)) there in
      let both = elem_filter (λ d. fits d apex) cut (reverse_cuts s.0) zoned in
      let first : cut ≡ c.0 = ap (λ (x : Entry). x.0) same in (
        record {
          entry = s;
          known = contains_of_elem s r.reverses at;
          cut = contains_of_elem c.0 (reverse_cuts s.0) (subst (λ (x : PlainRange). Elem x (reverse_cuts s.0)) first both.0);
          servers = sym (ap (λ (x : Entry). x.1) same);
        },
        subst (λ (x : PlainRange). IsInside x (apex_range apex)) first ((laws.inside cut (apex_range apex)).0 both.1),
      )

  elem_of : {X : Type 0} (x : X) (xs : List X) → Contains xs x → Elem x xs
  elem_of x xs h = elem_of_contains x xs h.0 h.1 h.2

  pub zones_delegate : (r : Register) → IsWholeRegister r → AreDelegated r
  zones_delegate r whole = record {
    once = λ s c at h. once r s c whole (elem_of s r.reverses at) (elem_of c (reverse_cuts s.0) h);
    only = λ apex c h. only r apex c (elem_of c (zone_cuts r apex) h);
    whole = λ apex c valid h.
        let (of, inside) = only r apex c (elem_of c (zone_cuts r apex) h) in
        whole_names apex of.entry.0 c.0 valid (cut_elem laws of.entry.0 c.0 (elem_of c.0 (reverse_cuts of.entry.0) of.cut)) inside;
    names = λ apex c d hc hd e.
        let oc = only r apex c (elem_of c (zone_cuts r apex) hc) in
        let od = only r apex d (elem_of d (zone_cuts r apex) hd) in
        names_differ apex oc.0.entry.0 od.0.entry.0 c.0 d.0
        (cut_elem laws oc.0.entry.0 c.0 (elem_of c.0 (reverse_cuts oc.0.entry.0) oc.0.cut))
        (cut_elem laws od.0.entry.0 d.0 (elem_of d.0 (reverse_cuts od.0.entry.0) od.0.cut)) oc.1 od.1 e;
  }
