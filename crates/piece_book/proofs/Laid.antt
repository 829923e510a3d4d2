-- What is laid: what lies below stays, then comes the new piece between the rests of the run that gives way, and what lies
-- above stays.
use Rattle.std.proofs.Common.{◌≡◌, ℕ, ◌+◌, ◌-◌, ◌<◌, ◌≤◌, min, max, Bool, true, false, ◌&&◌, ◌==◌, nat_lt, List, [], ◌∷◌, ◌++◌, Option, None, Some, option_to_list, inl, inr, refl, sym, ◌∙◌, ap, arith, append_assoc}
use Rattle.std.proofs.lemmas.Bool.{cases_Bool, cond-true, cond-false, and_parts, ltb-true, le-ltb, lt-ltb, eq-eqb, ne_eqb}
use Rattle.std.proofs.lemmas.List.{append-nil}
use Rattle.std.specs.List.{AllByRecursion, flat_map}
use Rattle.num_range.specs.Range.{PlainRange}
use Rattle.num_range.specs.declared.space.Space.{Space}
use Rattle.reg_entry.specs.declared.card.Card.{Card}
use Rattle.reg_entry.specs.declared.card.Status.{Status}
use Rattle.reg_entry.specs.declared.piece.Piece.{Piece}
use Rattle.reg_entry.specs.Card.{is_available}
use Rattle.reg_entry.specs.Pieces.{part_below, part_above, can_join, joined_pair, joined, joined_after, laid, RisesFrom, IsSettled, IsSettledAfter}
use Rattle.reg_entry.proofs.Joining.{joined_after_of_settled}
use Rattle.piece_book.specs.GivesWay.{both_available, reach, gives_way, first_of, last_from, last_of, ending_at, starting_at, rest_below, new_first, new_card, rest_above, new_last, new_line}
use Rattle.piece_book.proofs.Exchanging.{rises_behind}
use Rattle.piece_book.proofs.GivingWay.{LiesBelow, LiesAbove, reach_small, way_given}

-- ---- the parts that are kept

-- what is kept below of one piece, where there is one, and what is kept above
abbrev kept_low : PlainRange → Option Piece → List Piece
kept_low r None = []
kept_low r (Some p) = part_below r p

abbrev kept_high : PlainRange → Option Piece → List Piece
kept_high r None = []
kept_high r (Some p) = part_above r p

none_below : (low : ℕ) (r : PlainRange) (ps : List Piece) → RisesFrom low ps → r.first ≤ low → flat_map (part_below r) ps ≡ []
none_below low r [] h l = refl
none_below low r (p ∷ ps) h l =
    let t : nat_lt p.range.first r.first ≡ false = le-ltb p.range.first r.first (omega (arith, h.0)) in
    rw t (none_below (p.range.last + 1) r ps h.2 (omega (arith, h.0, h.1)))

all_kept : (low : ℕ) (r : PlainRange) (ps : List Piece) → RisesFrom low ps → r.last < low → flat_map (part_above r) ps ≡ ps
all_kept low r [] h l = refl
all_kept low r (p ∷ ps) h l =
    let t : nat_lt r.last p.range.last ≡ true = lt-ltb r.last p.range.last (omega (arith, h.0, h.1)) in
    let most : max p.range.first (r.last + 1) ≡ p.range.first = omega (arith, h.0) in
    rw t (ap (λ (n : ℕ). starting_at p n ∷ flat_map (part_above r) ps) most
    ∙ ap (λ (xs : List Piece). p ∷ xs) (all_kept (p.range.last + 1) r ps h.2 (omega (arith, h.0, h.1))))

above_kept : (low : ℕ) (r : PlainRange) (s : Status) (ps : List Piece) → RisesFrom low ps → AllByRecursion (LiesAbove r s) ps → flat_map (part_above r) ps ≡ ps
above_kept low r s [] h above = refl
above_kept low r s (p ∷ ps) h above = all_kept p.range.first r (p ∷ ps) (omega arith, h.1, h.2) (omega (arith, above.0))

front_below : (low : ℕ) (r : PlainRange) (s : Status) (front rest : List Piece) → RisesFrom low (front ++ rest) → AllByRecursion (LiesBelow r s) front
    → flat_map (part_below r) (front ++ rest) ≡ front ++ flat_map (part_below r) rest
front_below low r s [] rest h below = refl
front_below low r s (p ∷ front) rest h below =
    let t : nat_lt p.range.first r.first ≡ true = lt-ltb p.range.first r.first (omega (arith, h.1, below.0)) in
    let least : min p.range.last (r.first - 1) ≡ p.range.last = omega (arith, below.0) in
    rw t (ap (λ (n : ℕ). ending_at p n ∷ flat_map (part_below r) (front ++ rest)) least
    ∙ ap (λ (xs : List Piece). p ∷ xs) (front_below (p.range.last + 1) r s front rest h.2 below.1))

front_above : (low : ℕ) (r : PlainRange) (s : Status) (front rest : List Piece) → r.first ≤ r.last → RisesFrom low (front ++ rest) → AllByRecursion (LiesBelow r s) front
    → flat_map (part_above r) (front ++ rest) ≡ flat_map (part_above r) rest
front_above low r s [] rest ordered h below = refl
front_above low r s (p ∷ front) rest ordered h below =
    let t : nat_lt r.last p.range.last ≡ false = le-ltb r.last p.range.last (omega (arith, below.0)) in
    rw t (front_above (p.range.last + 1) r s front rest ordered h.2 below.1)

run_below : (low : ℕ) (r : PlainRange) (s : Status) (run back : List Piece) → r.first ≤ r.last → RisesFrom low (run ++ back)
    → AllByRecursion (λ p. gives_way r s p ≡ true) run → AllByRecursion (LiesAbove r s) back
    → flat_map (part_below r) (run ++ back) ≡ kept_low r (first_of run)
run_below low r s [] [] ordered h each above = refl
run_below low r s [] (p ∷ back) ordered h each above = none_below p.range.first r (p ∷ back) (omega arith, h.1, h.2) (omega (arith, above.0))
run_below low r s (p ∷ run) back ordered h each above =
    let given = way_given r s p each.0 in
    let small = reach_small s p in
    ap (λ (xs : List Piece). part_below r p ++ xs) (none_below (p.range.last + 1) r (run ++ back) h.2 (omega (arith, given.0)))
    ∙ append-nil (part_below r p)

run_above : (low : ℕ) (r : PlainRange) (s : Status) (run back : List Piece) → RisesFrom low (run ++ back)
    → AllByRecursion (λ p. gives_way r s p ≡ true) run → AllByRecursion (LiesAbove r s) back
    → flat_map (part_above r) (run ++ back) ≡ kept_high r (last_of run) ++ back
run_above low r s [] back h each above = above_kept low r s back h above
run_above low r s (p ∷ []) back h each above = ap (λ (xs : List Piece). part_above r p ++ xs) (above_kept (p.range.last + 1) r s back h.2 above)
run_above low r s (p ∷ q ∷ run) back h each above =
    let given = way_given r s q each.1.0 in
    let small = reach_small s q in
    let t : nat_lt r.last p.range.last ≡ false = le-ltb r.last p.range.last (omega (arith, given.1, h.2.0)) in
    rw t (run_above (p.range.last + 1) r s (q ∷ run) back h.2 each.1 above)

-- ---- joining

never : (a b c : Bool) → (b && c) ≡ false → ((a && b) && c) ≡ false
never true true true e = absurd (cc)
never true true false e = refl
never true false c e = refl
never false b c e = refl

-- a piece that lies below doesn't become one with the new one
apart_below : (r : PlainRange) (s : Status) (p n : Piece) → LiesBelow r s p → n.range.first ≡ r.first → is_available n.card.status ≡ is_available s
    → can_join p n ≡ false
apart_below r s p n below begins alike = elim (cases_Bool (both_available s p)) [
  | inl both ↦
      let one : reach s p ≡ 1 = cond-true (both_available s p) 1 0 both in
      let apart : (p.range.last + 1 == n.range.first) ≡ false = ne_eqb (p.range.last + 1) n.range.first (λ e. omega (arith, below)) in
      ap (λ (b : Bool). b && is_available p.card.status && is_available n.card.status) apart
  | inr not_both ↦
      never (p.range.last + 1 == n.range.first) (is_available p.card.status) (is_available n.card.status)
      (ap (λ (b : Bool). is_available p.card.status && b) alike ∙ not_both)
]

apart_above : (r : PlainRange) (s : Status) (n p : Piece) → LiesAbove r s p → n.range.last ≡ r.last → is_available n.card.status ≡ is_available s
    → can_join n p ≡ false
apart_above r s n p above ends alike = elim (cases_Bool (both_available s p)) [
  | inl both ↦
      let one : reach s p ≡ 1 = cond-true (both_available s p) 1 0 both in
      let apart : (n.range.last + 1 == p.range.first) ≡ false = ne_eqb (n.range.last + 1) p.range.first (λ e. omega (arith, above)) in
      ap (λ (b : Bool). b && is_available n.card.status && is_available p.card.status) apart
  | inr not_both ↦
      never (n.range.last + 1 == p.range.first) (is_available n.card.status) (is_available p.card.status)
      (ap (λ (b : Bool). b && is_available p.card.status) alike ∙ swapped (is_available s) (is_available p.card.status) not_both)
]
  where
    swapped : (a b : Bool) → (b && a) ≡ false → (a && b) ≡ false
    swapped true true e = e
    swapped true false e = refl
    swapped false b e = refl

-- settled pieces in front of one stay as they are
joined_front : (front : List Piece) (x : Piece) (xs : List Piece) → IsSettled (front ++ x ∷ []) → joined (front ++ x ∷ xs) ≡ front ++ joined_after x xs
joined_front [] x xs h = refl
joined_front (p ∷ front) x xs h = after p front x xs h
  where
    after : (p : Piece) (front : List Piece) (x : Piece) (xs : List Piece) → IsSettledAfter p (front ++ x ∷ [])
        → joined_after p (front ++ x ∷ xs) ≡ p ∷ (front ++ joined_after x xs)
    after p [] x xs h = cond-false (can_join p x) (joined_after (joined_pair p x) xs) (p ∷ joined_after x xs) h.0
    after p (q ∷ front) x xs h =
        cond-false (can_join p q) (joined_after (joined_pair p q) (front ++ x ∷ xs)) (p ∷ joined_after q (front ++ x ∷ xs)) h.0
        ∙ ap (λ (ys : List Piece). p ∷ ys) (after q front x xs h.1)

settled_new : (r : PlainRange) (s : Status) (front rest : List Piece) (n : Piece) → IsSettled (front ++ rest) → AllByRecursion (LiesBelow r s) front
    → n.range.first ≡ r.first → is_available n.card.status ≡ is_available s → IsSettled (front ++ n ∷ [])
settled_new r s [] rest n h below begins alike = tt
settled_new r s (p ∷ front) rest n h below begins alike = after p front h below
  where
    after : (p : Piece) (front : List Piece) → IsSettledAfter p (front ++ rest) → AllByRecursion (LiesBelow r s) (p ∷ front)
        → IsSettledAfter p (front ++ n ∷ [])
    after p [] h below = (apart_below r s p n below.0 begins alike, tt)
    after p (q ∷ front) h below = (h.0, after q front h.1 below.1)

settled_like : (front rest : List Piece) (p n : Piece) → IsSettled (front ++ p ∷ rest) → n.range.first ≡ p.range.first → n.card ≡ p.card
    → IsSettled (front ++ n ∷ [])
settled_like [] rest p n h begins alike = tt
settled_like (q ∷ front) rest p n h begins alike = after q front h
  where
    after : (q : Piece) (front : List Piece) → IsSettledAfter q (front ++ p ∷ rest) → IsSettledAfter q (front ++ n ∷ [])
    after q [] h = (
      ap (λ (k : ℕ). (q.range.last + 1 == k) && is_available q.card.status && is_available n.card.status) begins
          ∙ ap (λ (c : Card). (q.range.last + 1 == p.range.first) && is_available q.card.status && is_available c.status) alike
          ∙ h.0,
      tt,
    )
    after q (x ∷ front) h = (h.0, after x front h.1)

-- the parts behind a place are settled too
settled_behind : (front rest : List Piece) → IsSettled (front ++ rest) → IsSettled rest
settled_behind [] rest h = h
settled_behind (p ∷ front) rest h = after p front h
  where
    from : (p : Piece) (rest : List Piece) → IsSettledAfter p rest → IsSettled rest
    from p [] h = tt
    from p (q ∷ rest) h = h.1

    after : (p : Piece) (front : List Piece) → IsSettledAfter p (front ++ rest) → IsSettled rest
    after p [] h = from p rest h
    after p (q ∷ front) h = after q front h.1

settled_last : (p : Piece) (run back : List Piece) → IsSettledAfter p (run ++ back) → IsSettledAfter (last_from p run) back
settled_last p [] back h = h
settled_last p (q ∷ run) back h = settled_last q run back h.1

-- only where a piece ends and whether it is available matter to those behind it
settled_as : (n p : Piece) (ps : List Piece) → n.range.last ≡ p.range.last → is_available n.card.status ≡ is_available p.card.status
    → IsSettledAfter p ps → IsSettledAfter n ps
settled_as n p [] e f h = tt
settled_as n p (q ∷ qs) e f h = (
  ap (λ (k : ℕ). (k + 1 == q.range.first) && is_available n.card.status && is_available q.card.status) e
      ∙ ap (λ (b : Bool). (p.range.last + 1 == q.range.first) && b && is_available q.card.status) f
      ∙ h.0,
  h.1,
)

-- ---- the seam below

abbrev new_from : PlainRange → ℕ → Card → Piece
new_from r first c = record { range = record { space = r.space; first = first; last = r.last }; card = c }

joins_below : (r : PlainRange) (c : Card) (p : Piece) → both_available c.status p ≡ true → p.range.first < r.first → r.first ≤ p.range.last + 1
    → can_join (ending_at p (min p.range.last (r.first - 1))) (new_from r r.first c) ≡ true
joins_below r c p both begins ends =
    let least : min p.range.last (r.first - 1) + 1 ≡ r.first = omega arith in
    ap (λ (b : Bool). b && is_available p.card.status && is_available c.status) (eq-eqb (min p.range.last (r.first - 1) + 1) r.first least) ∙ both

low_seam : (r : PlainRange) (c : Card) (front run back rest : List Piece) → IsSettled (front ++ (run ++ back))
    → AllByRecursion (LiesBelow r c.status) front → AllByRecursion (λ p. gives_way r c.status p ≡ true) run → AllByRecursion (λ p. p.range.space ≡ r.space) run
    → joined (front ++ (kept_low r (first_of run) ++ new_from r r.first c ∷ rest))
    ≡ front ++ (option_to_list (rest_below r c.status (first_of run)) ++ joined_after (new_from r (new_first r c.status (first_of run)) (new_card r c (first_of run))) rest)
low_seam r c front [] back rest h below each spaces =
    joined_front front (new_from r r.first c) rest (settled_new r c.status front back (new_from r r.first c) h below refl refl)
low_seam r c front (p ∷ run) back rest h below each spaces = elim (cases_Bool (nat_lt p.range.first r.first)) [
  | inr t ↦ rw t (joined_front front (new_from r r.first c) rest (settled_new r c.status front (p ∷ (run ++ back)) (new_from r r.first c) h below refl refl))
  | inl t ↦
      let begins = ltb-true p.range.first r.first t in
      let b : Piece = ending_at p (min p.range.last (r.first - 1)) in
      let n : Piece = new_from r r.first c in
      let given = way_given r c.status p each.0 in
      let seam = joined_front front b (n ∷ rest) (settled_like front (run ++ back) p b h refl refl) in
      elim (cases_Bool (both_available c.status p)) [
        | inl u ↦
            let one : reach c.status p ≡ 1 = cond-true (both_available c.status p) 1 0 u in
            let joins = joins_below r c p u begins (omega (arith, given.0)) in
            rw (t, u) (seam
            ∙ ap (λ (xs : List Piece). front ++ xs) (cond-true (can_join b n) (joined_after (joined_pair b n) rest) (b ∷ joined_after n rest) joins
            ∙ ap (λ (x : Space). joined_after (record { range = record { space = x; first = p.range.first; last = r.last }; card = p.card }) rest) spaces.0))
        | inr u ↦
            let none : reach c.status p ≡ 0 = cond-false (both_available c.status p) 1 0 u in
            let least : min p.range.last (r.first - 1) ≡ r.first - 1 = omega (arith, given.0) in
            let apart : can_join b n ≡ false = never (b.range.last + 1 == r.first) (is_available p.card.status) (is_available c.status) u in
            rw (t, u) (seam
            ∙ ap (λ (xs : List Piece). front ++ xs) (cond-false (can_join b n) (joined_after (joined_pair b n) rest) (b ∷ joined_after n rest) apart
            ∙ ap (λ (k : ℕ). ending_at p k ∷ joined_after n rest) least))
      ]
]

-- ---- the seam above

abbrev new_upto : Piece → ℕ → Piece
new_upto n last = record { range = record { space = n.range.space; first = n.range.first; last = last }; card = n.card }

settled_above : (r : PlainRange) (s : Status) (n : Piece) (back : List Piece) → IsSettled back → AllByRecursion (LiesAbove r s) back
    → n.range.last ≡ r.last → is_available n.card.status ≡ is_available s → IsSettledAfter n back
settled_above r s n [] h above ends alike = tt
settled_above r s n (p ∷ back) h above ends alike = (apart_above r s n p above.0 ends alike, h)

high_end : (r : PlainRange) (s : Status) (q : Piece) (n : Piece) (back : List Piece) → IsSettledAfter q back → IsSettled back → AllByRecursion (LiesAbove r s) back
    → gives_way r s q ≡ true → n.range.last ≡ r.last → is_available n.card.status ≡ is_available s
    → joined_after n (part_above r q ++ back) ≡ new_upto n (new_last r s (Some q)) ∷ (option_to_list (rest_above r s (Some q)) ++ back)
high_end r s q n back h k above gives ends alike = elim (cases_Bool (nat_lt r.last q.range.last)) [
  | inr t ↦ rw t (joined_after_of_settled n back (settled_above r s n back k above ends alike) ∙ ap (λ (x : ℕ). new_upto n x ∷ back) ends)
  | inl t ↦
      let given = way_given r s q gives in
      let a : Piece = starting_at q (max q.range.first (r.last + 1)) in
      elim (cases_Bool (both_available s q)) [
        | inl u ↦
            let one : reach s q ≡ 1 = cond-true (both_available s q) 1 0 u in
            let avail = and_parts (is_available q.card.status) (is_available s) u in
            let most : n.range.last + 1 ≡ max q.range.first (r.last + 1) = omega (arith, given.1) in
            let joins : can_join n a ≡ true =
            ap (λ (b : Bool). b && is_available n.card.status && is_available q.card.status) (eq-eqb (n.range.last + 1) (max q.range.first (r.last + 1)) most)
            ∙ ap (λ (b : Bool). b && is_available q.card.status) (alike ∙ avail.1) ∙ avail.0 in
            rw (t, u) (cond-true (can_join n a) (joined_after (joined_pair n a) back) (n ∷ joined_after a back) joins
            ∙ joined_after_of_settled (joined_pair n a) back (settled_as (joined_pair n a) q back refl (alike ∙ avail.1 ∙ sym avail.0) h))
        | inr u ↦
            let none : reach s q ≡ 0 = cond-false (both_available s q) 1 0 u in
            let most : max q.range.first (r.last + 1) ≡ r.last + 1 = omega (arith, given.1) in
            let apart : can_join n a ≡ false =
            never (n.range.last + 1 == a.range.first) (is_available n.card.status) (is_available q.card.status)
            (ap (λ (b : Bool). b && is_available q.card.status) alike ∙ swapped (is_available s) (is_available q.card.status) u) in
            rw (t, u) (cond-false (can_join n a) (joined_after (joined_pair n a) back) (n ∷ joined_after a back) apart
            ∙ ap (λ (xs : List Piece). n ∷ xs) (joined_after_of_settled a back (settled_as a q back refl refl h))
            ∙ ap (λ (x : ℕ). n ∷ starting_at q x ∷ back) most
            ∙ ap (λ (x : ℕ). new_upto n x ∷ starting_at q (r.last + 1) ∷ back) ends)
      ]
]
  where
    swapped : (a b : Bool) → (b && a) ≡ false → (a && b) ≡ false
    swapped true true e = e
    swapped true false e = refl
    swapped false b e = refl

pub last_gives : (r : PlainRange) (s : Status) (p : Piece) (run : List Piece) → AllByRecursion (λ x. gives_way r s x ≡ true) (p ∷ run)
    → gives_way r s (last_from p run) ≡ true
last_gives r s p [] each = each.0
last_gives r s p (q ∷ run) each = last_gives r s q run each.1

high_seam : (r : PlainRange) (s : Status) (run back : List Piece) (n : Piece) → IsSettled (run ++ back)
    → AllByRecursion (λ p. gives_way r s p ≡ true) run → AllByRecursion (LiesAbove r s) back
    → n.range.last ≡ r.last → is_available n.card.status ≡ is_available s
    → joined_after n (kept_high r (last_of run) ++ back) ≡ new_upto n (new_last r s (last_of run)) ∷ (option_to_list (rest_above r s (last_of run)) ++ back)
high_seam r s [] back n h each above ends alike =
    joined_after_of_settled n back (settled_above r s n back h above ends alike) ∙ ap (λ (x : ℕ). new_upto n x ∷ back) ends
high_seam r s (p ∷ run) back n h each above ends alike =
    high_end r s (last_from p run) n back (settled_last p run back h) (settled_behind (p ∷ run) back h) above (last_gives r s p run each) ends alike

-- ---- both

new_as : (r : PlainRange) (c : Card) (o : Option Piece) → is_available (new_card r c o).status ≡ is_available c.status
new_as r c None = refl
new_as r c (Some p) = elim (cases_Bool (nat_lt p.range.first r.first)) [
  | inr t ↦ rw t refl
  | inl t ↦ elim (cases_Bool (both_available c.status p)) [
    | inr u ↦ rw (t, u) refl
    | inl u ↦ let avail = and_parts (is_available p.card.status) (is_available c.status) u in rw (t, u) (avail.0 ∙ sym avail.1)
  ]
]

-- the whole list after the painting
pub laid_between : (r : PlainRange) (c : Card) (front run back : List Piece) → r.first ≤ r.last
    → RisesFrom 0 (front ++ (run ++ back)) → IsSettled (front ++ (run ++ back))
    → AllByRecursion (LiesBelow r c.status) front → AllByRecursion (λ p. gives_way r c.status p ≡ true) run → AllByRecursion (LiesAbove r c.status) back
    → AllByRecursion (λ p. p.range.space ≡ r.space) run
    → laid (front ++ (run ++ back)) r c ≡ front ++ (new_line r c (first_of run) (last_of run) ++ back)
laid_between r c front run back ordered h k below each above spaces =
    let s : Status = c.status in
    let new : Piece = new_from r r.first c in
    let behind = rises_behind 0 front (run ++ back) h in
    let low = front_below 0 r s front (run ++ back) h below ∙ ap (λ (xs : List Piece). front ++ xs) (run_below 0 r s run back ordered behind each above) in
    let high = front_above 0 r s front (run ++ back) ordered h below ∙ run_above 0 r s run back behind each above in
    let n : Piece = new_from r (new_first r s (first_of run)) (new_card r c (first_of run)) in
    ap (λ (xs : List Piece). joined (xs ++ new ∷ flat_map (part_above r) (front ++ (run ++ back)))) low
    ∙ ap (λ (xs : List Piece). joined ((front ++ kept_low r (first_of run)) ++ new ∷ xs)) high
    ∙ ap joined (append_assoc front (kept_low r (first_of run)) (new ∷ (kept_high r (last_of run) ++ back)))
    ∙ low_seam r c front run back (kept_high r (last_of run) ++ back) k below each spaces
    ∙ ap (λ (xs : List Piece). front ++ (option_to_list (rest_below r s (first_of run)) ++ xs))
    (high_seam r s run back n (settled_behind front (run ++ back) k) each above refl (new_as r c (first_of run)))
    ∙ ap (λ (xs : List Piece). front ++ xs)
    (sym (append_assoc (option_to_list (rest_below r s (first_of run)))
    (new_upto n (new_last r s (last_of run)) ∷ option_to_list (rest_above r s (last_of run))) back))
