-- Painting exchanges the run that gives way for the new piece and its rests; no piece is in both, but one that is painted
-- with its own card.
use Rattle.std.proofs.Common.{◌≡◌, ℕ, ◌+◌, ◌-◌, ◌<◌, ◌≤◌, suc, zero, true, false, nat_lt, List, [], ◌∷◌, ◌++◌, length, get_or, take, Option, None, Some, option_to_list, Contains, ◌⊎◌, inl, inr, refl, sym, ◌∙◌, ap, subst, arith, length-append}
use Rattle.std.proofs.lemmas.Bool.{cases_Bool, cond-false, cond_both, and_parts, ltb-true, ltb-false}
use Rattle.std.proofs.lemmas.List.Elements.{recursion_from_All, filter_passes, All-contains, Contains-append_cases}
use Rattle.std.proofs.lemmas.List.{take_all}
use Rattle.std.specs.List.{AllByRecursion}
use Rattle.num_range.specs.declared.space.Space.{Space}
use Rattle.num_range.specs.Range.{PlainRange}
use Rattle.reg_entry.specs.declared.card.Card.{Card}
use Rattle.reg_entry.specs.declared.card.Status.{Status}
use Rattle.reg_entry.specs.declared.piece.Piece.{Piece}
use Rattle.reg_entry.specs.Card.{is_available}
use Rattle.reg_entry.specs.Pieces.{laid, RisesFrom, IsSettled, IsCard, IsInOnePieceOrNone, AllPiecesOf, ArePieces}
use Rattle.piece_book.specs.GivesWay.{both_available, reach, gives_way, giving_way, first_of, last_from, last_of, ending_at, starting_at, rest_below, new_first, new_card, rest_above, new_last, new_line, line_of}
use Rattle.piece_book.specs.Exchange.{IsExchange}
use Rattle.piece_book.specs.Run.{AreSeams, IsBuilt, line_from}
use Rattle.piece_book.specs.Touched.{IsTouched}
use Rattle.piece_book.proofs.GivingWay.{LiesAbove, parts, reach_small, way_given, few_give_way}
use Rattle.piece_book.proofs.Laid.{laid_between, last_gives}
use Rattle.piece_book.proofs.Exchanging.{contains_cases, spaces_of, pieces_behind, rises_behind, rises_between, exchange_of, exchange_of_none, touched_of, touches_nothing}

-- ---- elements of a list that rises

contains_option : (o : Option Piece) (x : Piece) → Contains (option_to_list o) x → o ≡ Some x
contains_option None x h = absurd (omega (arith, h.1))
contains_option (Some p) x h = single h.0 h.1 h.2
  where
    single : (k : ℕ) → k < 1 → get_or (p ∷ []) k x ≡ x → Some p ≡ Some x
    single zero l e = ap (λ (y : Piece). Some y) e
    single (suc k) l e = absurd (omega arith)

contains_above : (low : ℕ) (ps : List Piece) (x : Piece) → RisesFrom low ps → Contains ps x → low ≤ x.range.first
contains_above low [] x h k = absurd (omega (arith, k.1))
contains_above low (p ∷ ps) x h k = elim (contains_cases p ps x k) [
  | inl same ↦ let begins : p.range.first ≡ x.range.first = ap (λ (y : Piece). y.range.first) same in omega (arith, h.0)
  | inr later ↦ let above = contains_above (p.range.last + 1) ps x h.2 later in omega (arith, h.0, h.1)
]

last_rises : (low : ℕ) (p : Piece) (ps : List Piece) → RisesFrom low (p ∷ ps)
    → (low ≤ (last_from p ps).range.first) × ((last_from p ps).range.first ≤ (last_from p ps).range.last)
last_rises low p [] h = (h.0, h.1)
last_rises low p (q ∷ ps) h = let rest = last_rises (p.range.last + 1) q ps h.2 in (omega (arith, h.0, h.1, rest.0), rest.1)

first_or_above : (low : ℕ) (p : Piece) (ps : List Piece) (x : Piece) → RisesFrom low (p ∷ ps) → Contains (p ∷ ps) x → (p ≡ x) ⊎ (p.range.last < x.range.first)
first_or_above low p ps x h k = elim (contains_cases p ps x k) [
  | inl same ↦ inl same
  | inr later ↦ let above = contains_above (p.range.last + 1) ps x h.2 later in inr (omega arith)
]

last_or_below : (low : ℕ) (p : Piece) (ps : List Piece) (x : Piece) → RisesFrom low (p ∷ ps) → Contains (p ∷ ps) x
    → (last_from p ps ≡ x) ⊎ (x.range.last < (last_from p ps).range.first)
last_or_below low p [] x h k = elim (contains_cases p [] x k) [
  | inl same ↦ inl same
  | inr later ↦ absurd (omega (arith, later.1))
]
last_or_below low p (q ∷ ps) x h k = elim (contains_cases p (q ∷ ps) x k) [
  | inl same ↦
      let ends : p.range.last ≡ x.range.last = ap (λ (y : Piece). y.range.last) same in
      let last = last_rises (p.range.last + 1) q ps h.2 in
      inr (omega (arith, last.0))
  | inr later ↦ last_or_below (p.range.last + 1) q ps x h.2 later
]

alone : (low : ℕ) (p : Piece) (ps : List Piece) (x : Piece) → RisesFrom low (p ∷ ps) → p ≡ x → last_from p ps ≡ x → p ∷ ps ≡ x ∷ []
alone low p [] x h e f = ap (λ (y : Piece). y ∷ []) e
alone low p (q ∷ ps) x h e f =
    let last = last_rises (p.range.last + 1) q ps h.2 in
    let first_is : p.range.first ≡ x.range.first = ap (λ (y : Piece). y.range.first) e in
    let last_is : (last_from q ps).range.first ≡ x.range.first = ap (λ (y : Piece). y.range.first) f in
    absurd (omega (arith, last.0, h.1))

-- ---- the rests and the new piece

record IsRestBelow (r : PlainRange) (s : Status) (p x : Piece) : Type 0 where
  apart : both_available s p ≡ false
  begins : p.range.first < r.first
  is : ending_at p (r.first - 1) ≡ x

rest_below_is : (r : PlainRange) (s : Status) (p x : Piece) → rest_below r s (Some p) ≡ Some x → IsRestBelow r s p x
rest_below_is r s p x e = elim (cases_Bool (nat_lt p.range.first r.first)) [
  | inr t ↦ let wrong : None ≡ Some x = rw t at e in absurd (cc)
  | inl t ↦ elim (cases_Bool (both_available s p)) [
    | inl u ↦ let wrong : None ≡ Some x = rw (t, u) at e in absurd (cc)
    | inr u ↦
        let here : Some (ending_at p (r.first - 1)) ≡ Some x = rw (t, u) at e in
        record { apart = u; begins = ltb-true p.range.first r.first t; is = cc }
  ]
]

record IsRestAbove (r : PlainRange) (s : Status) (p x : Piece) : Type 0 where
  apart : both_available s p ≡ false
  is : starting_at p (r.last + 1) ≡ x

rest_above_is : (r : PlainRange) (s : Status) (p x : Piece) → rest_above r s (Some p) ≡ Some x → IsRestAbove r s p x
rest_above_is r s p x e = elim (cases_Bool (nat_lt r.last p.range.last)) [
  | inr t ↦ let wrong : None ≡ Some x = rw t at e in absurd (cc)
  | inl t ↦ elim (cases_Bool (both_available s p)) [
    | inl u ↦ let wrong : None ≡ Some x = rw (t, u) at e in absurd (cc)
    | inr u ↦ let here : Some (starting_at p (r.last + 1)) ≡ Some x = rw (t, u) at e in record { apart = u; is = cc }
  ]
]

-- a rest doesn't give way
rest_below_stays : (r : PlainRange) (s : Status) (p x : Piece) → rest_below r s (Some p) ≡ Some x → gives_way r s x ≡ true → ⊥
rest_below_stays r s p x e gives =
    let rest = rest_below_is r s p x e in
    let given = way_given r s x gives in
    let none : reach s x ≡ 0 = ap (λ (y : Piece). reach s y) (sym rest.is) ∙ cond-false (both_available s p) 1 0 rest.apart in
    let ends : x.range.last ≡ r.first - 1 = ap (λ (y : Piece). y.range.last) (sym rest.is) in
    omega (arith, given.0, rest.begins)

rest_above_stays : (r : PlainRange) (s : Status) (p x : Piece) → rest_above r s (Some p) ≡ Some x → gives_way r s x ≡ true → ⊥
rest_above_stays r s p x e gives =
    let rest = rest_above_is r s p x e in
    let given = way_given r s x gives in
    let none : reach s x ≡ 0 = ap (λ (y : Piece). reach s y) (sym rest.is) ∙ cond-false (both_available s p) 1 0 rest.apart in
    let begins : x.range.first ≡ r.last + 1 = ap (λ (y : Piece). y.range.first) (sym rest.is) in
    omega (arith, given.1)

-- the new piece begins no higher than the first piece that gives way ends
new_first_within : (r : PlainRange) (s : Status) (p : Piece) → p.range.first ≤ p.range.last → gives_way r s p ≡ true → new_first r s (Some p) ≤ p.range.last
new_first_within r s p ordered gives =
    let given = way_given r s p gives in
    elim (cases_Bool (nat_lt p.range.first r.first)) [
      | inr t ↦ let begins = ltb-false p.range.first r.first t in rw t (omega arith)
      | inl t ↦ elim (cases_Bool (both_available s p)) [
        | inl u ↦ rw (t, u) ordered
        | inr u ↦
            let none : reach s p ≡ 0 = cond-false (both_available s p) 1 0 u in
            let ends : r.first ≤ p.range.last = omega (arith, given.0) in
            rw (t, u) ends
      ]
    ]

new_last_within : (r : PlainRange) (s : Status) (p : Piece) → p.range.first ≤ p.range.last → gives_way r s p ≡ true → p.range.first ≤ new_last r s (Some p)
new_last_within r s p ordered gives =
    let given = way_given r s p gives in
    elim (cases_Bool (nat_lt r.last p.range.last)) [
      | inr t ↦ let ends = ltb-false r.last p.range.last t in rw t (omega arith)
      | inl t ↦ elim (cases_Bool (both_available s p)) [
        | inl u ↦ rw (t, u) ordered
        | inr u ↦
            let none : reach s p ≡ 0 = cond-false (both_available s p) 1 0 u in
            let begins : p.range.first ≤ r.last = omega (arith, given.1) in
            rw (t, u) begins
      ]
    ]

-- where the new piece begins as the first piece does that gives way, nothing is left below
no_rest_below : (r : PlainRange) (s : Status) (p : Piece) → p.range.first ≡ new_first r s (Some p) → rest_below r s (Some p) ≡ None
no_rest_below r s p e = elim (cases_Bool (nat_lt p.range.first r.first)) [
  | inr t ↦ rw t refl
  | inl t ↦ elim (cases_Bool (both_available s p)) [
    | inl u ↦ rw (t, u) refl
    | inr u ↦
        let same : p.range.first ≡ r.first = rw (t, u) at e in
        let less = ltb-true p.range.first r.first t in
        absurd (omega arith)
  ]
]

no_rest_above : (r : PlainRange) (s : Status) (p : Piece) → p.range.last ≡ new_last r s (Some p) → rest_above r s (Some p) ≡ None
no_rest_above r s p e = elim (cases_Bool (nat_lt r.last p.range.last)) [
  | inr t ↦ rw t refl
  | inl t ↦ elim (cases_Bool (both_available s p)) [
    | inl u ↦ rw (t, u) refl
    | inr u ↦
        let same : p.range.last ≡ r.last = rw (t, u) at e in
        let less = ltb-true r.last p.range.last t in
        absurd (omega arith)
  ]
]

-- a piece that goes and comes is the only one
shared : (r : PlainRange) (c : Card) (p : Piece) (ps : List Piece) (x : Piece) → RisesFrom 0 (p ∷ ps) → AllByRecursion (λ y. gives_way r c.status y ≡ true) (p ∷ ps)
    → gives_way r c.status x ≡ true → Contains (p ∷ ps) x → Contains (new_line r c (Some p) (Some (last_from p ps))) x
    → (p ∷ ps ≡ x ∷ []) × (new_line r c (Some p) (Some (last_from p ps)) ≡ x ∷ [])
shared r c p ps x h each gives goes comes =
    let s : Status = c.status in
    let q : Piece = last_from p ps in
    let n : Piece = record { range = record { space = r.space; first = new_first r s (Some p); last = new_last r s (Some q) }; card = new_card r c (Some p) } in
    elim (Contains-append_cases (option_to_list (rest_below r s (Some p))) (n ∷ option_to_list (rest_above r s (Some q))) x comes) [
      | inl low ↦ absurd (rest_below_stays r s p x (contains_option (rest_below r s (Some p)) x low) gives)
      | inr rest ↦ elim (contains_cases n (option_to_list (rest_above r s (Some q))) x rest) [
        | inr high ↦ absurd (rest_above_stays r s q x (contains_option (rest_above r s (Some q)) x high) gives)
        | inl same ↦
            let begins : new_first r s (Some p) ≡ x.range.first = ap (λ (y : Piece). y.range.first) same in
            let ends : new_last r s (Some q) ≡ x.range.last = ap (λ (y : Piece). y.range.last) same in
            let first_is : p ≡ x = elim (first_or_above 0 p ps x h goes) [
              | inl e ↦ e
              | inr above ↦ let within = new_first_within r s p h.1 each.0 in absurd (omega arith)
            ] in
            let last_is : q ≡ x = elim (last_or_below 0 p ps x h goes) [
              | inl e ↦ e
              | inr below ↦
                  let within = new_last_within r s q (last_rises 0 p ps h).1 (last_gives r s p ps each) in
                  absurd (omega arith)
            ] in
            let low = no_rest_below r s p (ap (λ (y : Piece). y.range.first) first_is ∙ sym begins) in
            let high = no_rest_above r s q (ap (λ (y : Piece). y.range.last) last_is ∙ sym ends) in (
              alone 0 p ps x h first_is last_is,
              ap (λ (o : Option Piece). option_to_list o ++ n ∷ option_to_list (rest_above r s (Some q))) low
                  ∙ ap (λ (o : Option Piece). n ∷ option_to_list o) high
                  ∙ ap (λ (y : Piece). y ∷ []) same,
            )
      ]
    ]

shared_run : (r : PlainRange) (c : Card) (run : List Piece) (x : Piece) → RisesFrom 0 run → AllByRecursion (λ y. gives_way r c.status y ≡ true) run
    → gives_way r c.status x ≡ true → Contains run x → Contains (new_line r c (first_of run) (last_of run)) x
    → (run ≡ x ∷ []) × (new_line r c (first_of run) (last_of run) ≡ x ∷ [])
shared_run r c [] x h each gives goes comes = absurd (omega (arith, goes.1))
shared_run r c (p ∷ ps) x h each gives goes comes = shared r c p ps x h each gives goes comes

-- ---- the whole painting

pub record IsPainted (r : PlainRange) (c : Card) (ps : List Piece) : Type 0 where
  pub count : length (laid ps r c) + length (giving_way r c.status ps) ≡ length ps + length (line_of r c ps)
  pub same : giving_way r c.status ps ≡ line_of r c ps → laid ps r c ≡ ps
  pub exchange : RisesFrom 0 (laid ps r c)
      → IsExchange (giving_way r c.status ps) (line_of r c ps) ps (laid ps r c)
  pub touched : RisesFrom 0 (laid ps r c)
      → ((x : Piece) → giving_way r c.status ps ≡ x ∷ [] → line_of r c ps ≡ x ∷ [] → ⊥)
      → IsTouched ps (laid ps r c) (giving_way r c.status ps) (line_of r c ps)

-- the first of what comes begins no higher than what goes
line_starts : (r : PlainRange) (c : Card) (low high : Option Piece)
    → (p : Piece) × (come : List Piece) × (new_line r c low high ≡ p ∷ come) × (p.range.first ≤ r.first) × ((q : Piece) → low ≡ Some q → p.range.first ≤ q.range.first)
line_starts r c None high = (
  record { range = record { space = r.space; first = r.first; last = new_last r c.status high }; card = c },
  option_to_list (rest_above r c.status high),
  refl,
  omega arith,
  λ q e. absurd (cc e),
)
line_starts r c (Some q) high =
    let s : Status = c.status in
    let n : Piece = record { range = record { space = r.space; first = new_first r s (Some q); last = new_last r s high }; card = new_card r c (Some q) } in
    let same : (x : Piece) → Some q ≡ Some x → q.range.first ≡ x.range.first = λ x e. let f : q ≡ x = cc e in ap (λ (y : Piece). y.range.first) f in
    elim (cases_Bool (nat_lt q.range.first r.first)) [
      | inr t ↦
          let above = ltb-false q.range.first r.first t in
          let low : rest_below r s (Some q) ≡ None = rw t refl in
          let first : new_first r s (Some q) ≡ r.first = rw t refl in (
            n,
            option_to_list (rest_above r s high),
            ap (λ (o : Option Piece). option_to_list o ++ n ∷ option_to_list (rest_above r s high)) low,
            omega arith,
            λ x e. let f = same x e in omega arith,
          )
      | inl t ↦
          let below = ltb-true q.range.first r.first t in
          elim (cases_Bool (both_available s q)) [
            | inl u ↦
                let low : rest_below r s (Some q) ≡ None = rw (t, u) refl in
                let first : new_first r s (Some q) ≡ q.range.first = rw (t, u) refl in (
                  n,
                  option_to_list (rest_above r s high),
                  ap (λ (o : Option Piece). option_to_list o ++ n ∷ option_to_list (rest_above r s high)) low,
                  omega arith,
                  λ x e. let f = same x e in omega arith,
                )
            | inr u ↦
                let low : rest_below r s (Some q) ≡ Some (ending_at q (r.first - 1)) = rw (t, u) refl in (
                  ending_at q (r.first - 1),
                  n ∷ option_to_list (rest_above r s high),
                  ap (λ (o : Option Piece). option_to_list o ++ n ∷ option_to_list (rest_above r s high)) low,
                  omega arith,
                  λ x e. let f = same x e in omega arith,
                )
          ]
    ]

line_below : (r : PlainRange) (s : Status) (run back : List Piece) (p : Piece) → r.first ≤ r.last → RisesFrom 0 (run ++ back)
    → AllByRecursion (LiesAbove r s) back → p.range.first ≤ r.first → ((q : Piece) → first_of run ≡ Some q → p.range.first ≤ q.range.first)
    → RisesFrom p.range.first (run ++ back)
line_below r s [] [] p ordered h above low first = tt
line_below r s [] (b ∷ back) p ordered h above low first = (omega (arith, above.0), h.1, h.2)
line_below r s (q ∷ run) back p ordered h above low first = (first q refl, h.1, h.2)

pub painted : (ps : List Piece) (r : PlainRange) (c : Card) → ArePieces r.space ps → r.first ≤ r.last → IsPainted r c ps
painted ps r c h ordered =
    let s : Status = c.status in
    let parted = parts 0 r s ps ordered h.rises in
    let run : List Piece = giving_way r s ps in
    let line : List Piece = new_line r c (first_of run) (last_of run) in
    let whole : ps ≡ parted.front ++ (run ++ parted.back) = parted.whole in
    let rises : RisesFrom 0 (parted.front ++ (run ++ parted.back)) = subst (λ (xs : List Piece). RisesFrom 0 xs) whole h.rises in
    let gives : AllByRecursion (λ p. gives_way r s p ≡ true) run = recursion_from_All (λ p. gives_way r s p ≡ true) run (filter_passes (gives_way r s) ps) in
    let behind = pieces_behind r.space parted.front (run ++ parted.back) (subst (λ (xs : List Piece). AllPiecesOf r.space xs) whole h.each) in
    let spaces = spaces_of r.space run parted.back behind in
    let after : laid ps r c ≡ parted.front ++ (line ++ parted.back) =
    ap (λ (xs : List Piece). laid xs r c) whole
    ∙ laid_between r c parted.front run parted.back ordered rises (subst (λ (xs : List Piece). IsSettled xs) whole h.settled) parted.below gives parted.above spaces in
    let start = line_starts r c (first_of run) (last_of run) in
    let from = line_below r s run parted.back start.0 ordered (rises_behind 0 parted.front (run ++ parted.back) rises) parted.above start.3 start.4 in
    record {
      count =
          let was = ap (λ (xs : List Piece). length xs) whole in
          let is = ap (λ (xs : List Piece). length xs) after in
          let e1 = length-append parted.front (run ++ parted.back) in
          let e2 = length-append run parted.back in
          let e3 = length-append parted.front (line ++ parted.back) in
          let e4 = length-append line parted.back in
          omega arith;
      same = λ e. after ∙ ap (λ (xs : List Piece). parted.front ++ (xs ++ parted.back)) (sym e) ∙ sym whole;
      exchange = λ k.
          subst (λ (xs : List Piece). IsExchange run xs ps (laid ps r c)) (sym start.2)
          (exchange_of ps (laid ps r c) parted.front run start.1 parted.back start.0 whole
          (after ∙ ap (λ (xs : List Piece). parted.front ++ (xs ++ parted.back)) start.2) k from);
      touched = λ k not_same.
          touched_of ps (laid ps r c) parted.front run line parted.back whole after h.rises k (λ x goes comes.
          let one = shared_run r c run x (rises_between ps parted.front run parted.back h.rises whole) gives
          (All-contains (λ p. gives_way r s p ≡ true) run x (filter_passes (gives_way r s) ps) goes) goes comes in
          not_same x one.0 one.1);
    }

each_given : (space : Space) (r : PlainRange) (s : Status) (ps : List Piece) → AllPiecesOf space ps → AllPiecesOf space (giving_way r s ps)
each_given space r s [] k = tt
each_given space r s (q ∷ ps) k =
    cond_both (gives_way r s q) (q ∷ giving_way r s ps) (giving_way r s ps) (λ (xs : List Piece). AllPiecesOf space xs)
    (λ e. (k.0, each_given space r s ps k.1)) (λ e. each_given space r s ps k.1)

-- where the new piece becomes one with the piece below, the two have one card: the plain one
pub one_card : (space : Space) (ps : List Piece) (r : PlainRange) (c : Card) → ArePieces space ps → IsCard c → new_card r c (first_of (giving_way r c.status ps)) ≡ c
one_card space ps r c h plain = go (giving_way r c.status ps) (each_given space r c.status ps h.each)
  where
    go : (run : List Piece) → AllPiecesOf space run → new_card r c (first_of run) ≡ c
    go [] k = refl
    go (p ∷ run) k = elim (cases_Bool (nat_lt p.range.first r.first)) [
      | inr t ↦ rw t refl
      | inl t ↦ elim (cases_Bool (both_available c.status p)) [
        | inr u ↦ rw (t, u) refl
        | inl u ↦
            let avail = and_parts (is_available p.card.status) (is_available c.status) u in
            rw (t, u) (k.0.plain avail.0 ∙ sym (plain avail.1))
      ]
    ]

-- ---- what is noted of the run

gives_first : (r : PlainRange) (s : Status) (run : List Piece) (p : Piece) → AllByRecursion (λ x. gives_way r s x ≡ true) run → first_of run ≡ Some p → gives_way r s p ≡ true
gives_first r s [] p each e = absurd (cc e)
gives_first r s (q ∷ run) p each e = let same : q ≡ p = cc e in subst (λ (x : Piece). gives_way r s x ≡ true) same each.0

gives_last : (r : PlainRange) (s : Status) (run : List Piece) (p : Piece) → AllByRecursion (λ x. gives_way r s x ≡ true) run → last_of run ≡ Some p → gives_way r s p ≡ true
gives_last r s [] p each e = absurd (cc e)
gives_last r s (q ∷ run) p each e = let same : last_from q run ≡ p = cc e in subst (λ (x : Piece). gives_way r s x ≡ true) same (last_gives r s q run each)

all_give : (r : PlainRange) (s : Status) (ps : List Piece) → AllByRecursion (λ x. gives_way r s x ≡ true) (giving_way r s ps)
all_give r s ps = recursion_from_All (λ p. gives_way r s p ≡ true) (giving_way r s ps) (filter_passes (gives_way r s) ps)

-- the first that gives way ends no lower than right below the range, and the last begins no higher than right above it
pub first_near : (r : PlainRange) (s : Status) (ps : List Piece) (p : Piece) → first_of (giving_way r s ps) ≡ Some p → r.first ≤ p.range.last + 1
first_near r s ps p e =
    let given = way_given r s p (gives_first r s (giving_way r s ps) p (all_give r s ps) e) in
    let small = reach_small s p in
    omega (arith, given.0)

pub last_near : (r : PlainRange) (s : Status) (ps : List Piece) (p : Piece) → last_of (giving_way r s ps) ≡ Some p → p.range.first ≤ r.last + 1
last_near r s ps p e =
    let given = way_given r s p (gives_last r s (giving_way r s ps) p (all_give r s ps) e) in
    let small = reach_small s p in
    omega (arith, given.1)

pub last_space : (space : Space) (r : PlainRange) (s : Status) (ps : List Piece) (p : Piece) → AllPiecesOf space ps → last_of (giving_way r s ps) ≡ Some p → p.range.space ≡ space
last_space space r s ps p h e = go (giving_way r s ps) (each_given space r s ps h) e
  where
    from : (q : Piece) (run : List Piece) → AllPiecesOf space (q ∷ run) → (last_from q run).range.space ≡ space
    from q [] k = k.0.of_space
    from q (x ∷ run) k = from x run k.1

    go : (run : List Piece) → AllPiecesOf space run → last_of run ≡ Some p → p.range.space ≡ space
    go [] k e = absurd (cc e)
    go (q ∷ run) k e = let same : last_from q run ≡ p = cc e in subst (λ (x : Piece). x.range.space ≡ space) same (from q run k)

-- how many pieces there are after, by the rests at the two ends
pub count_laid : (ps : List Piece) (r : PlainRange) (s : Status) (c : Card) (low high : Option Piece) (first last count : ℕ) (few : List Piece)
    → ArePieces r.space ps → r.first ≤ r.last → c.status ≡ s → AreSeams r s (giving_way r s ps) low first high last count few
    → length (laid ps r c) + count ≡ length ps + (length (option_to_list low) + 1 + length (option_to_list high))
count_laid ps r s c low high first last count few h ordered e seams =
    let is = subst (λ (x : Status). AreSeams r x (giving_way r x ps) low first high last count few) (sym e) seams in
    let all = (painted ps r c h ordered).count in
    let run : List Piece = giving_way r c.status ps in
    let line = length-append (option_to_list (rest_below r c.status (first_of run)))
    (record {
      range = record { space = r.space; first = new_first r c.status (first_of run); last = new_last r c.status (last_of run) };
      card = new_card r c (first_of run);
    } ∷ option_to_list (rest_above r c.status (last_of run))) in
    let low_count = ap (λ (o : Option Piece). length (option_to_list o)) is.low_is in
    let high_count = ap (λ (o : Option Piece). length (option_to_list o)) is.high_is in
    omega (arith, is.count_is)

-- they are two more at most
pub laid_adds_two : (ps : List Piece) (r : PlainRange) (c : Card) → ArePieces r.space ps → r.first ≤ r.last → length (laid ps r c) ≤ length ps + 2
laid_adds_two ps r c h ordered = of_run (giving_way r c.status ps) refl
  where
    rest_is_one : (o : Option Piece) → length (option_to_list o) ≤ 1
    rest_is_one None = omega arith
    rest_is_one (Some p) = omega arith

    of_run : (run : List Piece) → giving_way r c.status ps ≡ run → length (laid ps r c) ≤ length ps + 2
    of_run [] e =
        let all = count_laid ps r c.status c None None r.first r.last 0 [] h ordered refl
        (subst (λ run. AreSeams r c.status run None r.first None r.last 0 []) (sym e)
        (record { low_is = refl; first_is = refl; high_is = refl; last_is = refl; count_is = refl; few_is = refl })) in
        omega (arith, all)
    of_run (p ∷ run) e =
        let low = rest_below r c.status (Some p) in
        let high = rest_above r c.status (Some (last_from p run)) in
        let all = count_laid ps r c.status c low high (new_first r c.status (Some p)) (new_last r c.status (Some (last_from p run))) (length (p ∷ run)) (take 3 (p ∷ run)) h ordered refl
        (subst (λ all. AreSeams r c.status all low (new_first r c.status (Some p)) high (new_last r c.status (Some (last_from p run))) (length (p ∷ run)) (take 3 (p ∷ run))) (sym e)
        (record { low_is = refl; first_is = refl; high_is = refl; last_is = refl; count_is = refl; few_is = refl })) in
        let one = rest_is_one low in
        let two = rest_is_one high in
        omega (arith, all, one, two)

pub built : (ps : List Piece) (r : PlainRange) (c : Card) (low high : Option Piece) (first last count : ℕ) (few come : List Piece)
    → ArePieces r.space ps → r.first ≤ r.last → IsCard c → IsInOnePieceOrNone ps r → AreSeams r c.status (giving_way r c.status ps) low first high last count few
    → come ≡ line_from r c low first high last → IsBuilt r c ps few come
built ps r c low high first last count few come h ordered plain one seams line =
    let s : Status = c.status in
    let run : List Piece = giving_way r s ps in
    let low' : Option Piece = rest_below r s (first_of run) in
    let high' : Option Piece = rest_above r s (last_of run) in
    record {
      gone_is = seams.few_is ∙ take_all 3 run (few_give_way 0 r s ps ordered h.rises one);
      come_is = line
          ∙ ap (λ (o : Option Piece). line_from r c o first high last) seams.low_is
          ∙ ap (λ (n : ℕ). line_from r c low' n high last) seams.first_is
          ∙ ap (λ (o : Option Piece). line_from r c low' (new_first r s (first_of run)) o last) seams.high_is
          ∙ ap (λ (n : ℕ). line_from r c low' (new_first r s (first_of run)) high' n) seams.last_is
          ∙ ap (λ (d : Card). line_from r d low' (new_first r s (first_of run)) high' (new_last r s (last_of run))) (sym (one_card r.space ps r c h plain));
    }

-- the whole of what a painting says
pub record IsPaintedBy (r : PlainRange) (c : Card) (ps gone come : List Piece) : Type 0 where
  pub exchange : IsExchange gone come ps (laid ps r c)
  pub touched : IsTouched ps (laid ps r c) gone come

pub changed : (ps : List Piece) (r : PlainRange) (c : Card) (gone come : List Piece) → ArePieces r.space ps → r.first ≤ r.last
    → RisesFrom 0 (laid ps r c) → IsBuilt r c ps gone come → ((x : Piece) → gone ≡ x ∷ [] → come ≡ x ∷ [] → ⊥) → IsPaintedBy r c ps gone come
changed ps r c gone come h ordered k is apart =
    let all = painted ps r c h ordered in
    subst (λ (xs : List Piece). IsPaintedBy r c ps xs come) (sym is.gone_is)
    (subst (λ (xs : List Piece). IsPaintedBy r c ps (giving_way r c.status ps) xs) (sym is.come_is)
    (record { exchange = all.exchange k; touched = all.touched k (λ x u v. apart x (is.gone_is ∙ u) (is.come_is ∙ v)) }))

pub unchanged : (ps : List Piece) (r : PlainRange) (c : Card) (gone come : List Piece) → ArePieces r.space ps → r.first ≤ r.last
    → IsBuilt r c ps gone come → gone ≡ come → IsPaintedBy r c ps [] []
unchanged ps r c gone come h ordered is same =
    let stays = (painted ps r c h ordered).same (sym is.gone_is ∙ same ∙ is.come_is) in
    record {
      exchange = subst (λ (xs : List Piece). IsExchange [] [] ps xs) (sym stays) (exchange_of_none ps);
      touched = subst (λ (xs : List Piece). IsTouched ps xs [] []) (sym stays) (touches_nothing ps);
    }
