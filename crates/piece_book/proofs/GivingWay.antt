-- The pieces that give way stand in one run, between those that lie below the range and those that lie above it.
use Rattle.std.proofs.Common.{◌≡◌, ℕ, ◌+◌, ◌<◌, ◌≤◌, true, false, nat_le, List, [], ◌∷◌, ◌++◌, length, Option, Some, MatchOption, ◌⊎◌, inl, inr, refl, sym, ◌∙◌, ap, subst, arith}
use Rattle.std.proofs.lemmas.Bool.{cases_Bool, cases_lt, cond-true, cond-false, cond_both, and_parts, and_left, and_right, and_from, leb-true, le-leb, lt-leb}
use Rattle.std.specs.List.{AllByRecursion}
use Rattle.num_range.specs.Range.{PlainRange}
use Rattle.reg_entry.specs.declared.card.Status.{Status}
use Rattle.reg_entry.specs.declared.piece.Piece.{Piece}
use Rattle.reg_entry.specs.Pieces.{piece_meets, first_met, RisesFrom, IsInOnePieceOrNone}
use Rattle.piece_book.specs.GivesWay.{both_available, reach, gives_way, giving_way}

abbrev pub LiesBelow : PlainRange → Status → Piece → Type 0
LiesBelow r s p = p.range.last + reach s p < r.first

abbrev pub LiesAbove : PlainRange → Status → Piece → Type 0
LiesAbove r s p = r.last + reach s p < p.range.first

pub reach_small : (s : Status) (p : Piece) → reach s p ≤ 1
reach_small s p = cond_both (both_available s p) 1 0 (λ n. n ≤ 1) (λ e. omega arith) (λ e. omega arith)

pub below_stays : (r : PlainRange) (s : Status) (p : Piece) → LiesBelow r s p → gives_way r s p ≡ false
below_stays r s p h =
    and_left (nat_le r.first (p.range.last + reach s p)) (nat_le p.range.first (r.last + reach s p)) (lt-leb r.first (p.range.last + reach s p) h)

pub above_stays : (r : PlainRange) (s : Status) (p : Piece) → LiesAbove r s p → gives_way r s p ≡ false
above_stays r s p h =
    and_right (nat_le r.first (p.range.last + reach s p)) (nat_le p.range.first (r.last + reach s p)) (lt-leb p.range.first (r.last + reach s p) h)

pub way_given : (r : PlainRange) (s : Status) (p : Piece) → gives_way r s p ≡ true
    → (r.first ≤ p.range.last + reach s p) × (p.range.first ≤ r.last + reach s p)
way_given r s p e =
    let parts = and_parts (nat_le r.first (p.range.last + reach s p)) (nat_le p.range.first (r.last + reach s p)) e in
    (leb-true r.first (p.range.last + reach s p) parts.0, leb-true p.range.first (r.last + reach s p) parts.1)

-- a piece that stays lies below or above
pub stays_cases : (r : PlainRange) (s : Status) (p : Piece) → gives_way r s p ≡ false → LiesBelow r s p ⊎ LiesAbove r s p
stays_cases r s p e = elim (cases_lt (p.range.last + reach s p) r.first) [
  | inl below ↦ inl below
  | inr meets ↦ elim (cases_lt (r.last + reach s p) p.range.first) [
    | inl above ↦ inr above
    | inr reaches ↦
        let gives = and_from (nat_le r.first (p.range.last + reach s p)) (nat_le p.range.first (r.last + reach s p))
        (le-leb r.first (p.range.last + reach s p) meets) (le-leb p.range.first (r.last + reach s p) reaches) in
        absurd (cc (e, gives))
  ]
]

pub skip : (r : PlainRange) (s : Status) (p : Piece) (ps : List Piece) → gives_way r s p ≡ false → giving_way r s (p ∷ ps) ≡ giving_way r s ps
skip r s p ps e = cond-false (gives_way r s p) (p ∷ giving_way r s ps) (giving_way r s ps) e

pub keep : (r : PlainRange) (s : Status) (p : Piece) (ps : List Piece) → gives_way r s p ≡ true → giving_way r s (p ∷ ps) ≡ p ∷ giving_way r s ps
keep r s p ps e = cond-true (gives_way r s p) (p ∷ giving_way r s ps) (giving_way r s ps) e

-- ---- the three parts of a list

pub record Parts (r : PlainRange) (s : Status) (ps : List Piece) : Type 0 where
  pub front : List Piece
  pub back : List Piece
  pub whole : ps ≡ front ++ (giving_way r s ps ++ back)
  pub below : AllByRecursion (LiesBelow r s) front
  pub above : AllByRecursion (LiesAbove r s) back

-- past the number that touches the range nothing gives way
pub all_above : (low : ℕ) (r : PlainRange) (s : Status) (ps : List Piece) → RisesFrom low ps → r.last + 1 < low → AllByRecursion (LiesAbove r s) ps
all_above low r s [] h l = tt
all_above low r s (p ∷ ps) h l =
    let small = reach_small s p in
    (omega (arith, h.0), all_above (p.range.last + 1) r s ps h.2 (omega (arith, h.0, h.1)))

pub none_given : (r : PlainRange) (s : Status) (ps : List Piece) → AllByRecursion (LiesAbove r s) ps → giving_way r s ps ≡ []
none_given r s [] h = refl
none_given r s (p ∷ ps) h = skip r s p ps (above_stays r s p h.0) ∙ none_given r s ps h.1

-- behind a piece that lies above all do
pub above_behind : (low : ℕ) (r : PlainRange) (s : Status) (p : Piece) (ps : List Piece) → RisesFrom low (p ∷ ps) → LiesAbove r s p
    → AllByRecursion (LiesAbove r s) (p ∷ ps)
above_behind low r s p ps h l = (l, all_above (p.range.last + 1) r s ps h.2 (omega (arith, h.1)))

parts_from : (low : ℕ) (r : PlainRange) (s : Status) (ps : List Piece) → RisesFrom low ps → r.first ≤ low
    → (back : List Piece) × (ps ≡ giving_way r s ps ++ back) × AllByRecursion (LiesAbove r s) back
parts_from low r s [] h l = ([], refl, tt)
parts_from low r s (p ∷ ps) h l = elim (cases_Bool (gives_way r s p)) [
  | inl gives ↦
      let rest = parts_from (p.range.last + 1) r s ps h.2 (omega (arith, h.0, h.1)) in
      (rest.0, ap (λ (xs : List Piece). p ∷ xs) rest.1 ∙ ap (λ (xs : List Piece). xs ++ rest.0) (sym (keep r s p ps gives)), rest.2)
  | inr stays ↦ elim (stays_cases r s p stays) [
    | inl below ↦ absurd (omega (arith, h.0, h.1))
    | inr above ↦
        let all = above_behind low r s p ps h above in
        (p ∷ ps, ap (λ (xs : List Piece). xs ++ p ∷ ps) (sym (none_given r s (p ∷ ps) all)), all)
  ]
]

pub parts : (low : ℕ) (r : PlainRange) (s : Status) (ps : List Piece) → r.first ≤ r.last → RisesFrom low ps → Parts r s ps
parts low r s [] ordered h = record { front = []; back = []; whole = refl; below = tt; above = tt }
parts low r s (p ∷ ps) ordered h = elim (cases_Bool (gives_way r s p)) [
  | inl gives ↦
      let given = way_given r s p gives in
      let small = reach_small s p in
      let rest = parts_from (p.range.last + 1) r s ps h.2 (omega (arith, given.0)) in
      record {
        front = [];
        back = rest.0;
        whole = ap (λ (xs : List Piece). p ∷ xs) rest.1 ∙ ap (λ (xs : List Piece). xs ++ rest.0) (sym (keep r s p ps gives));
        below = tt;
        above = rest.2;
      }
  | inr stays ↦ elim (stays_cases r s p stays) [
    | inl below ↦
        let rest = parts (p.range.last + 1) r s ps ordered h.2 in
        record {
          front = p ∷ rest.front;
          back = rest.back;
          whole = ap (λ (xs : List Piece). p ∷ xs) rest.whole
              ∙ ap (λ (xs : List Piece). p ∷ (rest.front ++ (xs ++ rest.back))) (sym (skip r s p ps stays));
          below = (below, rest.below);
          above = rest.above;
        }
    | inr above ↦
        let all = above_behind low r s p ps h above in
        record {
          front = [];
          back = p ∷ ps;
          whole = ap (λ (xs : List Piece). xs ++ p ∷ ps) (sym (none_given r s (p ∷ ps) all));
          below = tt;
          above = all;
        }
  ]
]

-- ---- how many they are

-- a piece that holds the range gives way, and behind it one at most
one_behind : (low : ℕ) (r : PlainRange) (s : Status) (ps : List Piece) → RisesFrom low ps → r.last < low → length (giving_way r s ps) ≤ 1
one_behind low r s [] h l = omega arith
one_behind low r s (p ∷ ps) h l =
    let none : length (giving_way r s ps) ≡ 0 =
    ap (λ (xs : List Piece). length xs) (none_given r s ps (all_above (p.range.last + 1) r s ps h.2 (omega (arith, h.0, h.1)))) in
    cond_both (gives_way r s p) (p ∷ giving_way r s ps) (giving_way r s ps) (λ (xs : List Piece). length xs ≤ 1)
    (λ e. omega arith) (λ e. omega arith)

-- the range lies inside the first piece that it meets
abbrev LiesInside : PlainRange → Option Piece → Type 0
LiesInside r o = MatchOption o (Unit {0}) (λ p. (p.range.first ≤ r.first) × (r.last ≤ p.range.last))

met_first : (r : PlainRange) (p : Piece) (ps : List Piece) → p.range.first ≤ r.last → r.first ≤ p.range.last → IsInOnePieceOrNone (p ∷ ps) r → r.last ≤ p.range.last
met_first r p ps begins ends one =
    let gives = and_from (nat_le p.range.first r.last) (nat_le r.first p.range.last) (le-leb p.range.first r.last begins) (le-leb r.first p.range.last ends) in
    let here : first_met (p ∷ ps) r ≡ Some p = cond-true (piece_meets r p) (Some p) (first_met ps r) gives in
    (subst (LiesInside r) here one).1

met_later : (r : PlainRange) (p : Piece) (ps : List Piece) → piece_meets r p ≡ false → IsInOnePieceOrNone (p ∷ ps) r → IsInOnePieceOrNone ps r
met_later r p ps stays one = subst (LiesInside r) (cond-false (piece_meets r p) (Some p) (first_met ps r) stays) one

two_from : (low : ℕ) (r : PlainRange) (s : Status) (ps : List Piece) → r.first ≤ r.last → RisesFrom low ps → r.first ≤ low → IsInOnePieceOrNone ps r
    → length (giving_way r s ps) ≤ 2
two_from low r s [] ordered h l one = omega arith
two_from low r s (p ∷ ps) ordered h l one = elim (cases_lt r.last p.range.first) [
  | inl past ↦
      let few = one_behind p.range.first r s (p ∷ ps) (omega arith, h.1, h.2) past in
      omega arith
  | inr begins ↦
      let inside = met_first r p ps begins (omega (arith, h.0, h.1)) one in
      let few = one_behind (p.range.last + 1) r s ps h.2 (omega arith) in
      cond_both (gives_way r s p) (p ∷ giving_way r s ps) (giving_way r s ps) (λ (xs : List Piece). length xs ≤ 2)
      (λ e. omega arith) (λ e. omega arith)
]

pub few_give_way : (low : ℕ) (r : PlainRange) (s : Status) (ps : List Piece) → r.first ≤ r.last → RisesFrom low ps → IsInOnePieceOrNone ps r
    → length (giving_way r s ps) ≤ 3
few_give_way low r s [] ordered h one = omega arith
few_give_way low r s (p ∷ ps) ordered h one = elim (cases_lt p.range.last r.first) [
  | inl below ↦
      let stays = and_right (nat_le p.range.first r.last) (nat_le r.first p.range.last) (lt-leb r.first p.range.last below) in
      let later = met_later r p ps stays one in
      elim (cases_lt (p.range.last + 1) r.first) [
        | inl apart ↦
            let small = reach_small s p in
            let e : length (giving_way r s (p ∷ ps)) ≡ length (giving_way r s ps) = ap (λ (xs : List Piece). length xs) (skip r s p ps (below_stays r s p (omega arith))) in
            let few = few_give_way (p.range.last + 1) r s ps ordered h.2 later in
            omega arith
        | inr touches ↦
            let few = two_from (p.range.last + 1) r s ps ordered h.2 touches later in
            cond_both (gives_way r s p) (p ∷ giving_way r s ps) (giving_way r s ps) (λ (xs : List Piece). length xs ≤ 3)
            (λ e. omega arith) (λ e. omega arith)
      ]
  | inr ends ↦ elim (cases_lt r.last p.range.first) [
    | inl past ↦ let few = one_behind p.range.first r s (p ∷ ps) (omega arith, h.1, h.2) past in omega arith
    | inr begins ↦
        let inside = met_first r p ps begins ends one in
        let few = one_behind (p.range.last + 1) r s ps h.2 (omega arith) in
        cond_both (gives_way r s p) (p ∷ giving_way r s ps) (giving_way r s ps) (λ (xs : List Piece). length xs ≤ 3)
        (λ e. omega arith) (λ e. omega arith)
  ]
]
