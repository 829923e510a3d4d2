-- Which piece is found: the one that begins last up to a value, or the one behind it.
use Rattle.std.proofs.Common.{◌≡◌, ℕ, ◌+◌, ◌-◌, ◌<◌, ◌≤◌, suc, Bool, true, false, ◌&&◌, cond, nat_lt, nat_le, List, [], ◌∷◌, drop, Option, None, Some, find, ◌⊎◌, inl, inr, refl, sym, ◌∙◌, ap, arith}
use Rattle.std.proofs.lemmas.Bool.{cases_Bool, cases_lt, cond-true, cond-false, and_from, and_left, and_right, ltb-true, ltb-false, leb-true, leb-false, le-leb, lt-leb, lt-ltb, le-ltb}
use Rattle.std.specs.List.{slice_get}
use Rattle.std.specs.Option.{option_or}
use Rattle.num_range.specs.Range.{PlainRange}
use Rattle.reg_entry.specs.declared.card.Status.{Status}
use Rattle.reg_entry.specs.declared.piece.Piece.{Piece}
use Rattle.reg_entry.specs.Pieces.{piece_holds, piece_at, RisesFrom}
use Rattle.reg_entry.proofs.Holding.{holds_true, holds_from, not_held_above, not_held_below, piece_at-first, piece_at-rest, piece_at-below}
use Rattle.piece_book.specs.Exchange.{begun_below}
use Rattle.piece_book.specs.GivesWay.{both_available, reach, giving_way}
use Rattle.piece_book.specs.SpaceBook.{last_begun}
use Rattle.reg_entry.specs.Card.{is_available}
use Rattle.piece_book.proofs.GivingWay.{reach_small, below_stays, above_stays, skip, keep}

-- ---- the piece that begins last

record IsFirstOf (o : Option Piece) (b : Bool) (q p : Piece) : Type 0 where
  none : o ≡ None
  begins : b ≡ true
  same : q ≡ p

last_cases : (o : Option Piece) (b : Bool) (q p : Piece) → option_or o (cond b (Some q) None) ≡ Some p → (o ≡ Some p) ⊎ IsFirstOf o b q p
last_cases (Some y) b q p e = inl e
last_cases None true q p e = inr (record { none = refl; begins = refl; same = cc e })
last_cases None false q p e = absurd (cc e)

none_cases : (o : Option Piece) (b : Bool) (q : Piece) → option_or o (cond b (Some q) None) ≡ None → (o ≡ None) × (b ≡ false)
none_cases (Some y) b q e = absurd (cc e)
none_cases None true q e = absurd (cc e)
none_cases None false q e = (refl, refl)

pub begins_within : (low x : ℕ) (ps : List Piece) (p : Piece) → RisesFrom low ps → last_begun x ps ≡ Some p → (low ≤ p.range.first) × (p.range.first ≤ x)
begins_within low x [] p h e = absurd (cc e)
begins_within low x (q ∷ ps) p h e = elim (last_cases (last_begun x ps) (nat_le q.range.first x) q p e) [
  | inl later ↦ let rest = begins_within (q.range.last + 1) x ps p h.2 later in (omega (arith, h.0, h.1, rest.0), rest.1)
  | inr here ↦
      let first : q.range.first ≡ p.range.first = ap (λ (y : Piece). y.range.first) here.same in
      let begins = leb-true q.range.first x here.begins in
      (omega (arith, h.0), omega arith)
]

-- ---- the piece that holds a value

pub none_held : (x : ℕ) (ps : List Piece) → last_begun x ps ≡ None → piece_at ps x ≡ None
none_held x [] e = refl
none_held x (q ∷ ps) e =
    let none = none_cases (last_begun x ps) (nat_le q.range.first x) q e in
    piece_at-rest q ps x (not_held_below q x (leb-false q.range.first x none.1)) ∙ none_held x ps none.0

pub last_held : (low x : ℕ) (ps : List Piece) (p : Piece) → RisesFrom low ps → last_begun x ps ≡ Some p → x ≤ p.range.last → piece_at ps x ≡ Some p
last_held low x [] p h e l = absurd (cc e)
last_held low x (q ∷ ps) p h e l = elim (last_cases (last_begun x ps) (nat_le q.range.first x) q p e) [
  | inl later ↦
      let begins = begins_within (q.range.last + 1) x ps p h.2 later in
      piece_at-rest q ps x (not_held_above q x (omega (arith, begins.0, begins.1))) ∙ last_held (q.range.last + 1) x ps p h.2 later l
  | inr here ↦
      let ends : q.range.last ≡ p.range.last = ap (λ (y : Piece). y.range.last) here.same in
      piece_at-first q ps x (holds_from q x (leb-true q.range.first x here.begins) (omega arith)) ∙ ap (λ (y : Piece). Some y) here.same
]

pub last_past : (low x : ℕ) (ps : List Piece) (p : Piece) → RisesFrom low ps → last_begun x ps ≡ Some p → p.range.last < x → piece_at ps x ≡ None
last_past low x [] p h e l = absurd (cc e)
last_past low x (q ∷ ps) p h e l = elim (last_cases (last_begun x ps) (nat_le q.range.first x) q p e) [
  | inl later ↦
      let begins = begins_within (q.range.last + 1) x ps p h.2 later in
      piece_at-rest q ps x (not_held_above q x (omega (arith, begins.0, begins.1))) ∙ last_past (q.range.last + 1) x ps p h.2 later l
  | inr here ↦
      let ends : q.range.last ≡ p.range.last = ap (λ (y : Piece). y.range.last) here.same in
      piece_at-rest q ps x (not_held_above q x (omega arith)) ∙ none_held x ps here.none
]

pub held_begins : (x : ℕ) (ps : List Piece) (p : Piece) → piece_at ps x ≡ Some p → p.range.first ≤ x
held_begins x [] p e = absurd (cc e)
held_begins x (q ∷ ps) p e = elim (cases_Bool (piece_holds q x)) [
  | inl t ↦
      let here : Some q ≡ Some p = sym (piece_at-first q ps x t) ∙ e in
      let same : q ≡ p = cc here in
      let first : q.range.first ≡ p.range.first = ap (λ (y : Piece). y.range.first) same in
      omega (arith, (holds_true q x t).0)
  | inr t ↦ held_begins x ps p (sym (piece_at-rest q ps x t) ∙ e)
]

-- ---- the first piece that has one of the numbers from the first to the last

abbrev meets : ℕ → ℕ → Piece → Bool
meets first last p = nat_le p.range.first last && nat_le first p.range.last

passed : (first last : ℕ) (q : Piece) (ps : List Piece) → q.range.last < first → find (meets first last) (q ∷ ps) ≡ find (meets first last) ps
passed first last q ps l =
    cond-false (meets first last q) (Some q) (find (meets first last) ps)
    (and_right (nat_le q.range.first last) (nat_le first q.range.last) (lt-leb first q.range.last l))

met : (first last : ℕ) (q : Piece) (ps : List Piece) → q.range.first ≤ last → first ≤ q.range.last → find (meets first last) (q ∷ ps) ≡ Some q
met first last q ps l m =
    cond-true (meets first last q) (Some q) (find (meets first last) ps)
    (and_from (nat_le q.range.first last) (nat_le first q.range.last) (le-leb q.range.first last l) (le-leb first q.range.last m))

pub held_met : (low first last : ℕ) (ps : List Piece) (p : Piece) → RisesFrom low ps → first ≤ last → piece_at ps first ≡ Some p
    → find (meets first last) ps ≡ Some p
held_met low first last [] p h l e = absurd (cc e)
held_met low first last (q ∷ ps) p h l e = elim (cases_Bool (piece_holds q first)) [
  | inl t ↦
      let inside = holds_true q first t in
      met first last q ps (omega arith) inside.1 ∙ sym (piece_at-first q ps first t) ∙ e
  | inr t ↦ elim (cases_lt q.range.last first) [
    | inl past ↦ passed first last q ps past ∙ held_met (q.range.last + 1) first last ps p h.2 l (sym (piece_at-rest q ps first t) ∙ e)
    | inr over ↦ elim (cases_lt first q.range.first) [
      | inl above ↦
          let none : None ≡ Some p = sym (piece_at-below q.range.first (q ∷ ps) first (omega arith, h.1, h.2) above) ∙ e in
          absurd (cc none)
      | inr begins ↦ absurd (cc (holds_from q first begins over, t))
    ]
  ]
]

none_met : (low first last : ℕ) (ps : List Piece) → RisesFrom low ps → last < low → find (meets first last) ps ≡ None
none_met low first last [] h l = refl
none_met low first last (q ∷ ps) h l =
    cond-false (meets first last q) (Some q) (find (meets first last) ps)
    (and_left (nat_le q.range.first last) (nat_le first q.range.last) (lt-leb q.range.first last (omega (arith, h.0))))
    ∙ none_met (q.range.last + 1) first last ps h.2 (omega (arith, h.0, h.1))

-- where no piece holds the first number, the next one that begins is met, or none is
abbrev pub if_begun : ℕ → Option Piece → Option Piece
if_begun last None = None
if_begun last (Some p) = cond (nat_le p.range.first last) (Some p) None

pub next_met : (low first last : ℕ) (ps : List Piece) → RisesFrom low ps → piece_at ps first ≡ None
    → find (meets first last) ps ≡ if_begun last (slice_get ps (begun_below first ps))
next_met low first last [] h e = refl
next_met low first last (q ∷ ps) h e = elim (cases_Bool (nat_lt q.range.first first)) [
  | inl t ↦
      let below = ltb-true q.range.first first t in
      let count : begun_below first (q ∷ ps) ≡ suc (begun_below first ps) =
      cond-true (nat_lt q.range.first first) (1 + begun_below first ps) 0 t ∙ omega arith in
      let past : q.range.last < first = elim (cases_lt q.range.last first) [
        | inl l ↦ l
        | inr over ↦
            let found : Some q ≡ None = sym (piece_at-first q ps first (holds_from q first (omega arith) over)) ∙ e in
            absurd (cc found)
      ] in
      let rest : piece_at ps first ≡ None = sym (piece_at-rest q ps first (not_held_above q first past)) ∙ e in
      passed first last q ps past
      ∙ next_met (q.range.last + 1) first last ps h.2 rest
      ∙ ap (λ (n : ℕ). if_begun last (slice_get (q ∷ ps) n)) (sym count)
  | inr t ↦
      let above = ltb-false q.range.first first t in
      let count : begun_below first (q ∷ ps) ≡ 0 = cond-false (nat_lt q.range.first first) (1 + begun_below first ps) 0 t in
      let here : find (meets first last) (q ∷ ps) ≡ cond (nat_le q.range.first last) (Some q) None = elim (cases_Bool (nat_le q.range.first last)) [
        | inl u ↦ met first last q ps (leb-true q.range.first last u) (omega (arith, h.1)) ∙ sym (cond-true (nat_le q.range.first last) (Some q) None u)
        | inr u ↦
            none_met q.range.first first last (q ∷ ps) (omega arith, h.1, h.2) (leb-false q.range.first last u)
            ∙ sym (cond-false (nat_le q.range.first last) (Some q) None u)
      ] in
      here ∙ ap (λ (n : ℕ). if_begun last (slice_get (q ∷ ps) n)) (sym count)
]

-- ---- where pieces begin to give way

pub none_begun : (low : ℕ) (x : ℕ) (ps : List Piece) → RisesFrom low ps → x ≤ low → begun_below x ps ≡ 0
none_begun low x [] h l = refl
none_begun low x (p ∷ ps) h l = cond-false (nat_lt p.range.first x) (1 + begun_below x ps) 0 (le-ltb p.range.first x (omega (arith, h.0)))

-- no piece begins below a value where none begins up to the value before it
pub none_begun_before : (x : ℕ) (ps : List Piece) → last_begun (x - 1) ps ≡ None → begun_below x ps ≡ 0
none_begun_before x [] e = refl
none_begun_before x (q ∷ ps) e =
    let none = none_cases (last_begun (x - 1) ps) (nat_le q.range.first (x - 1)) q e in
    let above = leb-false q.range.first (x - 1) none.1 in
    cond-false (nat_lt q.range.first x) (1 + begun_below x ps) 0 (le-ltb q.range.first x (omega arith))

-- the pieces before the last that begins below the range stay
pub stay_before : (low x : ℕ) (r : PlainRange) (s : Status) (ps : List Piece) (p : Piece) → RisesFrom low ps → last_begun x ps ≡ Some p → x < r.first
    → giving_way r s (drop (begun_below p.range.first ps) ps) ≡ giving_way r s ps
stay_before low x r s [] p h e l = refl
stay_before low x r s (q ∷ ps) p h e l = elim (last_cases (last_begun x ps) (nat_le q.range.first x) q p e) [
  | inl later ↦
      let begins = begins_within (q.range.last + 1) x ps p h.2 later in
      let small = reach_small s q in
      let t : nat_lt q.range.first p.range.first ≡ true = lt-ltb q.range.first p.range.first (omega (arith, h.1, begins.0)) in
      let count : begun_below p.range.first (q ∷ ps) ≡ suc (begun_below p.range.first ps) =
      cond-true (nat_lt q.range.first p.range.first) (1 + begun_below p.range.first ps) 0 t ∙ omega arith in
      ap (λ (n : ℕ). giving_way r s (drop n (q ∷ ps))) count
      ∙ stay_before (q.range.last + 1) x r s ps p h.2 later l
      ∙ sym (skip r s q ps (below_stays r s q (omega (arith, begins.0, begins.1))))
  | inr here ↦
      let first : q.range.first ≡ p.range.first = ap (λ (y : Piece). y.range.first) here.same in
      let count : begun_below p.range.first (q ∷ ps) ≡ 0 =
      cond-false (nat_lt q.range.first p.range.first) (1 + begun_below p.range.first ps) 0 (le-ltb q.range.first p.range.first (omega arith)) in
      ap (λ (n : ℕ). giving_way r s (drop n (q ∷ ps))) count
]

-- ---- the piece that alone gives way

reach_none : (s : Status) (p : Piece) → is_available s ≡ false → reach s p ≡ 0
reach_none s p e = cond-false (both_available s p) 1 0 (and_right (is_available p.card.status) (is_available s) e)

none_above : (low : ℕ) (r : PlainRange) (s : Status) (ps : List Piece) → is_available s ≡ false → RisesFrom low ps → r.last < low → giving_way r s ps ≡ []
none_above low r s [] e h l = refl
none_above low r s (p ∷ ps) e h l =
    let none = reach_none s p e in
    skip r s p ps (above_stays r s p (omega (arith, none, h.0))) ∙ none_above (p.range.last + 1) r s ps e h.2 (omega (arith, h.0, h.1))

pub one_around : (low : ℕ) (r : PlainRange) (s : Status) (ps : List Piece) (p : Piece) → r.first ≤ r.last → RisesFrom low ps → is_available s ≡ false
    → piece_at ps r.first ≡ Some p → r.last ≤ p.range.last → giving_way r s ps ≡ p ∷ []
one_around low r s [] p o h n e l = absurd (cc e)
one_around low r s (q ∷ ps) p o h n e l = elim (cases_Bool (piece_holds q r.first)) [
  | inl t ↦
      let inside = holds_true q r.first t in
      let here : Some q ≡ Some p = sym (piece_at-first q ps r.first t) ∙ e in
      let same : q ≡ p = cc here in
      let last : q.range.last ≡ p.range.last = ap (λ (y : Piece). y.range.last) same in
      let gives = and_from (nat_le r.first (q.range.last + reach s q)) (nat_le q.range.first (r.last + reach s q))
      (le-leb r.first (q.range.last + reach s q) (omega (arith, inside.1))) (le-leb q.range.first (r.last + reach s q) (omega (arith, inside.0, o))) in
      keep r s q ps gives ∙ ap (λ (xs : List Piece). q ∷ xs) (none_above (q.range.last + 1) r s ps n h.2 (omega (arith, last, l)))
      ∙ ap (λ (x : Piece). x ∷ []) same
  | inr t ↦ elim (cases_lt q.range.last r.first) [
    | inl past ↦
        let none = reach_none s q n in
        skip r s q ps (below_stays r s q (omega (arith, none, past)))
        ∙ one_around (q.range.last + 1) r s ps p o h.2 n (sym (piece_at-rest q ps r.first t) ∙ e) l
    | inr over ↦ elim (cases_lt r.first q.range.first) [
      | inl above ↦
          let none : None ≡ Some p = sym (piece_at-below q.range.first (q ∷ ps) r.first (omega arith, h.1, h.2) above) ∙ e in
          absurd (cc none)
      | inr begins ↦ absurd (cc (holds_from q r.first begins over, t))
    ]
  ]
]
