-- Splitting and joining keep what the pieces of a space are, each number's card, and how many numbers there are.
use Rattle.std.proofs.Common.{◌≡◌, ℕ, ◌+◌, ◌-◌, ◌<◌, ◌≤◌, Bool, true, false, cond, ◌&&◌, ◌==◌, nat_le, nat_lt, ◌⊎◌, inl, inr, List, [], ◌∷◌, ◌++◌, Option, None, Some, refl, sym, ◌∙◌, ap, subst, arith}
use Rattle.std.proofs.lemmas.Bool.{cond-true, cond-false, cases_Bool, cases_lt, both_ways, and_parts, and_left, and_right, le-leb, leb-true, le-ltb, ltb-true, eqb-true, eqb-false, eq-eqb, false_from_ne_true}
use Rattle.std.proofs.lemmas.Option.{none-some, same_Some}
use Rattle.num_range.specs.declared.space.Space.{Space}
use Rattle.num_range.specs.Space.{top_of}
use Rattle.num_range.specs.Range.{size_of}
use Rattle.reg_entry.specs.declared.piece.Piece.{Piece}
use Rattle.reg_entry.specs.Card.{is_available}
use Rattle.reg_entry.specs.Pieces.{piece_holds, piece_at, card_at, size_sum, can_join, joined_pair, RisesFrom, IsSettledAfter, IsSettled, AllPiecesOf, ArePieces}
use Rattle.reg_entry.specs.Reshaping.{holds_past_first, split_at_number, joined_at_after, joined_at}
use Rattle.reg_entry.specs.Reshaping.{IsFixedAt, CanJoinAt}
use Rattle.reg_entry.proofs.Holding.{piece_at-below, holds_true, holds_from, not_held_above, below_false, above_false}
use Rattle.reg_entry.proofs.Joining.{joined_pair_is_piece}
use Rattle.reg_entry.proofs.Lookups.{card_at-cons, card_at-alike}

-- ---- splitting

abbrev pub left_part : Piece → ℕ → Piece
left_part p at = record { range = record { space = p.range.space; first = p.range.first; last = at - 1 }; card = p.card }

abbrev pub right_part : Piece → ℕ → Piece
right_part p at = record { range = record { space = p.range.space; first = at; last = p.range.last }; card = p.card }

-- pieces above the number stay as they are
split_above : (low at : ℕ) (ps : List Piece) → RisesFrom low ps → at < low → split_at_number ps at ≡ ps
split_above low at [] rises h = refl
split_above low at (p ∷ ps) rises h =
    ap (λ xs. xs ++ split_at_number ps at)
    (cond-false (holds_past_first p at) (left_part p at ∷ right_part p at ∷ []) (p ∷ [])
    (and_left (nat_lt p.range.first at) (nat_le at p.range.last) (not_above p.range.first at (omega arith))))
    ∙ ap (λ xs. p ∷ xs) (split_above (p.range.last + 1) at ps rises.2 (omega arith))
  where
    not_above : (a b : ℕ) → b ≤ a → nat_lt a b ≡ false
    not_above a b h = le-ltb a b h

-- what the list is after its first piece was split, or was not
split_first : (p : Piece) (ps : List Piece) (at : ℕ) → RisesFrom (p.range.last + 1) ps → holds_past_first p at ≡ true
    → split_at_number (p ∷ ps) at ≡ left_part p at ∷ right_part p at ∷ ps
split_first p ps at rises t =
    let inside = and_parts (nat_lt p.range.first at) (nat_le at p.range.last) t in
    let last : at ≤ p.range.last = leb-true at p.range.last inside.1 in
    ap (λ xs. xs ++ split_at_number ps at) (cond-true (holds_past_first p at) (left_part p at ∷ right_part p at ∷ []) (p ∷ []) t)
    ∙ ap (λ xs. left_part p at ∷ right_part p at ∷ xs) (split_above (p.range.last + 1) at ps rises (omega arith))

split_rest : (p : Piece) (ps : List Piece) (at : ℕ) → holds_past_first p at ≡ false → split_at_number (p ∷ ps) at ≡ p ∷ split_at_number ps at
split_rest p ps at f = ap (λ xs. xs ++ split_at_number ps at) (cond-false (holds_past_first p at) (left_part p at ∷ right_part p at ∷ []) (p ∷ []) f)

pub past_first : (p : Piece) (at : ℕ) → holds_past_first p at ≡ true → (p.range.first < at) × (at ≤ p.range.last)
past_first p at t =
    let inside = and_parts (nat_lt p.range.first at) (nat_le at p.range.last) t in
    (ltb-true p.range.first at inside.0, leb-true at p.range.last inside.1)

pub split_rises : (low : ℕ) (ps : List Piece) (at : ℕ) → RisesFrom low ps → RisesFrom low (split_at_number ps at)
split_rises low [] at rises = tt
split_rises low (p ∷ ps) at rises =
    elim (cases_Bool (holds_past_first p at)) [
      | inl t ↦
          let inside = past_first p at t in
          subst (RisesFrom low) (sym (split_first p ps at rises.2 t))
          (rises.0, omega arith, (omega arith, omega arith, rises.2))
      | inr f ↦ subst (RisesFrom low) (sym (split_rest p ps at f)) (rises.0, rises.1, split_rises (p.range.last + 1) ps at rises.2)
    ]

pub size_sum-split : (low : ℕ) (ps : List Piece) (at : ℕ) → RisesFrom low ps → size_sum (split_at_number ps at) ≡ size_sum ps
size_sum-split low [] at rises = refl
size_sum-split low (p ∷ ps) at rises =
    elim (cases_Bool (holds_past_first p at)) [
      | inl t ↦
          let inside = past_first p at t in
          ap size_sum (split_first p ps at rises.2 t)
          ∙ (let halves : size_of (left_part p at).range + (size_of (right_part p at).range + size_sum ps) ≡ size_of p.range + size_sum ps = omega arith in halves)
      | inr f ↦ ap size_sum (split_rest p ps at f) ∙ ap (λ n. size_of p.range + n) (size_sum-split (p.range.last + 1) ps at rises.2)
    ]

-- a number lies in the one part or in the other just where it lies in the whole
two_parts : {A : Type 0} (first at last x : ℕ) (u o : A) → first < at → at ≤ last
    → cond (nat_le first x && nat_le x (at - 1)) u (cond (nat_le at x && nat_le x last) u o) ≡ cond (nat_le first x && nat_le x last) u o
two_parts first at last x u o h k =
    elim (cases_lt x at) [
      | inl below ↦
          ap (λ b. cond (nat_le first x && b) u (cond (nat_le at x && nat_le x last) u o)) (le-leb x (at - 1) (omega arith) ∙ sym (le-leb x last (omega arith)))
          ∙ ap (λ v. cond (nat_le first x && nat_le x last) u v) (cond-false (nat_le at x && nat_le x last) u o (below_false at x last below))
      | inr ge ↦
          cond-false (nat_le first x && nat_le x (at - 1)) u (cond (nat_le at x && nat_le x last) u o) (above_false first x (at - 1) (omega arith))
          ∙ ap (λ b. cond (b && nat_le x last) u o) (le-leb at x ge ∙ sym (le-leb first x (omega arith)))
    ]

pub card_at-split : (low : ℕ) (ps : List Piece) (at x : ℕ) → RisesFrom low ps → card_at (split_at_number ps at) x ≡ card_at ps x
card_at-split low [] at x rises = refl
card_at-split low (p ∷ ps) at x rises =
    elim (cases_Bool (holds_past_first p at)) [
      | inl t ↦
          let inside = past_first p at t in
          ap (λ xs. card_at xs x) (split_first p ps at rises.2 t)
          ∙ card_at-cons (left_part p at) (right_part p at ∷ ps) x
          ∙ ap (λ o. cond (piece_holds (left_part p at) x) (Some p.card) o) (card_at-cons (right_part p at) ps x)
          ∙ two_parts p.range.first at p.range.last x (Some p.card) (card_at ps x) inside.0 inside.1
          ∙ sym (card_at-cons p ps x)
      | inr f ↦
          ap (λ xs. card_at xs x) (split_rest p ps at f)
          ∙ card_at-alike p p (split_at_number ps at) ps x refl refl (card_at-split (p.range.last + 1) ps at x rises.2)
    ]

cannot_join_left : (p q : Piece) → is_available p.card.status ≡ false → can_join p q ≡ false
cannot_join_left p q f =
    and_left ((p.range.last + 1 == q.range.first) && is_available p.card.status) (is_available q.card.status)
    (and_right (p.range.last + 1 == q.range.first) (is_available p.card.status) f)

fixed_rest : (p : Piece) (ps : List Piece) (at : ℕ) → piece_holds p at ≡ false → IsFixedAt (p ∷ ps) at → IsFixedAt ps at
fixed_rest p ps at f fixed q e = fixed q (cond-false (piece_holds p at) (Some p) (piece_at ps at) f ∙ e)

held_if_past : (p : Piece) (at : ℕ) → holds_past_first p at ≡ true → piece_holds p at ≡ true
held_if_past p at t = let inside = past_first p at t in holds_from p at (omega arith) inside.1

fixed_first : (p : Piece) (ps : List Piece) (at : ℕ) → piece_holds p at ≡ true → IsFixedAt (p ∷ ps) at → is_available p.card.status ≡ false
fixed_first p ps at t fixed = fixed p (cond-true (piece_holds p at) (Some p) (piece_at ps at) t)

-- a piece before the list can be joined with none after the split, where it could with none before
settled_before_split : (p : Piece) (low : ℕ) (ps : List Piece) (at : ℕ) → RisesFrom low ps → IsSettledAfter p ps → IsFixedAt ps at
    → IsSettledAfter p (split_at_number ps at)
settled_before_split p low [] at rises settled fixed = tt
settled_before_split p low (q ∷ qs) at rises settled fixed =
    elim (cases_Bool (holds_past_first q at)) [
      | inl t ↦
          let no : is_available q.card.status ≡ false = fixed_first q qs at (held_if_past q at t) fixed in
          subst (IsSettledAfter p) (sym (split_first q qs at rises.2 t))
          (settled.0, (cannot_join_left (left_part q at) (right_part q at) no, settled_alike (right_part q at) q qs refl refl settled.1))
      | inr f ↦
          subst (IsSettledAfter p) (sym (split_rest q qs at f)) (
            settled.0,
            elim (cases_Bool (piece_holds q at)) [
              | inl h ↦
                  let inside = holds_true q at h in
                  subst (IsSettledAfter q) (sym (split_above (q.range.last + 1) at qs rises.2 (omega arith))) settled.1
              | inr g ↦ settled_before_split q (q.range.last + 1) qs at rises.2 settled.1 (fixed_rest q qs at g fixed)
            ],
          )
    ]
  where
    settled_alike : (p q : Piece) (qs : List Piece) → p.range.last ≡ q.range.last → p.card ≡ q.card → IsSettledAfter q qs → IsSettledAfter p qs
    settled_alike p q [] e c h = tt
    settled_alike p q (s ∷ qs) e c h = (
      ap (λ n. (n + 1 == s.range.first) && is_available p.card.status && is_available s.card.status) e
          ∙ ap (λ d. (q.range.last + 1 == s.range.first) && is_available d.status && is_available s.card.status) c ∙ h.0,
      h.1,
    )

pub split_settled : (low : ℕ) (ps : List Piece) (at : ℕ) → RisesFrom low ps → IsSettled ps → IsFixedAt ps at → IsSettled (split_at_number ps at)
split_settled low [] at rises settled fixed = tt
split_settled low (p ∷ ps) at rises settled fixed =
    elim (cases_Bool (holds_past_first p at)) [
      | inl t ↦
          let no : is_available p.card.status ≡ false = fixed_first p ps at (held_if_past p at t) fixed in
          subst IsSettled (sym (split_first p ps at rises.2 t))
          (cannot_join_left (left_part p at) (right_part p at) no, same_after p ps settled)
      | inr f ↦
          subst IsSettled (sym (split_rest p ps at f))
          (elim (cases_Bool (piece_holds p at)) [
            | inl h ↦
                let inside = holds_true p at h in
                subst (IsSettledAfter p) (sym (split_above (p.range.last + 1) at ps rises.2 (omega arith))) settled
            | inr g ↦ settled_before_split p (p.range.last + 1) ps at rises.2 settled (fixed_rest p ps at g fixed)
          ])
    ]
  where
    same_after : (p : Piece) (ps : List Piece) → IsSettledAfter p ps → IsSettledAfter (right_part p at) ps
    same_after p [] h = tt
    same_after p (q ∷ qs) h = h

pub split_pieces : (space : Space) (low : ℕ) (ps : List Piece) (at : ℕ) → RisesFrom low ps → AllPiecesOf space ps → AllPiecesOf space (split_at_number ps at)
split_pieces space low [] at rises h = tt
split_pieces space low (p ∷ ps) at rises h =
    elim (cases_Bool (holds_past_first p at)) [
      | inl t ↦
          let inside = past_first p at t in
          let top : p.range.last ≤ top_of space = h.0.within in
          subst (AllPiecesOf space) (sym (split_first p ps at rises.2 t)) (
            record {
              of_space = h.0.of_space;
              within = omega arith;
              pooled = λ e. let b = h.0.pooled e in (b.0, omega arith);
              plain = h.0.plain;
            },
            (
              record {
                of_space = h.0.of_space;
                within = h.0.within;
                pooled = λ e. let b = h.0.pooled e in (omega arith, b.1);
                plain = h.0.plain;
              },
              h.1,
            ),
          )
      | inr f ↦ subst (AllPiecesOf space) (sym (split_rest p ps at f)) (h.0, split_pieces space (p.range.last + 1) ps at rises.2 h.1)
    ]

pub split_keeps : (space : Space) (ps : List Piece) (at : ℕ) → ArePieces space ps → IsFixedAt ps at → ArePieces space (split_at_number ps at)
split_keeps space ps at h fixed = record {
  rises = split_rises 0 ps at h.rises;
  settled = split_settled 0 ps at h.rises h.settled fixed;
  each = split_pieces space 0 ps at h.rises h.each;
}

-- ---- joining

-- the second piece begins at the number, where the first ends, and both have one card of numbers that aren't available
pub record IsMeeting (p q : Piece) (at : ℕ) : Type 0 where
  pub begins : q.range.first ≡ at
  pub touches : p.range.last + 1 ≡ at
  pub one_card : p.card ≡ q.card
  pub fixed : is_available p.card.status ≡ false

-- where the pieces on either side of the number can be joined, they are the first two, or can be joined behind the first
pub join_cases : (low : ℕ) (p q : Piece) (qs : List Piece) (at : ℕ) → RisesFrom low (p ∷ q ∷ qs) → CanJoinAt (p ∷ q ∷ qs) at
    → IsMeeting p q at ⊎ (((q.range.first == at) ≡ false) × CanJoinAt (q ∷ qs) at)
join_cases low p q qs at rises can =
    elim (cases_Bool (q.range.first == at)) [
      | inl t ↦
          let begins : q.range.first ≡ at = eqb-true q.range.first at t in
          let none : piece_at (q ∷ qs) (at - 1) ≡ None = piece_at-below q.range.first (q ∷ qs) (at - 1) (omega arith, rises.2.1, rises.2.2) (let pos = can.positive in omega arith) in
          let left = held_by_first (piece_holds p (at - 1)) p (piece_at (q ∷ qs) (at - 1)) can.left can.holds_before none in
          let inside = holds_true p (at - 1) left.0 in
          let unheld : piece_holds p at ≡ false = not_held_above p at (omega arith) in
          let right : q ≡ can.right = same_Some q can.right
          (sym (cond-true (piece_holds q at) (Some q) (piece_at qs at) (holds_from q at (omega arith) (let order = rises.2.1 in omega arith)))
          ∙ sym (cond-false (piece_holds p at) (Some p) (piece_at (q ∷ qs) at) unheld) ∙ can.holds_at) in
          let one : p.card ≡ q.card = ap (λ r. r.card) left.1 ∙ can.one_card ∙ sym (ap (λ r. r.card) right) in
          inl (record {
            begins = begins;
            touches = let pos = can.positive in omega arith;
            one_card = one;
            fixed = ap (λ c. is_available c.status) one ∙ ap (λ r. is_available r.card.status) right ∙ can.fixed;
          })
      | inr f ↦
          let other : q.range.first ≡ at → ⊥ = eqb-false q.range.first at f in
          let not_at : piece_holds p at ≡ false = false_from_ne_true (piece_holds p at) (λ h.
          let same : p ≡ can.right = same_Some p can.right (sym (cond-true (piece_holds p at) (Some p) (piece_at (q ∷ qs) at) h) ∙ can.holds_at) in
          let begins : p.range.first ≡ at = ap (λ r. r.range.first) same ∙ can.begins in
          let none : piece_at (p ∷ q ∷ qs) (at - 1) ≡ None =
          piece_at-below p.range.first (p ∷ q ∷ qs) (at - 1) (omega arith, rises.1, rises.2) (let pos = can.positive in omega arith) in
          none-some can.left (sym none ∙ can.holds_before)) in
          let holds_at : piece_at (q ∷ qs) at ≡ Some can.right = sym (cond-false (piece_holds p at) (Some p) (piece_at (q ∷ qs) at) not_at) ∙ can.holds_at in
          let not_before : piece_holds p (at - 1) ≡ false = false_from_ne_true (piece_holds p (at - 1)) (λ h.
          let inside = holds_true p (at - 1) h in
          let ends : p.range.last + 1 ≡ at = elim (cases_lt p.range.last at) [
            | inl lt ↦ let pos = can.positive in omega arith
            | inr ge ↦ absurd (both_ways (piece_holds p at) not_at (holds_from p at (let pos = can.positive in omega arith) ge))
          ] in
          let later : at < q.range.first = elim (cases_lt at q.range.first) [
            | inl lt ↦ lt
            | inr ge ↦ absurd (other (let next = rises.2.0 in omega arith))
          ] in
          none-some can.right (sym (piece_at-below q.range.first (q ∷ qs) at (omega arith, rises.2.1, rises.2.2) later) ∙ holds_at)) in
          inr (
            f,
            record {
              left = can.left;
              right = can.right;
              positive = can.positive;
              holds_before = sym (cond-false (piece_holds p (at - 1)) (Some p) (piece_at (q ∷ qs) (at - 1)) not_before) ∙ can.holds_before;
              holds_at = holds_at;
              begins = can.begins;
              one_card = can.one_card;
              fixed = can.fixed;
            },
          )
    ]
  where
    held_by_first : (b : Bool) (p : Piece) (o : Option Piece) (l : Piece) → cond b (Some p) o ≡ Some l → o ≡ None → (b ≡ true) × (p ≡ l)
    held_by_first true p o l e none = (refl, same_Some p l e)
    held_by_first false p o l e none = absurd (none-some l (sym none ∙ e))

-- the list where the first two are joined, and where they aren't
pub join_first : (p q : Piece) (qs : List Piece) (at : ℕ) → q.range.first ≡ at → joined_at_after p (q ∷ qs) at ≡ joined_pair p q ∷ qs
join_first p q qs at e = cond-true (q.range.first == at) (joined_pair p q ∷ qs) (p ∷ joined_at_after q qs at) (eq-eqb q.range.first at e)

pub join_rest : (p q : Piece) (qs : List Piece) (at : ℕ) → (q.range.first == at) ≡ false → joined_at_after p (q ∷ qs) at ≡ p ∷ joined_at_after q qs at
join_rest p q qs at f = cond-false (q.range.first == at) (joined_pair p q ∷ qs) (p ∷ joined_at_after q qs at) f

pub join_rises : (low : ℕ) (p : Piece) (qs : List Piece) (at : ℕ) → RisesFrom low (p ∷ qs) → CanJoinAt (p ∷ qs) at
    → RisesFrom low (joined_at_after p qs at)
join_rises low p [] at rises can = rises
join_rises low p (q ∷ qs) at rises can =
    elim (join_cases low p q qs at rises can) [
      | inl m ↦ subst (RisesFrom low) (sym (join_first p q qs at m.begins)) (rises.0, (let next = rises.2 in omega arith), rises.2.2)
      | inr n ↦ subst (RisesFrom low) (sym (join_rest p q qs at n.0)) (rises.0, rises.1, join_rises (p.range.last + 1) q qs at rises.2 n.1)
    ]

pub size_sum-join : (low : ℕ) (p : Piece) (qs : List Piece) (at : ℕ) → RisesFrom low (p ∷ qs) → CanJoinAt (p ∷ qs) at
    → size_sum (joined_at_after p qs at) ≡ size_sum (p ∷ qs)
size_sum-join low p [] at rises can = refl
size_sum-join low p (q ∷ qs) at rises can =
    elim (join_cases low p q qs at rises can) [
      | inl m ↦
          let touches : p.range.last + 1 ≡ at = m.touches in
          let begins : q.range.first ≡ at = m.begins in
          let order : p.range.first ≤ p.range.last = rises.1 in
          let next : q.range.first ≤ q.range.last = rises.2.1 in
          let sum : size_of (joined_pair p q).range + size_sum qs ≡ size_of p.range + (size_of q.range + size_sum qs) = omega arith in
          ap size_sum (join_first p q qs at m.begins) ∙ sum
      | inr n ↦ ap size_sum (join_rest p q qs at n.0) ∙ ap (λ k. size_of p.range + k) (size_sum-join (p.range.last + 1) q qs at rises.2 n.1)
    ]

-- a number lies in the one range or in the one behind it just where it lies in both joined
either_part : {A : Type 0} (first last next end x : ℕ) (u o : A) → first ≤ last → last + 1 ≡ next → next ≤ end
    → cond (nat_le first x && nat_le x end) u o ≡ cond (nat_le first x && nat_le x last) u (cond (nat_le next x && nat_le x end) u o)
either_part first last next end x u o h e k =
    sym (ap (λ n. cond (nat_le first x && nat_le x n) u (cond (nat_le next x && nat_le x end) u o)) (let back : last ≡ next - 1 = omega arith in back)
    ∙ two_parts first next end x u o (omega arith) k)

pub card_at-join : (low : ℕ) (p : Piece) (qs : List Piece) (at x : ℕ) → RisesFrom low (p ∷ qs) → CanJoinAt (p ∷ qs) at
    → card_at (joined_at_after p qs at) x ≡ card_at (p ∷ qs) x
card_at-join low p [] at x rises can = refl
card_at-join low p (q ∷ qs) at x rises can =
    elim (join_cases low p q qs at rises can) [
      | inl m ↦
          ap (λ xs. card_at xs x) (join_first p q qs at m.begins)
          ∙ card_at-cons (joined_pair p q) qs x
          ∙ either_part p.range.first p.range.last q.range.first q.range.last x (Some p.card) (card_at qs x) rises.1 (m.touches ∙ sym m.begins) rises.2.1
          ∙ ap (λ c. cond (piece_holds p x) (Some p.card) (cond (piece_holds q x) (Some c) (card_at qs x))) m.one_card
          ∙ ap (λ o. cond (piece_holds p x) (Some p.card) o) (sym (card_at-cons q qs x))
          ∙ sym (card_at-cons p (q ∷ qs) x)
      | inr n ↦
          ap (λ xs. card_at xs x) (join_rest p q qs at n.0)
          ∙ card_at-alike p p (joined_at_after q qs at) (q ∷ qs) x refl refl (card_at-join (p.range.last + 1) q qs at x rises.2 n.1)
    ]

settled_joined : (p q : Piece) (qs : List Piece) → is_available p.card.status ≡ false → IsSettledAfter q qs → IsSettledAfter (joined_pair p q) qs
settled_joined p q [] f h = tt
settled_joined p q (s ∷ qs) f h = (cannot_join_left (joined_pair p q) s f, h.1)

settled_before_join : (low : ℕ) (s p : Piece) (qs : List Piece) (at : ℕ) → RisesFrom low (p ∷ qs) → CanJoinAt (p ∷ qs) at → can_join s p ≡ false
    → IsSettledAfter p qs → IsSettledAfter s (joined_at_after p qs at)
settled_before_join low s p [] at rises can h settled = (h, tt)
settled_before_join low s p (q ∷ qs) at rises can h settled =
    elim (join_cases low p q qs at rises can) [
      | inl m ↦ subst (IsSettledAfter s) (sym (join_first p q qs at m.begins)) (h, settled_joined p q qs m.fixed settled.1)
      | inr n ↦
          subst (IsSettledAfter s) (sym (join_rest p q qs at n.0))
          (h, settled_before_join (p.range.last + 1) p q qs at rises.2 n.1 settled.0 settled.1)
    ]

pub join_settled : (low : ℕ) (p : Piece) (qs : List Piece) (at : ℕ) → RisesFrom low (p ∷ qs) → CanJoinAt (p ∷ qs) at → IsSettledAfter p qs
    → IsSettled (joined_at_after p qs at)
join_settled low p [] at rises can settled = tt
join_settled low p (q ∷ qs) at rises can settled =
    elim (join_cases low p q qs at rises can) [
      | inl m ↦ subst IsSettled (sym (join_first p q qs at m.begins)) (settled_joined p q qs m.fixed settled.1)
      | inr n ↦
          subst IsSettled (sym (join_rest p q qs at n.0)) (settled_before_join (p.range.last + 1) p q qs at rises.2 n.1 settled.0 settled.1)
    ]

pub join_pieces : (space : Space) (low : ℕ) (p : Piece) (qs : List Piece) (at : ℕ) → RisesFrom low (p ∷ qs) → CanJoinAt (p ∷ qs) at
    → AllPiecesOf space (p ∷ qs) → AllPiecesOf space (joined_at_after p qs at)
join_pieces space low p [] at rises can h = h
join_pieces space low p (q ∷ qs) at rises can h =
    elim (join_cases low p q qs at rises can) [
      | inl m ↦ subst (AllPiecesOf space) (sym (join_first p q qs at m.begins)) (joined_pair_is_piece space p q h.0 h.1.0, h.1.1)
      | inr n ↦ subst (AllPiecesOf space) (sym (join_rest p q qs at n.0)) (h.0, join_pieces space (p.range.last + 1) q qs at rises.2 n.1 h.1)
    ]

pub join_keeps : (space : Space) (ps : List Piece) (at : ℕ) → ArePieces space ps → CanJoinAt ps at → ArePieces space (joined_at ps at)
join_keeps space [] at h can = h
join_keeps space (p ∷ ps) at h can = record {
  rises = join_rises 0 p ps at h.rises can;
  settled = join_settled 0 p ps at h.rises can h.settled;
  each = join_pieces space 0 p ps at h.rises can h.each;
}

pub card_at-joined_at : (space : Space) (ps : List Piece) (at x : ℕ) → ArePieces space ps → CanJoinAt ps at → card_at (joined_at ps at) x ≡ card_at ps x
card_at-joined_at space [] at x h can = refl
card_at-joined_at space (p ∷ ps) at x h can = card_at-join 0 p ps at x h.rises can

pub size_sum-joined_at : (space : Space) (ps : List Piece) (at : ℕ) → ArePieces space ps → CanJoinAt ps at → size_sum (joined_at ps at) ≡ size_sum ps
size_sum-joined_at space [] at h can = refl
size_sum-joined_at space (p ∷ ps) at h can = size_sum-join 0 p ps at h.rises can
