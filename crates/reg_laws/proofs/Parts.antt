-- What lies inside one piece stays inside one piece with the same card: where a painting doesn't meet it, where a split
-- doesn't cut it, and where pieces are joined.
use Rattle.std.proofs.Common.{◌≡◌, ℕ, ◌+◌, ◌<◌, ◌≤◌, true, false, ◌&&◌, nat_lt, nat_le, ◌⊎◌, inl, inr, List, [], ◌∷◌, ◌++◌, Some, refl, sym, ◌∙◌, ap, subst, arith}
use Rattle.std.specs.List.{flat_map}
use Rattle.std.proofs.lemmas.Bool.{cond_both, cond-true, cases_Bool, both_ways, and_from, and_parts, ltb-false, leb-true, le-leb}
use Rattle.std.proofs.lemmas.Option.{none-some, same_Some}
use Rattle.num_range.specs.declared.space.Space.{Space}
use Rattle.num_range.specs.Range.{PlainRange}
use Rattle.reg_entry.specs.declared.card.Card.{Card}
use Rattle.reg_entry.specs.declared.piece.Piece.{Piece}
use Rattle.reg_entry.specs.Card.{is_available}
use Rattle.reg_entry.specs.Pieces.{piece_holds, piece_at, part_below, part_above, can_join, joined_pair, joined_after, joined, laid, RisesFrom}
use Rattle.reg_entry.specs.Partition.{Partition, pieces_in, with_pieces, IsPartition}
use Rattle.reg_entry.specs.Ranges.{same_space, lies_inside}
use Rattle.reg_entry.specs.Reshaping.{holds_past_first, split_at_number, joined_at_after, joined_at}
use Rattle.reg_entry.specs.Register.{piece_of}
use Rattle.reg_entry.specs.Covers.{first_number}
use Rattle.reg_entry.proofs.Holding.{holds_true, holds_from, piece_at-first, piece_at-rest}
use Rattle.reg_entry.proofs.Joining.{can_join_true}
use Rattle.reg_entry.proofs.Laying.{kept_below, kept_above, painted_parts, painted_parts_rise}
use Rattle.reg_entry.specs.Reshaping.{CanJoinAt}
use Rattle.reg_laws.proofs.Sameness.{same_space-refl, same_space-true}
use Rattle.reg_laws.proofs.Painted.{pieces_in-with, with_pieces_has, piece_is_of}
use Rattle.reg_entry.proofs.Reshaped.{join_cases, join_first, join_rest, left_part, right_part}

-- ---- in a list

-- the piece has all numbers from the first to the last, and the card
pub record IsPart (first last : ℕ) (c : Card) (p : Piece) : Type 0 where
  pub begins : p.range.first ≤ first
  pub ends : last ≤ p.range.last
  pub card : p.card ≡ c

abbrev pub HasPart : ℕ → ℕ → Card → List Piece → Type 0
HasPart first last c [] = ⊥
HasPart first last c (p ∷ ps) = IsPart first last c p ⊎ HasPart first last c ps

pub part_left : (first last : ℕ) (c : Card) (ps qs : List Piece) → HasPart first last c ps → HasPart first last c (ps ++ qs)
part_left first last c [] qs h = absurd h
part_left first last c (p ∷ ps) qs (inl h) = inl h
part_left first last c (p ∷ ps) qs (inr h) = inr (part_left first last c ps qs h)

pub part_right : (first last : ℕ) (c : Card) (ps qs : List Piece) → HasPart first last c qs → HasPart first last c (ps ++ qs)
part_right first last c [] qs h = h
part_right first last c (p ∷ ps) qs h = inr (part_right first last c ps qs h)

-- the piece that holds the first number, where it reaches the last
pub part_of_found : (ps : List Piece) (p : Piece) (first last : ℕ) → piece_at ps first ≡ Some p → last ≤ p.range.last → HasPart first last p.card ps
part_of_found [] p first last e h = absurd (none-some p e)
part_of_found (q ∷ qs) p first last e h =
    elim (cases_Bool (piece_holds q first)) [
      | inl t ↦
          let same : q ≡ p = same_Some q p (sym (piece_at-first q qs first t) ∙ e) in
          let inside = holds_true q first t in
          inl (record { begins = inside.0; ends = subst (λ x. last ≤ x.range.last) (sym same) h; card = ap (λ x. x.card) same })
      | inr f ↦ inr (part_of_found qs p first last (sym (piece_at-rest q qs first f) ∙ e) h)
    ]

pub record IsFound (first last : ℕ) (c : Card) (ps : List Piece) : Type 0 where
  pub piece : Piece
  pub holds_first : piece_at ps first ≡ Some piece
  pub ends : last ≤ piece.range.last
  pub card : piece.card ≡ c

part_above_low : (low : ℕ) (ps : List Piece) (first last : ℕ) (c : Card) → RisesFrom low ps → HasPart first last c ps → low ≤ first
part_above_low low [] first last c rises h = absurd h
part_above_low low (p ∷ ps) first last c rises (inl h) = let b = h.begins in omega arith
part_above_low low (p ∷ ps) first last c rises (inr h) =
    let b : p.range.last + 1 ≤ first = part_above_low (p.range.last + 1) ps first last c rises.2 h in omega arith

pub found_of_part : (low : ℕ) (ps : List Piece) (first last : ℕ) (c : Card) → RisesFrom low ps → first ≤ last → HasPart first last c ps
    → IsFound first last c ps
found_of_part low [] first last c rises order h = absurd h
found_of_part low (p ∷ ps) first last c rises order (inl h) = record {
  piece = p;
  holds_first = let e = h.ends in piece_at-first p ps first (holds_from p first h.begins (omega arith));
  ends = h.ends;
  card = h.card;
}
found_of_part low (p ∷ ps) first last c rises order (inr h) =
    let above : p.range.last + 1 ≤ first = part_above_low (p.range.last + 1) ps first last c rises.2 h in
    let found = found_of_part (p.range.last + 1) ps first last c rises.2 order h in
    record {
      piece = found.piece;
      holds_first = elim (cases_Bool (piece_holds p first)) [
        | inl t ↦ absurd (let inside = holds_true p first t in omega arith)
        | inr f ↦ piece_at-rest p ps first f ∙ found.holds_first
      ];
      ends = found.ends;
      card = found.card;
    }

-- ---- painting

part_kept_below : (r : PlainRange) (ps : List Piece) (first last : ℕ) (c : Card) → first ≤ last → last < r.first → HasPart first last c ps
    → HasPart first last c (flat_map (part_below r) ps)
part_kept_below r [] first last c order h part = absurd part
part_kept_below r (p ∷ ps) first last c order h (inl part) =
    let b : p.range.first ≤ first = part.begins in
    let e : last ≤ p.range.last = part.ends in
    cond_both (nat_lt p.range.first r.first) (kept_below r p ∷ []) [] (λ xs. HasPart first last c (xs ++ flat_map (part_below r) ps))
    (λ t. inl (record { begins = b; ends = omega arith; card = part.card }))
    (λ f. absurd (let n : r.first ≤ p.range.first = ltb-false p.range.first r.first f in omega arith))
part_kept_below r (p ∷ ps) first last c order h (inr part) =
    let rest : HasPart first last c (flat_map (part_below r) ps) = part_kept_below r ps first last c order h part in
    part_right first last c (part_below r p) (flat_map (part_below r) ps) rest

part_kept_above : (r : PlainRange) (ps : List Piece) (first last : ℕ) (c : Card) → first ≤ last → r.last < first → HasPart first last c ps
    → HasPart first last c (flat_map (part_above r) ps)
part_kept_above r [] first last c order h part = absurd part
part_kept_above r (p ∷ ps) first last c order h (inl part) =
    let b : p.range.first ≤ first = part.begins in
    let e : last ≤ p.range.last = part.ends in
    cond_both (nat_lt r.last p.range.last) (kept_above r p ∷ []) [] (λ xs. HasPart first last c (xs ++ flat_map (part_above r) ps))
    (λ t. inl (record { begins = omega arith; ends = e; card = part.card }))
    (λ f. absurd (let n : p.range.last ≤ r.last = ltb-false r.last p.range.last f in omega arith))
part_kept_above r (p ∷ ps) first last c order h (inr part) =
    let rest : HasPart first last c (flat_map (part_above r) ps) = part_kept_above r ps first last c order h part in
    part_right first last c (part_above r p) (flat_map (part_above r) ps) rest

-- joining only makes pieces wider that aren't available
part_joined_after : (low : ℕ) (p : Piece) (qs : List Piece) (first last : ℕ) (c : Card) → RisesFrom low (p ∷ qs) → is_available c.status ≡ false
    → HasPart first last c (p ∷ qs) → HasPart first last c (joined_after p qs)
part_joined_after low p [] first last c rises fixed h = h
part_joined_after low p (q ∷ qs) first last c rises fixed h =
    cond_both (can_join p q) (joined_after (joined_pair p q) qs) (p ∷ joined_after q qs) (HasPart first last c)
    (λ e.
    let both = can_join_true p q e in
    part_joined_after low (joined_pair p q) qs first last c (rises.0, (let t = both.0 in let o = rises.2.1 in let l = rises.1 in omega arith), rises.2.2) fixed
    (elim h [
      | inl part ↦ absurd (both_ways (is_available c.status) fixed (ap (λ d. is_available d.status) (sym part.card) ∙ both.1))
      | inr more ↦ elim more [
        | inl part ↦ absurd (both_ways (is_available c.status) fixed (ap (λ d. is_available d.status) (sym part.card) ∙ both.2))
        | inr rest ↦ inr rest
      ]
    ]))
    (λ e.
    elim h [
      | inl part ↦ inl part
      | inr more ↦ inr (part_joined_after (p.range.last + 1) q qs first last c rises.2 fixed more)
    ])

pub part_joined : (ps : List Piece) (first last : ℕ) (c : Card) → RisesFrom 0 ps → is_available c.status ≡ false → HasPart first last c ps
    → HasPart first last c (joined ps)
part_joined [] first last c rises fixed h = absurd h
part_joined (p ∷ ps) first last c rises fixed h = part_joined_after 0 p ps first last c rises fixed h

-- the range that was painted doesn't meet the part
pub part_laid_apart : (ps : List Piece) (r : PlainRange) (d : Card) (first last : ℕ) (c : Card) → RisesFrom 0 ps → r.first ≤ r.last → first ≤ last
    → (last < r.first) ⊎ (r.last < first) → is_available c.status ≡ false → HasPart first last c ps → HasPart first last c (laid ps r d)
part_laid_apart ps r d first last c rises range order apart fixed h =
    let new : Piece = record { range = r; card = d } in
    let below : List Piece = flat_map (part_below r) ps in
    let above : List Piece = flat_map (part_above r) ps in
    part_joined (painted_parts ps r d) first last c (painted_parts_rise ps r d rises range) fixed
    (elim apart [
      | inl lt ↦ part_left first last c below (new ∷ above) (part_kept_below r ps first last c order lt h)
      | inr gt ↦ part_right first last c below (new ∷ above) (inr (part_kept_above r ps first last c order gt h))
    ])

-- the part lies inside the range that was painted
pub part_laid_inside : (ps : List Piece) (r : PlainRange) (d : Card) (first last : ℕ) → RisesFrom 0 ps → r.first ≤ r.last
    → r.first ≤ first → last ≤ r.last → is_available d.status ≡ false → HasPart first last d (laid ps r d)
part_laid_inside ps r d first last rises range b e fixed =
    let new : Piece = record { range = r; card = d } in
    part_joined (painted_parts ps r d) first last d (painted_parts_rise ps r d rises range) fixed
    (part_right first last d (flat_map (part_below r) ps) (new ∷ flat_map (part_above r) ps) (inl (record { begins = b; ends = e; card = refl })))

-- ---- splitting and joining

pub part_split : (ps : List Piece) (at first last : ℕ) (c : Card) → (last < at) ⊎ (at ≤ first) → HasPart first last c ps
    → HasPart first last c (split_at_number ps at)
part_split [] at first last c apart h = absurd h
part_split (p ∷ ps) at first last c apart (inl h) =
    let b : p.range.first ≤ first = h.begins in
    let e : last ≤ p.range.last = h.ends in
    cond_both (holds_past_first p at) (left_part p at ∷ right_part p at ∷ []) (p ∷ []) (λ xs. HasPart first last c (xs ++ split_at_number ps at))
    (λ t.
    elim apart [
      | inl lt ↦ inl (record { begins = b; ends = omega arith; card = h.card })
      | inr ge ↦ inr (inl (record { begins = ge; ends = e; card = h.card }))
    ])
    (λ f. inl h)
part_split (p ∷ ps) at first last c apart (inr h) =
    let rest : HasPart first last c (split_at_number ps at) = part_split ps at first last c apart h in
    cond_both (holds_past_first p at) (left_part p at ∷ right_part p at ∷ []) (p ∷ []) (λ xs. HasPart first last c (xs ++ split_at_number ps at))
    (λ t. inr (inr rest))
    (λ f. inr rest)

part_join : (low : ℕ) (p : Piece) (qs : List Piece) (at first last : ℕ) (c : Card) → RisesFrom low (p ∷ qs) → CanJoinAt (p ∷ qs) at
    → HasPart first last c (p ∷ qs) → HasPart first last c (joined_at_after p qs at)
part_join low p [] at first last c rises can h = h
part_join low p (q ∷ qs) at first last c rises can h =
    elim (join_cases low p q qs at rises can) [
      | inl m ↦
          let touches : p.range.last + 1 ≡ at = m.touches in
          let begins : q.range.first ≡ at = m.begins in
          let order : p.range.first ≤ p.range.last = rises.1 in
          let next : q.range.first ≤ q.range.last = rises.2.1 in
          subst (HasPart first last c) (sym (join_first p q qs at m.begins))
          (elim h [
            | inl part ↦
                let e : last ≤ p.range.last = part.ends in
                inl (record { begins = part.begins; ends = omega arith; card = part.card })
            | inr more ↦ elim more [
              | inl part ↦
                  let b : q.range.first ≤ first = part.begins in
                  inl (record { begins = omega arith; ends = part.ends; card = m.one_card ∙ part.card })
              | inr rest ↦ inr rest
            ]
          ])
      | inr n ↦
          subst (HasPart first last c) (sym (join_rest p q qs at n.0))
          (elim h [
            | inl part ↦ inl part
            | inr more ↦ inr (part_join (p.range.last + 1) q qs at first last c rises.2 n.1 more)
          ])
    ]

pub part_joined_at : (ps : List Piece) (at first last : ℕ) (c : Card) → RisesFrom 0 ps → CanJoinAt ps at → HasPart first last c ps
    → HasPart first last c (joined_at ps at)
part_joined_at [] at first last c rises can h = absurd h
part_joined_at (p ∷ ps) at first last c rises can h = part_join 0 p ps at first last c rises can h

-- ---- in the pool

-- the range lies inside one piece, which has the card
pub record IsIn (pool : Partition) (s : PlainRange) (c : Card) : Type 0 where
  pub piece : Piece
  pub holds_first : piece_of pool (first_number s) ≡ Some piece
  pub inside : lies_inside s piece.range ≡ true
  pub card : piece.card ≡ c

pub inside_last : (s t : PlainRange) → lies_inside s t ≡ true → s.last ≤ t.last
inside_last s t e = leb-true s.last t.last (and_parts (same_space s.space t.space && nat_le t.first s.first) (nat_le s.last t.last) e).1

pub part_of_in : (pool : Partition) (s : PlainRange) (c : Card) → IsIn pool s c → HasPart s.first s.last c (pieces_in pool s.space)
part_of_in pool s c h =
    subst (λ d. HasPart s.first s.last d (pieces_in pool s.space)) h.card
    (part_of_found (pieces_in pool s.space) h.piece s.first s.last h.holds_first (inside_last s h.piece.range h.inside))

pub in_of_part : (pool : Partition) (s : PlainRange) (c : Card) → IsPartition pool → s.first ≤ s.last → HasPart s.first s.last c (pieces_in pool s.space)
    → IsIn pool s c
in_of_part pool s c h order part =
    let all = h.each s.space in
    let found = found_of_part 0 (pieces_in pool s.space) s.first s.last c all.rises order part in
    let is = piece_is_of s.space (pieces_in pool s.space) s.first found.piece all.each found.holds_first in
    record {
      piece = found.piece;
      holds_first = found.holds_first;
      inside =
          and_from (same_space s.space found.piece.range.space && nat_le found.piece.range.first s.first) (nat_le s.last found.piece.range.last)
          (and_from (same_space s.space found.piece.range.space) (nat_le found.piece.range.first s.first)
          (ap (same_space s.space) is.0.of_space ∙ same_space-refl s.space) (le-leb found.piece.range.first s.first is.1))
          (le-leb s.last found.piece.range.last found.ends);
      card = found.card;
    }

-- other pieces in a space keep the range inside one piece, where they keep the part
pub in_changed : (pool : Partition) (t : Space) (qs : List Piece) (s : PlainRange) (c : Card) → IsPartition (with_pieces pool t qs)
    → s.first ≤ s.last → IsIn pool s c → (t ≡ s.space → HasPart s.first s.last c (pieces_in pool t) → HasPart s.first s.last c qs)
    → IsIn (with_pieces pool t qs) s c
in_changed pool t qs s c h order is keeps =
    let part = part_of_in pool s c is in
    in_of_part (with_pieces pool t qs) s c h order
    (with_pieces_has (λ u xs. u ≡ s.space → HasPart s.first s.last c xs) pool t s.space qs
    (λ e. keeps e (subst (λ u. HasPart s.first s.last c (pieces_in pool u)) (sym e) part)) (λ e. part) refl)

-- a range inside the one that was painted lies in the new piece
pub in_painted : (pool : Partition) (r s : PlainRange) (d : Card) → IsPartition pool
    → IsPartition (with_pieces pool r.space (laid (pieces_in pool r.space) r d)) → r.first ≤ r.last → s.first ≤ s.last
    → lies_inside s r ≡ true → is_available d.status ≡ false → IsIn (with_pieces pool r.space (laid (pieces_in pool r.space) r d)) s d
in_painted pool r s d h after range order inside fixed =
    let ps : List Piece = pieces_in pool r.space in
    let outer = and_parts (same_space s.space r.space && nat_le r.first s.first) (nat_le s.last r.last) inside in
    let inner = and_parts (same_space s.space r.space) (nat_le r.first s.first) outer.0 in
    let one : s.space ≡ r.space = same_space-true s.space r.space inner.0 in
    let same : same_space r.space s.space ≡ true = ap (same_space r.space) one ∙ same_space-refl r.space in
    in_of_part (with_pieces pool r.space (laid ps r d)) s d after order
    (subst (HasPart s.first s.last d)
    (sym (pieces_in-with pool r.space s.space (laid ps r d) ∙ cond-true (same_space r.space s.space) (laid ps r d) (pieces_in pool s.space) same))
    (part_laid_inside ps r d s.first s.last (h.each r.space).rises range (leb-true r.first s.first inner.1) (leb-true s.last r.last outer.1) fixed))
