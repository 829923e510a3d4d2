-- A range inside one delegated piece stays inside one of the same status: whatever comes next, unless it is returned or
-- would be cut.
use Rattle.std.proofs.Common.{◌≡◌, ℕ, ◌+◌, ◌-◌, ◌<◌, ◌≤◌, max, Bool, true, false, ◌&&◌, nat_le, ◌⊎◌, inl, inr, List, [], ◌∷◌, None, Some, refl, sym, ◌∙◌, ap, subst, arith}
use Rattle.std.proofs.lemmas.Bool.{cases_Bool, cases_lt, both_ways, and_from, le-leb}
use Rattle.std.proofs.lemmas.Option.{none-some, same_Some}
use Rattle.num_range.specs.Number.{PlainNumber}
use Rattle.num_range.specs.Range.{PlainRange, IsRange}
use Rattle.reg_entry.specs.declared.card.Card.{Card}
use Rattle.reg_entry.specs.declared.piece.Piece.{Piece}
use Rattle.reg_entry.specs.Card.{is_available, is_delegated}
use Rattle.reg_entry.specs.Pieces.{piece_holds, piece_at, overlap, laid, RisesFrom, IsLeastTaken}
use Rattle.reg_entry.specs.Partition.{Partition, pieces_in, with_pieces, IsPartition}
use Rattle.reg_entry.specs.Ranges.{same_space, lies_inside, range_holds}
use Rattle.reg_entry.specs.Reshaping.{split_at_number, joined_at}
use Rattle.reg_entry.specs.Covers.{number_before}
use Rattle.reg_entry.proofs.Holding.{holds_true, holds_from, not_held_above, piece_at-first, piece_at-rest, piece_at-below}
use Rattle.reg_entry.proofs.Overlaps.{overlap_is_least}
use Rattle.reg_entry.specs.Reshaping.{CanJoinAt}
use Rattle.reg_laws.proofs.Sameness.{same_space-true, same_space-refl}
use Rattle.reg_laws.proofs.NextFacts.{IsInPiece, IsOnePiece, one_is_inside}
use Rattle.reg_laws.proofs.Conserving.{not_available}
use Rattle.reg_laws.proofs.Parts.{IsIn, inside_last, part_laid_apart, part_split, part_joined_at, in_changed, in_painted}

-- the range lies inside one piece, whose status is the card's
pub record IsKept (pool : Partition) (s : PlainRange) (c : Card) : Type 0 where
  pub card : Card
  pub same_status : card.status ≡ c.status
  pub is : IsIn pool s card

-- each range inside one delegated piece stays so, but for those that pass the test
abbrev pub Keeps : Partition → Partition → (PlainRange → Bool) → Type 0
Keeps pool after test =
    (s : PlainRange) (c : Card) → s.first ≤ s.last → test s ≡ false → is_delegated c.status ≡ true → IsIn pool s c → IsKept after s c

pub keeps_same : (pool : Partition) (test : PlainRange → Bool) → Keeps pool pool test
keeps_same pool test s c order untested delegated is = record { card = c; same_status = refl; is = is }

-- ---- the piece of a number

pub held_through : (low : ℕ) (ps : List Piece) (x m : ℕ) (p : Piece) → RisesFrom low ps → piece_at ps x ≡ Some p → x ≤ m → m ≤ p.range.last
    → piece_at ps m ≡ Some p
held_through low [] x m p rises e h k = absurd (none-some p e)
held_through low (q ∷ qs) x m p rises e h k =
    elim (cases_Bool (piece_holds q x)) [
      | inl t ↦
          let same : q ≡ p = same_Some q p (sym (piece_at-first q qs x t) ∙ e) in
          let inside = holds_true q x t in
          let last : q.range.last ≡ p.range.last = ap (λ y. y.range.last) same in
          piece_at-first q qs m (holds_from q m (omega arith) (omega arith)) ∙ ap (λ y. Some y) same
      | inr f ↦
          let rest : piece_at qs x ≡ Some p = sym (piece_at-rest q qs x f) ∙ e in
          let past : q.range.last < m = elim (cases_lt x (q.range.last + 1)) [
            | inl lt ↦ absurd (none-some p (sym (piece_at-below (q.range.last + 1) qs x rises.2 lt) ∙ rest))
            | inr ge ↦ omega arith
          ] in
          piece_at-rest q qs m (not_held_above q m past) ∙ held_through (q.range.last + 1) qs x m p rises.2 rest h k
    ]

-- two ranges have no number in common, or some
pub record IsMet (s r : PlainRange) : Type 0 where
  pub one_space : s.space ≡ r.space
  pub ends : r.first ≤ s.last
  pub begins : s.first ≤ r.last

abbrev IsApart : PlainRange → PlainRange → Type 0
IsApart s r = r.space ≡ s.space → (s.last < r.first) ⊎ (r.last < s.first)

apart_or_met : (s r : PlainRange) → IsApart s r ⊎ IsMet s r
apart_or_met s r =
    elim (cases_Bool (same_space s.space r.space)) [
      | inl t ↦ elim (cases_lt s.last r.first) [
        | inl lt ↦ inl (λ e. inl lt)
        | inr ge ↦ elim (cases_lt r.last s.first) [
          | inl lt ↦ inl (λ e. inr lt)
          | inr le ↦ inr (record { one_space = same_space-true s.space r.space t; ends = ge; begins = le })
        ]
      ]
      | inr f ↦ inl (λ e. absurd (both_ways (same_space s.space r.space) f (ap (same_space s.space) e ∙ same_space-refl s.space)))
    ]

-- the piece of a range that meets another holds a number of the other
pub met_number : (pool : Partition) (s r : PlainRange) (c : Card) → IsPartition pool → s.first ≤ s.last → (is : IsIn pool s c) → IsMet s r
    → piece_at (pieces_in pool r.space) (max s.first r.first) ≡ Some is.piece
met_number pool s r c h order is met =
    let last : s.last ≤ is.piece.range.last = inside_last s is.piece.range is.inside in
    let e : r.first ≤ s.last = met.ends in
    subst (λ u. piece_at (pieces_in pool u) (max s.first r.first) ≡ Some is.piece) met.one_space
    (held_through 0 (pieces_in pool s.space) s.first (max s.first r.first) is.piece (h.each s.space).rises is.holds_first (omega arith) (omega arith))

pub same_piece : (pool : Partition) (s r : PlainRange) (c : Card) → IsPartition pool → s.first ≤ s.last → (is : IsIn pool s c) → IsMet s r
    → (inside : IsInPiece pool r) → is.piece ≡ inside.piece
same_piece pool s r c h order is met inside =
    let last : r.last ≤ inside.piece.range.last = inside.last in
    let b : s.first ≤ r.last = met.begins in
    let o : r.first ≤ r.last = inside.order in
    same_Some is.piece inside.piece
    (sym (met_number pool s r c h order is met)
    ∙ held_through 0 (pieces_in pool r.space) r.first (max s.first r.first) inside.piece (h.each r.space).rises inside.holds_first (omega arith) (omega arith))

-- ---- painting

abbrev pub painted_over : Partition → PlainRange → Card → Partition
painted_over pool r d = with_pieces pool r.space (laid (pieces_in pool r.space) r d)

apart_kept : (pool : Partition) (r : PlainRange) (d : Card) (s : PlainRange) (c : Card) → IsPartition pool → IsPartition (painted_over pool r d)
    → r.first ≤ r.last → s.first ≤ s.last → is_delegated c.status ≡ true → IsIn pool s c → IsApart s r → IsKept (painted_over pool r d) s c
apart_kept pool r d s c h after range order delegated is apart = record {
  card = c;
  same_status = refl;
  is =
      in_changed pool r.space (laid (pieces_in pool r.space) r d) s c after order is
      (λ e. part_laid_apart (pieces_in pool r.space) r d s.first s.last c (h.each r.space).rises range order (apart e) (not_available c.status delegated));
}

keeps_where : (pool : Partition) (r : PlainRange) (d : Card) (test : PlainRange → Bool) → IsPartition pool → IsPartition (painted_over pool r d)
    → r.first ≤ r.last
    → ((s : PlainRange) (c : Card) → s.first ≤ s.last → test s ≡ false → is_delegated c.status ≡ true → IsIn pool s c → IsMet s r → IsKept (painted_over pool r d) s c)
    → Keeps pool (painted_over pool r d) test
keeps_where pool r d test h after range meeting s c order untested delegated is =
    elim (apart_or_met s r) [
      | inl apart ↦ apart_kept pool r d s c h after range order delegated is apart
      | inr met ↦ meeting s c order untested delegated is met
    ]

-- what is painted lies in a piece that isn't delegated
pub keeps_free : (pool : Partition) (r : PlainRange) (d : Card) (test : PlainRange → Bool) → IsPartition pool → IsPartition (painted_over pool r d)
    → (inside : IsInPiece pool r) → is_delegated inside.piece.card.status ≡ false → Keeps pool (painted_over pool r d) test
keeps_free pool r d test h after inside free =
    keeps_where pool r d test h after inside.order
    (λ s c order untested delegated is met.
    let same = same_piece pool s r c h order is met inside in
    absurd (both_ways (is_delegated inside.piece.card.status) free
    (ap (λ p. is_delegated p.card.status) (sym same) ∙ ap (λ x. is_delegated x.status) is.card ∙ delegated)))

-- what is painted was in no piece
pub keeps_received : (pool : Partition) (r : PlainRange) (d : Card) (test : PlainRange → Bool) → IsPartition pool → IsPartition (painted_over pool r d)
    → IsRange r → overlap (pieces_in pool r.space) r ≡ None → Keeps pool (painted_over pool r d) test
keeps_received pool r d test h after range none =
    let ps : List Piece = pieces_in pool r.space in
    let free : (x : ℕ) → r.first ≤ x → x ≤ r.last → piece_at ps x ≡ None =
    subst (λ o. IsLeastTaken ps r o) none (overlap_is_least r.space ps r (h.each r.space) range) in
    let valid : r.first ≤ r.last = range.0 in
    keeps_where pool r d test h after valid
    (λ s c order untested delegated is met.
    let b : s.first ≤ r.last = met.begins in
    absurd (none-some is.piece (sym (free (max s.first r.first) (omega arith) (omega arith)) ∙ met_number pool s r c h order is met)))

pub inside_same : (pool : Partition) (s r : PlainRange) (c : Card) → IsPartition pool → s.first ≤ s.last → IsIn pool s c → IsMet s r
    → (one : IsOnePiece pool r) → lies_inside s r ≡ true
unfolding one_is_inside
inside_same pool s r c h order is met one =
    let same = same_piece pool s r c h order is met (one_is_inside pool r one) in
    subst (λ x. lies_inside s x ≡ true) (ap (λ p. p.range) same ∙ sym one.same) is.inside

-- a piece was returned: nothing that lies inside it is spoken of
pub keeps_returned : (pool : Partition) (r : PlainRange) (d : Card) → IsPartition pool → IsPartition (painted_over pool r d) → IsOnePiece pool r
    → Keeps pool (painted_over pool r d) (λ s. lies_inside s r)
keeps_returned pool r d h after one =
    keeps_where pool r d (λ s. lies_inside s r) h after one.order
    (λ s c order untested delegated is met. absurd (both_ways (lies_inside s r) untested (inside_same pool s r c h order is met one)))

-- a piece was painted with its own status
pub keeps_transferred : (pool : Partition) (r : PlainRange) (d : Card) (test : PlainRange → Bool) → IsPartition pool → IsPartition (painted_over pool r d)
    → (one : IsOnePiece pool r) → d.status ≡ one.piece.card.status → is_available d.status ≡ false → Keeps pool (painted_over pool r d) test
unfolding one_is_inside
keeps_transferred pool r d test h after one status fixed =
    keeps_where pool r d test h after one.order
    (λ s c order untested delegated is met.
    let same = same_piece pool s r c h order is met (one_is_inside pool r one) in
    record {
      card = d;
      same_status = status ∙ ap (λ p. p.card.status) (sym same) ∙ ap (λ x. x.status) is.card;
      is = in_painted pool r s d h after one.order order (inside_same pool s r c h order is met one) fixed;
    })

-- ---- splitting and joining

-- the range has the number and the one before it
abbrev pub straddles : PlainNumber → PlainRange → Bool
straddles at s = range_holds s at && range_holds s (number_before at)

uncut : (s : PlainRange) (at : PlainNumber) → at.space ≡ s.space → straddles at s ≡ false → (s.last < at.value) ⊎ (at.value ≤ s.first)
uncut s at e f =
    elim (cases_lt s.last at.value) [
      | inl lt ↦ inl lt
      | inr ge ↦ elim (cases_lt s.first at.value) [
        | inl lt ↦
            let one : same_space s.space at.space ≡ true = ap (same_space s.space) e ∙ same_space-refl s.space in
            absurd (both_ways (straddles at s) f
            (and_from (range_holds s at) (range_holds s (number_before at))
            (held one s.first s.last at.value (omega arith) ge) (held one s.first s.last (at.value - 1) (omega arith) (omega arith))))
        | inr le ↦ inr le
      ]
    ]
  where
    held : same_space s.space at.space ≡ true → (first last n : ℕ) → first ≤ n → n ≤ last
        → (same_space s.space at.space && nat_le first n && nat_le n last) ≡ true
    held one first last n h k =
        and_from (same_space s.space at.space && nat_le first n) (nat_le n last)
        (and_from (same_space s.space at.space) (nat_le first n) one (le-leb first n h)) (le-leb n last k)

pub keeps_split : (pool : Partition) (at : PlainNumber) → IsPartition (with_pieces pool at.space (split_at_number (pieces_in pool at.space) at.value))
    → Keeps pool (with_pieces pool at.space (split_at_number (pieces_in pool at.space) at.value)) (straddles at)
keeps_split pool at after s c order untested delegated is = record {
  card = c;
  same_status = refl;
  is =
      in_changed pool at.space (split_at_number (pieces_in pool at.space) at.value) s c after order is
      (λ e. part_split (pieces_in pool at.space) at.value s.first s.last c (uncut s at e untested));
}

pub keeps_join : (pool : Partition) (at : PlainNumber) (test : PlainRange → Bool) → IsPartition pool
    → IsPartition (with_pieces pool at.space (joined_at (pieces_in pool at.space) at.value)) → CanJoinAt (pieces_in pool at.space) at.value
    → Keeps pool (with_pieces pool at.space (joined_at (pieces_in pool at.space) at.value)) test
keeps_join pool at test h after can s c order untested delegated is = record {
  card = c;
  same_status = refl;
  is =
      in_changed pool at.space (joined_at (pieces_in pool at.space) at.value) s c after order is
      (λ e. part_joined_at (pieces_in pool at.space) at.value s.first s.last c (h.each at.space).rises can);
}
