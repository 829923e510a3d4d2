-- What is known of an entry that may come next.
use Rattle.std.proofs.Common.{◌≡◌, ℕ, ◌+◌, ◌≤◌, Bool, true, false, not, ◌&&◌, ◌==◌, nat_le, inl, inr, List, [], ◌∷◌, Option, None, Some, refl, sym, ◌∙◌, ap, arith}
use Rattle.std.specs.Option.{is_some, is_none, option_and_then}
use Rattle.std.specs.List.{list_any}
use Rattle.std.proofs.lemmas.Bool.{cond-true, cond-false, both_ways, and_parts, or_cases, leb-true, eqb-true, not-false, false_from_ne_true}
use Rattle.std.proofs.lemmas.Option.{none-some}
use Rattle.num_range.specs.Number.{PlainNumber}
use Rattle.num_range.specs.Range.{PlainRange}
use Rattle.reg_entry.specs.declared.card.Status.{Status}
use Rattle.reg_entry.specs.declared.piece.Piece.{Piece}
use Rattle.reg_entry.specs.declared.refusal.Refusal.{Refusal}
use Rattle.reg_entry.specs.declared.refusal.Refusal.TheVariants.{NotOnePiece, WrongStatus, OutsidePool}
use Rattle.reg_entry.specs.Entry.{PlainEntry}
use Rattle.reg_entry.specs.Card.{is_available, same_card}
use Rattle.reg_entry.specs.Request.{is_range, is_request}
use Rattle.reg_entry.specs.Pieces.{piece_holds, piece_at, RisesFrom}
use Rattle.reg_entry.specs.Partition.{Partition}
use Rattle.reg_entry.specs.Ranges.{same_range, same_space, lies_inside}
use Rattle.reg_entry.specs.Register.{Register, piece_of}
use Rattle.reg_entry.specs.Covers.{first_number, cover_for, card_for}
use Rattle.reg_entry.specs.Decision.{first_of, refuse_if, outside_pool, number_outside_pool, not_in_one_piece, not_one_piece, wrong_status, early_rules, late_refusal}
use Rattle.reg_entry.specs.Next.{has_free, start_of, block_may_be, until_of, until_may_be, day_may_be, same_cover, same_painted, IsNextEntry}
use Rattle.reg_entry.proofs.Holding.{holds_true, piece_at-below}
use Rattle.reg_laws.proofs.Sameness.{same_range-true, same_card-true, option_eq-true}
use Rattle.reg_laws.proofs.Accepting.{refuse_if_none, range_valid, first_in_pool}

pub record NextFacts (r : Register) (e : PlainEntry) : Type 0 where
  pub valid : is_request e.request ≡ true
  pub number : e.seq ≡ r.entries + 1
  pub day : day_may_be r e.day ≡ true
  pub early : first_of (early_rules r e.request) ≡ None
  pub block : block_may_be r e.request (start_of e.cover) ≡ true
  pub until : until_may_be e.request e.day (until_of e.card) ≡ true
  pub late : late_refusal r e ≡ None
  pub cover : e.cover ≡ cover_for r e.request (start_of e.cover)
  pub card : e.card ≡ card_for r e.request e.day (until_of e.card)

none_if : {A : Type 0} (o : Option A) → is_none o ≡ true → o ≡ None
none_if None e = refl
none_if (Some x) e = absurd (both_ways false refl e)

pub next_facts : (r : Register) (e : PlainEntry) → IsNextEntry r e → NextFacts r e
next_facts r e h =
    let early = first_of (early_rules r e.request) in
    let start = start_of e.cover in
    let v1 = is_request e.request && (e.seq == r.entries + 1) in
    let v2 = v1 && day_may_be r e.day in
    let v3 = v2 && is_none early in
    let v4 = v3 && block_may_be r e.request start in
    let v5 = v4 && until_may_be e.request e.day (until_of e.card) in
    let v6 = v5 && is_none (late_refusal r e) in
    let v7 = v6 && same_cover e.cover (cover_for r e.request start) in
    let p8 = and_parts v7 (same_painted e.card (card_for r e.request e.day (until_of e.card))) h in
    let p7 = and_parts v6 (same_cover e.cover (cover_for r e.request start)) p8.0 in
    let p6 = and_parts v5 (is_none (late_refusal r e)) p7.0 in
    let p5 = and_parts v4 (until_may_be e.request e.day (until_of e.card)) p6.0 in
    let p4 = and_parts v3 (block_may_be r e.request start) p5.0 in
    let p3 = and_parts v2 (is_none early) p4.0 in
    let p2 = and_parts v1 (day_may_be r e.day) p3.0 in
    let p1 = and_parts (is_request e.request) (e.seq == r.entries + 1) p2.0 in
    record {
      valid = p1.0;
      number = eqb-true e.seq (r.entries + 1) p1.1;
      day = p2.1;
      early = none_if early p3.1;
      block = p4.1;
      until = p5.1;
      late = none_if (late_refusal r e) p6.1;
      cover = option_eq-true same_range same_range-true e.cover (cover_for r e.request start) p7.1;
      card = option_eq-true same_card same_card-true e.card (card_for r e.request e.day (until_of e.card)) p8.1;
    }

-- ---- pieces that conditions speak of

pub some_piece : (o : Option Piece) → is_some o ≡ true → (p : Piece) × (o ≡ Some p)
some_piece None e = absurd (both_ways false refl e)
some_piece (Some p) e = (p, refl)

pub on_the_piece : (f : Piece → Option Refusal) (o : Option Piece) (p : Piece) → option_and_then f o ≡ None → o ≡ Some p → f p ≡ None
on_the_piece f o p e is = sym (ap (option_and_then f) is) ∙ e

pub allowed_if : (b : Bool) (refusal : Refusal) → refuse_if (not b) refusal ≡ None → b ≡ true
allowed_if b refusal e = not-false b (refuse_if_none (not b) refusal e)

-- the range lies inside the piece that holds its first number
pub record IsInPiece (pool : Partition) (range : PlainRange) : Type 0 where
  pub piece : Piece
  pub order : range.first ≤ range.last
  pub holds_first : piece_of pool (first_number range) ≡ Some piece
  pub last : range.last ≤ piece.range.last

pub inside_one : (r : Register) (range : PlainRange) → is_range range ≡ true → outside_pool r range ≡ None → not_in_one_piece r range ≡ None
    → IsInPiece r.pool range
inside_one r range valid pooled one =
    let v = range_valid range valid in
    let p = some_piece (piece_of r.pool (first_number range)) (first_in_pool r range v pooled) in
    let inside = allowed_if (lies_inside range p.0.range) (NotOnePiece p.0.range) (on_the_piece _ (piece_of r.pool (first_number range)) p.0 one p.1) in
    let parts = and_parts (same_space range.space p.0.range.space && nat_le p.0.range.first range.first) (nat_le range.last p.0.range.last) inside in
    record { piece = p.0; order = v.0; holds_first = p.1; last = leb-true range.last p.0.range.last parts.1 }

-- the range is the piece's that holds its first number
pub record IsOnePiece (pool : Partition) (range : PlainRange) : Type 0 where
  pub piece : Piece
  pub order : range.first ≤ range.last
  pub holds_first : piece_of pool (first_number range) ≡ Some piece
  pub same : range ≡ piece.range

pub exactly_one : (r : Register) (range : PlainRange) → is_range range ≡ true → outside_pool r range ≡ None → not_one_piece r range ≡ None
    → IsOnePiece r.pool range
exactly_one r range valid pooled one =
    let v = range_valid range valid in
    let p = some_piece (piece_of r.pool (first_number range)) (first_in_pool r range v pooled) in
    let same = allowed_if (same_range range p.0.range) (NotOnePiece p.0.range) (on_the_piece _ (piece_of r.pool (first_number range)) p.0 one p.1) in
    record { piece = p.0; order = v.0; holds_first = p.1; same = same_range-true range p.0.range same }

unfoldable pub one_is_inside : (pool : Partition) (range : PlainRange) → IsOnePiece pool range → IsInPiece pool range
one_is_inside pool range one =
    let same : range.last ≡ one.piece.range.last = ap (λ r. r.last) one.same in
    record { piece = one.piece; order = one.order; holds_first = one.holds_first; last = omega arith }

pub right_status : (r : Register) (n : PlainNumber) (accepts : Status → Bool) (p : Piece) → wrong_status r n accepts ≡ None → piece_of r.pool n ≡ Some p
    → accepts p.card.status ≡ true
right_status r n accepts p e is = allowed_if (accepts p.card.status) (WrongStatus p.card.status) (on_the_piece _ (piece_of r.pool n) p e is)

pub number_in_pool : (r : Register) (n : PlainNumber) → number_outside_pool r n ≡ None → (p : Piece) × (piece_of r.pool n ≡ Some p)
number_in_pool r n e = some_piece (piece_of r.pool n) (allowed_if (is_some (piece_of r.pool n)) (OutsidePool n) e)

-- ---- free blocks

pub record IsFreePiece (ps : List Piece) (first last : ℕ) : Type 0 where
  pub piece : Piece
  pub holds_first : piece_at ps first ≡ Some piece
  pub reaches : last ≤ piece.range.last
  pub free : is_available piece.card.status ≡ true

pub free_piece : (low : ℕ) (ps : List Piece) (first last : ℕ) → RisesFrom low ps → list_any (has_free first last) ps ≡ true → IsFreePiece ps first last
free_piece low [] first last rises e = absurd (both_ways false refl e)
free_piece low (p ∷ ps) first last rises e =
    elim (or_cases (has_free first last p) (list_any (has_free first last) ps) e) [
      | inl t ↦
          let a = and_parts (is_available p.card.status && piece_holds p first) (piece_holds p last) t in
          let b = and_parts (is_available p.card.status) (piece_holds p first) a.0 in
          record {
            piece = p;
            holds_first = cond-true (piece_holds p first) (Some p) (piece_at ps first) b.1;
            reaches = (holds_true p last a.1).1;
            free = b.0;
          }
      | inr rest ↦
          let found = free_piece (p.range.last + 1) ps first last rises.2 rest in
          let unheld : piece_holds p first ≡ false = false_from_ne_true (piece_holds p first) (λ t.
          let inside = holds_true p first t in
          none-some found.piece (sym (piece_at-below (p.range.last + 1) ps first rises.2 (omega arith)) ∙ found.holds_first)) in
          record {
            piece = found.piece;
            holds_first = cond-false (piece_holds p first) (Some p) (piece_at ps first) unheld ∙ found.holds_first;
            reaches = found.reaches;
            free = found.free;
          }
    ]
