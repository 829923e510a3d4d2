-- What the next entry asks of the pieces: where it paints, and what it splits and joins.
use Rattle.std.proofs.Common.{◌≡◌, ℕ, ◌<◌, ◌≤◌, true, ◌==◌, inl, inr, ◌⊎◌, List, Option, None, Some, MatchOption, refl, sym, ◌∙◌, subst, arith}
use Rattle.std.specs.Option.{option_map}
use Rattle.std.proofs.lemmas.Bool.{eqb-false}
use Rattle.std.proofs.lemmas.Option.{same_Some}
use Rattle.num_range.specs.Space.{top_of}
use Rattle.num_range.specs.Number.{PlainNumber}
use Rattle.num_range.specs.Range.{PlainRange, IsRange}
use Rattle.reg_entry.specs.declared.card.Card.{Card}
use Rattle.reg_entry.specs.declared.card.Status.TheVariants.{Reserved, Quarantine}
use Rattle.reg_entry.specs.declared.piece.Piece.{Piece}
use Rattle.reg_entry.specs.declared.refusal.Refusal.TheVariants.{NotOnePiece}
use Rattle.reg_entry.specs.declared.request.Request.{Request}
use Rattle.reg_entry.specs.declared.request.Request.TheVariants.{Receive, AddHolder, EditHolder, Delegate, Reserve, Unreserve, SubAssign, SubReturn, Return, Release, Split, Join, Transfer, SetReverse, ClearReverse}
use Rattle.reg_entry.specs.Entry.{PlainEntry}
use Rattle.reg_entry.specs.Card.{is_delegated, plain_card}
use Rattle.reg_entry.specs.Request.{amount_size, is_request}
use Rattle.reg_entry.specs.Pieces.{first_met, overlap, IsPoolRange, IsCard, IsInOnePieceOrNone}
use Rattle.reg_entry.specs.Partition.{Partition, pieces_in, IsPartition}
use Rattle.reg_entry.specs.Register.{Register, register_pieces, piece_of, reshaped}
use Rattle.reg_entry.specs.Holders.{holder_number}
use Rattle.reg_entry.specs.Covers.{first_number, range_from, cover_for, card_for, holder_card, kept_card}
use Rattle.reg_entry.specs.Decision.{first_of, outside_unicast, least_outside_unicast, already_pooled, outside_pool, number_outside_pool, begins_a_piece, not_one_piece, wrong_status, early_rules}
use Rattle.reg_entry.specs.Next.{start_of, until_of, block_may_be, IsNextEntry}
use Rattle.reg_entry.specs.Reshaping.{CanJoinAt}
use Rattle.reg_laws.proofs.Accepting.{or_none, refuse_if_none, map_none, range_valid}
use Rattle.reg_laws.proofs.NextFacts.{next_facts, one_is_inside, right_status, number_in_pool, on_the_piece, IsInPiece}
use Rattle.reg_laws.proofs.Painted.{piece_is_of, met_first}
use Rattle.reg_laws.proofs.Conserving.{rules_behind, in_one, all_one, pool_range, block_inside, can_be_joined, plain_is_card, delegated_is_card, transferred_is_card, kept_is_card}

-- ---- an entry that paints

-- the cover is a range of its space inside one piece or where there is none, the card is plain where it is available, and
-- nothing else is done to the pieces
pub record IsPainting (pool : Partition) (request : Request) (cover : Option PlainRange) (c : Card) : Type 0 where
  pub range : PlainRange
  pub covers : cover ≡ Some range
  pub place : (first_met (pieces_in pool range.space) range ≡ None) ⊎ IsInPiece pool range
  pub valid : IsRange range
  pub pooled : IsPoolRange range
  pub plain : IsCard c
  pub alone : reshaped request pool ≡ pool

-- a card that is painted is painted so
abbrev pub IsPaintingOrNone : Partition → Request → Option PlainRange → Option Card → Type 0
IsPaintingOrNone pool request cover card = MatchOption card (Unit {0}) (IsPainting pool request cover)

painting_inside : (pool : Partition) (request : Request) (range : PlainRange) (c : Card) → IsPartition pool → reshaped request pool ≡ pool
    → IsInPiece pool range → IsCard c → IsPainting pool request (Some range) c
painting_inside pool request range c h alone inside plain =
    let is = piece_is_of range.space (pieces_in pool range.space) range.first inside.piece (h.each range.space).each inside.holds_first in
    let last : range.last ≤ inside.piece.range.last = inside.last in
    let order : range.first ≤ range.last = inside.order in
    let top : inside.piece.range.last ≤ top_of range.space = is.0.within in
    record {
      range = range;
      covers = refl;
      place = inr inside;
      valid = (order, omega arith);
      pooled = λ six. let b = is.0.pooled (is.0.of_space ∙ six) in (omega arith, omega arith);
      plain = plain;
      alone = alone;
    }

painting_by : (r : Register) (request : Request) (day until : ℕ) (start : Option ℕ) → IsPartition r.pool → is_request request ≡ true
    → first_of (early_rules r request) ≡ None → block_may_be r request start ≡ true
    → IsPaintingOrNone r.pool request (cover_for r request start) (card_for r request day until)
painting_by r (Receive range) day until start h valid early block =
    let a = or_none (outside_unicast range) _ early in
    let b = or_none (already_pooled r range) None a.1 in
    record {
      range = range;
      covers = refl;
      place = inl (none_met (register_pieces r range.space) range (map_none _ (overlap (register_pieces r range.space) range) b.0));
      valid = range_valid range valid;
      pooled = pool_range range.space range (map_none _ (least_outside_unicast range.space range) a.0);
      plain = plain_is_card;
      alone = refl;
    }
  where
    none_met : (ps : List Piece) (range : PlainRange) → overlap ps range ≡ None → first_met ps range ≡ None
    none_met ps range e = map_none _ (first_met ps range) e
painting_by r (AddHolder holder) day until start h valid early block = tt
painting_by r (EditHolder holder) day until start h valid early block = tt
painting_by r (Delegate space amount status handle) day until start h valid early block =
    let found = block_inside r space amount start h block in
    subst (λ s. IsPaintingOrNone r.pool (Delegate space amount status handle) (cover_for r (Delegate space amount status handle) s) (card_for r (Delegate space amount status handle) day until))
    (sym found.1)
    (painting_inside r.pool (Delegate space amount status handle) (range_from space found.0 (amount_size space amount)) _ h refl found.2
    (delegated_is_card status (holder_number r.holders handle) day 0))
painting_by r (Reserve range) day until start h valid early block =
    painting_inside r.pool (Reserve range) range (kept_card Reserved day 0) h refl (in_one r range (rules_behind (early_rules r (Reserve range))) valid early) (kept_is_card Reserved day 0 refl)
painting_by r (Unreserve range) day until start h valid early block =
    painting_inside r.pool (Unreserve range) range plain_card h refl (one_is_inside r.pool range (all_one r range (rules_behind (early_rules r (Unreserve range))) valid early)) plain_is_card
painting_by r (SubAssign range handle) day until start h valid early block = tt
painting_by r (SubReturn range) day until start h valid early block = tt
painting_by r (Return range handle) day until start h valid early block =
    painting_inside r.pool (Return range handle) range (kept_card Quarantine day until) h refl
    (one_is_inside r.pool range (all_one r range (rules_behind (early_rules r (Return range handle))) valid early)) (kept_is_card Quarantine day until refl)
painting_by r (Release range) day until start h valid early block =
    painting_inside r.pool (Release range) range plain_card h refl (one_is_inside r.pool range (all_one r range (rules_behind (early_rules r (Release range))) valid early)) plain_is_card
painting_by r (Split at) day until start h valid early block = tt
painting_by r (Join at) day until start h valid early block = tt
painting_by r (Transfer range from to) day until start h valid early block =
    let one = all_one r range (rules_behind (early_rules r (Transfer range from to))) valid early in
    let a = or_none (outside_pool r range) _ early in
    let b = or_none (not_one_piece r range) _ a.1 in
    let c = or_none (wrong_status r (first_number range) is_delegated) _ b.1 in
    let delegated = right_status r (first_number range) is_delegated one.piece c.0 one.holds_first in
    subst (λ o. IsPaintingOrNone r.pool (Transfer range from to) (Some range) (option_map (λ p. holder_card p.card.status (holder_number r.holders to) day until) o))
    (sym one.holds_first)
    (painting_inside r.pool (Transfer range from to) range (holder_card one.piece.card.status (holder_number r.holders to) day until) h refl
    (one_is_inside r.pool range one) (transferred_is_card one.piece.card.status (holder_number r.holders to) day until delegated))
painting_by r (SetReverse range servers) day until start h valid early block = tt
painting_by r (ClearReverse range) day until start h valid early block = tt

next_painting_or_none : (r : Register) (e : PlainEntry) → IsPartition r.pool → IsNextEntry r e → IsPaintingOrNone r.pool e.request e.cover e.card
next_painting_or_none r e h next =
    let facts = next_facts r e next in
    subst (λ x. IsPaintingOrNone r.pool e.request x e.card) (sym facts.cover)
    (subst (λ y. IsPaintingOrNone r.pool e.request (cover_for r e.request (start_of e.cover)) y) (sym facts.card)
    (painting_by r e.request e.day (until_of e.card) (start_of e.cover) h facts.valid facts.early facts.block))

pub next_painting : (r : Register) (e : PlainEntry) (c : Card) → IsPartition r.pool → IsNextEntry r e → e.card ≡ Some c
    → IsPainting r.pool e.request e.cover c
next_painting r e c h next card = subst (IsPaintingOrNone r.pool e.request e.cover) card (next_painting_or_none r e h next)

-- ---- what follows of the pieces

met_inside : (pool : Partition) (range : PlainRange) → IsPartition pool
    → (first_met (pieces_in pool range.space) range ≡ None) ⊎ IsInPiece pool range → IsInOnePieceOrNone (pieces_in pool range.space) range
met_inside pool range h (inl none) =
    subst (λ o. MatchOption o (Unit {0}) (λ p. (p.range.first ≤ range.first) × (range.last ≤ p.range.last))) (sym none) tt
met_inside pool range h (inr inside) =
    let all = h.each range.space in
    let is = piece_is_of range.space (pieces_in pool range.space) range.first inside.piece all.each inside.holds_first in
    subst (λ o. MatchOption o (Unit {0}) (λ p. (p.range.first ≤ range.first) × (range.last ≤ p.range.last)))
    (sym (met_first 0 (pieces_in pool range.space) range inside.piece all.rises inside.holds_first inside.order))
    (is.1, inside.last)

pub paints_in_one : (r : Register) (e : PlainEntry) (range : PlainRange) (c : Card) → IsPartition r.pool → IsNextEntry r e
    → e.cover ≡ Some range → e.card ≡ Some c → IsInOnePieceOrNone (register_pieces r range.space) range
paints_in_one r e range c h next cover card =
    let is = next_painting r e c h next card in
    subst (λ s. IsInOnePieceOrNone (register_pieces r s.space) s) (same_Some is.range range (sym is.covers ∙ cover)) (met_inside r.pool is.range h is.place)

pub paints_in_pool : (r : Register) (e : PlainEntry) (range : PlainRange) (c : Card) → IsPartition r.pool → IsNextEntry r e
    → e.cover ≡ Some range → e.card ≡ Some c → IsPoolRange range
paints_in_pool r e range c h next cover card =
    let is = next_painting r e c h next card in
    subst IsPoolRange (same_Some is.range range (sym is.covers ∙ cover)) is.pooled

-- ---- an entry that splits or joins

-- the piece that holds the number is delegated, and begins below it
abbrev pub IsSplitOf : Register → PlainNumber → Type 0
IsSplitOf r at = (p : Piece) × (piece_of r.pool at ≡ Some p) × (is_delegated p.card.status ≡ true) × (p.range.first < at.value)

split_by : (r : Register) (at : PlainNumber) → IsPartition r.pool → first_of (early_rules r (Split at)) ≡ None → IsSplitOf r at
split_by r at h early =
    let a = or_none (number_outside_pool r at) _ early in
    let b = or_none (begins_a_piece r at) _ a.1 in
    let c = or_none (wrong_status r at is_delegated) None b.1 in
    let found = number_in_pool r at a.0 in
    let is = piece_is_of at.space (pieces_in r.pool at.space) at.value found.0 (h.each at.space).each found.1 in
    let differs : found.0.range.first ≡ at.value → ⊥ =
    eqb-false found.0.range.first at.value
    (refuse_if_none (found.0.range.first == at.value) (NotOnePiece found.0.range) (on_the_piece _ (piece_of r.pool at) found.0 b.0 found.1)) in
    (found.0, found.1, right_status r at is_delegated found.0 c.0 found.1, below found.0.range.first at.value is.1 differs)
  where
    below : (a b : ℕ) → a ≤ b → (a ≡ b → ⊥) → a < b
    below a b h k = omega arith

pub next_splits : (r : Register) (e : PlainEntry) (at : PlainNumber) → IsPartition r.pool → IsNextEntry r e → e.request ≡ Split at → IsSplitOf r at
next_splits r e at h next is =
    split_by r at h (subst (λ q. first_of (early_rules r q) ≡ None) is (next_facts r e next).early)

pub next_joins : (r : Register) (e : PlainEntry) (at : PlainNumber) → IsNextEntry r e → e.request ≡ Join at → CanJoinAt (register_pieces r at.space) at.value
next_joins r e at next is = can_be_joined r at (subst (λ q. first_of (early_rules r q) ≡ None) is (next_facts r e next).early)
