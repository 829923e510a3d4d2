-- What each request keeps, by the rules that stand against it: the ranges inside delegated pieces, what a card is, and the
-- room of the pieces.
use Rattle.std.proofs.Common.{◌≡◌, ℕ, ◌+◌, ◌-◌, ◌%◌, ◌<◌, ◌≤◌, Bool, true, false, ◌&&◌, ◌==◌, nat_lt, nat_le, List, Option, None, Some, MatchOption, length, refl, sym, ◌∙◌, ap, subst, arith}
use Rattle.std.specs.Option.{is_some, option_map, option_map_or}
use Rattle.std.specs.List.{list_any}
use Rattle.std.proofs.lemmas.Bool.{both_ways, and_parts, ltb-false, leb-true}
use Rattle.num_range.specs.declared.space.Space.{Space}
use Rattle.num_range.specs.Space.{top_of}
use Rattle.num_range.specs.Range.{PlainRange}
use Rattle.reg_entry.specs.declared.card.Card.{Card}
use Rattle.reg_entry.specs.declared.card.Status.{Status}
use Rattle.reg_entry.specs.declared.card.Status.TheVariants.{Available, Reserved, Quarantine, Allocated, Assigned}
use Rattle.reg_entry.specs.declared.piece.Piece.{Piece}
use Rattle.reg_entry.specs.declared.refusal.Refusal.TheVariants.{UnknownHolder, RegisterFull}
use Rattle.reg_entry.specs.declared.request.Delegation.{Delegation}
use Rattle.reg_entry.specs.declared.request.Delegation.TheVariants.{Allocate, Assign}
use Rattle.reg_entry.specs.declared.request.Request.{Request}
use Rattle.reg_entry.specs.declared.request.Request.TheVariants.{Receive, Delegate, Reserve, Unreserve, Return, Release, Split, Join, Transfer}
use Rattle.reg_entry.specs.Card.{is_available, is_delegated, plain_card}
use Rattle.reg_entry.specs.Request.{status_of, amount_size, has_size, is_request}
use Rattle.reg_entry.specs.Blocks.{alignment}
use Rattle.reg_entry.specs.Days.{last_date}
use Rattle.reg_entry.specs.Holders.{holder_number}
use Rattle.reg_entry.specs.Pieces.{overlap, laid}
use Rattle.reg_entry.specs.Partition.{Partition, pieces_in, with_pieces, IsPartition, piece_count}
use Rattle.reg_entry.specs.Ranges.{lies_inside}
use Rattle.reg_entry.specs.Reshaping.{split_at_number, joined_at}
use Rattle.reg_entry.specs.Register.{Register, register_pieces, piece_of, painted, pool_after}
use Rattle.reg_entry.specs.Covers.{first_number, range_from, cover_for, card_for, holder_card, kept_card}
use Rattle.reg_entry.specs.Decision.{first_of, outside_unicast, already_pooled, outside_pool, not_in_one_piece, not_one_piece, wrong_status, is_status, unknown_holder, no_block, register_full, straddled, early_rules, late_rules}
use Rattle.reg_entry.specs.Next.{block_may_be, is_free_block, has_free, until_may_be}
use Rattle.reg_entry.specs.Whole.{IsKnownHolder, IsCardIn}
use Rattle.reg_laws.proofs.Sameness.{same_status-true}
use Rattle.reg_laws.proofs.Accepting.{or_none, refuse_if_none, map_none, range_valid}
use Rattle.reg_laws.proofs.NextFacts.{IsInPiece, IsOnePiece, one_is_inside, right_status, allowed_if, free_piece}
use Rattle.reg_laws.proofs.Conserving.{not_available, in_one, all_one, rules_behind, can_be_joined}
use Rattle.reg_laws.proofs.HolderFacts.{number_is_there}
use Rattle.reg_laws.proofs.PieceCounts.{length_laid, length_joined_at, count_with}
use Rattle.reg_laws.proofs.Keeping.{Keeps, keeps_same, keeps_received, keeps_free, keeps_returned, keeps_transferred, straddles, keeps_split, keeps_join}

-- ---- ranges inside delegated pieces

-- what lies inside the range may go, or be cut
abbrev pub touches : Request → PlainRange → Bool
touches (Return range handle) s = lies_inside s range
touches (Split at) s = straddles at s
touches request s = false

pub free_is_kept_back : (s : Status) → is_available s ≡ true → is_delegated s ≡ false
free_is_kept_back Available e = refl
free_is_kept_back Reserved e = refl
free_is_kept_back Quarantine e = refl
free_is_kept_back Allocated e = absurd (both_ways false refl e)
free_is_kept_back Assigned e = absurd (both_ways false refl e)

-- a range of a piece of this status
pub of_status : (r : Register) (range : PlainRange) (status : Status) (p : Piece) → wrong_status r (first_number range) (is_status status) ≡ None
    → piece_of r.pool (first_number range) ≡ Some p → is_delegated status ≡ false → is_delegated p.card.status ≡ false
of_status r range status p e is free =
    ap is_delegated (same_status-true p.card.status status (right_status r (first_number range) (is_status status) p e is)) ∙ free

pub block_of_free : (r : Register) (space : Space) (amount : ℕ) (start : Option ℕ) → IsPartition r.pool
    → (has_size space amount && option_map_or (is_free_block (register_pieces r space) space (amount_size space amount)) start false) ≡ true
    → (x : ℕ) × (start ≡ Some x) × ((inside : IsInPiece r.pool (range_from space x (amount_size space amount))) × (is_available inside.piece.card.status ≡ true))
block_of_free r space amount None h e = absurd (both_ways false refl (and_parts (has_size space amount) false e).1)
block_of_free r space amount (Some x) h e =
    let size : ℕ = amount_size space amount in
    let ps : List Piece = register_pieces r space in
    let free = (and_parts (has_size space amount) (is_free_block ps space size x) e).1 in
    let any = (and_parts ((x % alignment space size == 0) && nat_le (x + (size - 1)) (top_of space)) (list_any (has_free x (x + (size - 1))) ps) free).1 in
    let found = free_piece 0 ps x (x + (size - 1)) (h.each space).rises any in
    (x, refl, (record { piece = found.piece; order = omega arith; holds_first = found.holds_first; last = found.reaches }, found.free))

nothing_painted : (cover : Option PlainRange) (pool : Partition) → painted cover None pool ≡ pool
nothing_painted None pool = refl
nothing_painted (Some range) pool = refl

pub keeps_by : (r : Register) (request : Request) (day until : ℕ) (start : Option ℕ) → IsPartition r.pool → is_request request ≡ true
    → first_of (early_rules r request) ≡ None → block_may_be r request start ≡ true
    → IsPartition (pool_after request (cover_for r request start) (card_for r request day until) r.pool)
    → Keeps r.pool (pool_after request (cover_for r request start) (card_for r request day until) r.pool) (touches request)
unfolding one_is_inside
keeps_by r (Receive range) day until start h valid early block after =
    let a = or_none (outside_unicast range) _ early in
    let b = or_none (already_pooled r range) None a.1 in
    keeps_received r.pool range plain_card (touches (Receive range)) h after (range_valid range valid)
    (map_none _ (overlap (register_pieces r range.space) range) b.0)
keeps_by r (Delegate space amount status handle) day until start h valid early block after =
    let request : Request = Delegate space amount status handle in
    let found = block_of_free r space amount start h block in
    subst (λ s. Keeps r.pool (pool_after request (cover_for r request s) (card_for r request day until) r.pool) (touches request)) (sym found.1)
    (keeps_free r.pool (range_from space found.0 (amount_size space amount)) (holder_card (status_of status) (holder_number r.holders handle) day 0)
    (touches request) h
    (subst (λ s. IsPartition (pool_after request (cover_for r request s) (card_for r request day until) r.pool)) found.1 after)
    found.2.0 (free_is_kept_back found.2.0.piece.card.status found.2.1))
keeps_by r (Reserve range) day until start h valid early block after =
    let inside = in_one r range (rules_behind (early_rules r (Reserve range))) valid early in
    let a = or_none (outside_pool r range) _ early in
    let b = or_none (not_in_one_piece r range) _ a.1 in
    let c = or_none (wrong_status r (first_number range) is_available) None b.1 in
    keeps_free r.pool range (kept_card Reserved day 0) (touches (Reserve range)) h after inside
    (free_is_kept_back inside.piece.card.status (right_status r (first_number range) is_available inside.piece c.0 inside.holds_first))
keeps_by r (Unreserve range) day until start h valid early block after =
    let one = all_one r range (rules_behind (early_rules r (Unreserve range))) valid early in
    let a = or_none (outside_pool r range) _ early in
    let b = or_none (not_one_piece r range) _ a.1 in
    let c = or_none (wrong_status r (first_number range) (is_status Reserved)) None b.1 in
    keeps_free r.pool range plain_card (touches (Unreserve range)) h after (one_is_inside r.pool range one)
    (of_status r range Reserved one.piece c.0 one.holds_first refl)
keeps_by r (Return range handle) day until start h valid early block after =
    keeps_returned r.pool range (kept_card Quarantine day until) h after (all_one r range (rules_behind (early_rules r (Return range handle))) valid early)
keeps_by r (Release range) day until start h valid early block after =
    let one = all_one r range (rules_behind (early_rules r (Release range))) valid early in
    let a = or_none (outside_pool r range) _ early in
    let b = or_none (not_one_piece r range) _ a.1 in
    let c = or_none (wrong_status r (first_number range) (is_status Quarantine)) None b.1 in
    keeps_free r.pool range plain_card (touches (Release range)) h after (one_is_inside r.pool range one)
    (of_status r range Quarantine one.piece c.0 one.holds_first refl)
keeps_by r (Split at) day until start h valid early block after =
    let new : Partition = with_pieces r.pool at.space (split_at_number (pieces_in r.pool at.space) at.value) in
    let same = nothing_painted (cover_for r (Split at) start) new in
    subst (λ pool. Keeps r.pool pool (straddles at)) (sym same) (keeps_split r.pool at (subst IsPartition same after))
keeps_by r (Join at) day until start h valid early block after =
    let new : Partition = with_pieces r.pool at.space (joined_at (pieces_in r.pool at.space) at.value) in
    let same = nothing_painted (cover_for r (Join at) start) new in
    subst (λ pool. Keeps r.pool pool (touches (Join at))) (sym same)
    (keeps_join r.pool at (touches (Join at)) h (subst IsPartition same after) (can_be_joined r at early))
keeps_by r (Transfer range from to) day until start h valid early block after =
    let request : Request = Transfer range from to in
    let one = all_one r range (rules_behind (early_rules r request)) valid early in
    let a = or_none (outside_pool r range) _ early in
    let b = or_none (not_one_piece r range) _ a.1 in
    let c = or_none (wrong_status r (first_number range) is_delegated) _ b.1 in
    let delegated = right_status r (first_number range) is_delegated one.piece c.0 one.holds_first in
    let card : Option Piece → Option Card = λ o. option_map (λ p. holder_card p.card.status (holder_number r.holders to) day until) o in
    subst (λ o. Keeps r.pool (painted (Some range) (card o) r.pool) (touches request)) (sym one.holds_first)
    (keeps_transferred r.pool range (holder_card one.piece.card.status (holder_number r.holders to) day until) (touches request) h
    (subst (λ o. IsPartition (painted (Some range) (card o) r.pool)) one.holds_first after) one refl (not_available one.piece.card.status delegated))
keeps_by r request day until start h valid early block after = keeps_same r.pool (touches request)

-- ---- the painted card

plain_in : (s : Register) → IsCardIn s plain_card
plain_in s = record {
  holder = λ e. absurd (both_ways false refl e);
  nobody = λ e. refl;
  dated = λ e. absurd (both_ways false refl e);
  day = omega arith;
  until = omega arith;
}

kept_in : (s : Register) (status : Status) (day until : ℕ) → is_delegated status ≡ false → day ≤ s.last_day → until ≤ last_date
    → IsCardIn s (kept_card status day until)
kept_in s status day until free h k = record {
  holder = λ e. absurd (both_ways (is_delegated status) free e);
  nobody = λ e. refl;
  dated = λ e. absurd (both_ways (is_delegated status) free e);
  day = h;
  until = k;
}

held_in : (s : Register) (status : Status) (holder : Option ℕ) (day until : ℕ) → is_delegated status ≡ true → IsKnownHolder s holder
    → 1 ≤ day → day ≤ s.last_day → until ≤ last_date → IsCardIn s (holder_card status holder day until)
held_in s status holder day until delegated is dated h k = record {
  holder = λ e. is;
  nobody = λ e. absurd (both_ways (is_delegated status) e delegated);
  dated = λ e. dated;
  day = h;
  until = k;
}

pub known_number : (r s : Register) (handle : List ℕ) → length r.holders ≤ length s.holders → unknown_holder r handle ≡ None
    → IsKnownHolder s (holder_number r.holders handle)
known_number r s handle more e =
    by_number (holder_number r.holders handle) refl (allowed_if (is_some (holder_number r.holders handle)) (UnknownHolder handle) e)
  where
    by_number : (o : Option ℕ) → holder_number r.holders handle ≡ o → is_some o ≡ true → IsKnownHolder s o
    by_number None e some = absurd (both_ways false refl some)
    by_number (Some number) e some = let n : number < length r.holders = number_is_there r.holders handle number e in omega arith

delegated_status : (d : Delegation) → is_delegated (status_of d) ≡ true
delegated_status Allocate = refl
delegated_status Assign = refl

late_until : (day until : ℕ) → (nat_le day until && nat_le until last_date) ≡ true → until ≤ last_date
late_until day until e = leb-true until last_date (and_parts (nat_le day until) (nat_le until last_date) e).1

pub card_by : (r s : Register) (request : Request) (day until : ℕ) → is_request request ≡ true → first_of (early_rules r request) ≡ None
    → until_may_be request day until ≡ true → length r.holders ≤ length s.holders → 1 ≤ day → day ≤ s.last_day
    → MatchOption (card_for r request day until) (Unit {0}) (IsCardIn s)
card_by r s (Receive range) day until valid early u more dated h = plain_in s
card_by r s (Delegate space amount status handle) day until valid early u more dated h =
    held_in s (status_of status) (holder_number r.holders handle) day 0 (delegated_status status)
    (known_number r s handle more (or_none (unknown_holder r handle) None early).0) dated h (omega arith)
card_by r s (Reserve range) day until valid early u more dated h = kept_in s Reserved day 0 refl h (omega arith)
card_by r s (Unreserve range) day until valid early u more dated h = plain_in s
card_by r s (Return range handle) day until valid early u more dated h = kept_in s Quarantine day until refl h (late_until day until u)
card_by r s (Release range) day until valid early u more dated h = plain_in s
card_by r s (Transfer range from to) day until valid early u more dated h =
    let one = all_one r range (rules_behind (early_rules r (Transfer range from to))) valid early in
    let a = or_none (outside_pool r range) _ early in
    let b = or_none (not_one_piece r range) _ a.1 in
    let c = or_none (wrong_status r (first_number range) is_delegated) _ b.1 in
    let d = or_none (unknown_holder r from) _ c.1 in
    let e = or_none (unknown_holder r to) _ d.1 in
    let delegated = right_status r (first_number range) is_delegated one.piece c.0 one.holds_first in
    subst (λ o. MatchOption (option_map (λ p. holder_card p.card.status (holder_number r.holders to) day until) o) (Unit {0}) (IsCardIn s)) (sym one.holds_first)
    (held_in s one.piece.card.status (holder_number r.holders to) day until delegated (known_number r s to more e.0) dated h (late_until day until u))
card_by r s request day until valid early u more dated h = tt

-- ---- the room of the pieces

room_left : (r : Register) (request : Request) (cover : Option PlainRange) (card : Option Card) → register_full r request cover card ≡ None
    → piece_count (pool_after request cover card r.pool) ≤ r.rooms.pieces
room_left r request cover card e =
    let count : ℕ = piece_count (pool_after request cover card r.pool) in
    ltb-false r.rooms.pieces count (refuse_if_none (nat_lt r.rooms.pieces count) (RegisterFull count r.rooms.pieces) e)

-- exactly one piece is painted
count_painted : (pool : Partition) (range : PlainRange) (c : Card) → IsPartition pool → IsOnePiece pool range
    → piece_count (with_pieces pool range.space (laid (pieces_in pool range.space) range c)) ≤ piece_count pool
count_painted pool range c h one =
    count_with pool range.space (laid (pieces_in pool range.space) range c)
    (length_laid (pieces_in pool range.space) range c one.piece (h.each range.space).rises one.holds_first
    (ap (λ x. x.first) one.same) (ap (λ x. x.last) one.same) one.order)

pub count_by : (r : Register) (request : Request) (day until : ℕ) (start : Option ℕ) → IsPartition r.pool → is_request request ≡ true
    → first_of (early_rules r request) ≡ None
    → first_of (late_rules r request day (cover_for r request start) (card_for r request day until)) ≡ None
    → piece_count r.pool ≤ r.rooms.pieces
    → piece_count (pool_after request (cover_for r request start) (card_for r request day until) r.pool) ≤ r.rooms.pieces
count_by r (Receive range) day until start h valid early late room =
    room_left r (Receive range) (Some range) (Some plain_card) (or_none (register_full r (Receive range) (Some range) (Some plain_card)) _ late).0
count_by r (Delegate space amount status handle) day until start h valid early late room =
    let request : Request = Delegate space amount status handle in
    let cover : Option PlainRange = cover_for r request start in
    let card : Option Card = card_for r request day until in
    room_left r request cover card (or_none (register_full r request cover card) _ (or_none (no_block cover) _ late).1).0
count_by r (Reserve range) day until start h valid early late room =
    let card : Option Card = card_for r (Reserve range) day until in
    room_left r (Reserve range) (Some range) card (or_none (register_full r (Reserve range) (Some range) card) _ late).0
count_by r (Unreserve range) day until start h valid early late room =
    let few = count_painted r.pool range plain_card h (all_one r range (rules_behind (early_rules r (Unreserve range))) valid early) in omega arith
count_by r (Return range handle) day until start h valid early late room =
    let few = count_painted r.pool range (kept_card Quarantine day until) h (all_one r range (rules_behind (early_rules r (Return range handle))) valid early) in
    omega arith
count_by r (Release range) day until start h valid early late room =
    let few = count_painted r.pool range plain_card h (all_one r range (rules_behind (early_rules r (Release range))) valid early) in omega arith
count_by r (Split at) day until start h valid early late room =
    let cover : Option PlainRange = cover_for r (Split at) start in
    room_left r (Split at) cover None (or_none (register_full r (Split at) cover None) _ (or_none (straddled r at) _ late).1).0
count_by r (Join at) day until start h valid early late room =
    let ps : List Piece = joined_at (pieces_in r.pool at.space) at.value in
    let few = count_with r.pool at.space ps (length_joined_at (pieces_in r.pool at.space) at.value) in
    subst (λ pool. piece_count pool ≤ r.rooms.pieces) (sym (nothing_painted (cover_for r (Join at) start) (with_pieces r.pool at.space ps))) (omega arith)
count_by r (Transfer range from to) day until start h valid early late room =
    let one = all_one r range (rules_behind (early_rules r (Transfer range from to))) valid early in
    let few = count_painted r.pool range (holder_card one.piece.card.status (holder_number r.holders to) day until) h one in
    subst (λ o. piece_count (painted (Some range) (option_map (λ p. holder_card p.card.status (holder_number r.holders to) day until) o) r.pool) ≤ r.rooms.pieces)
    (sym one.holds_first) (omega arith)
count_by r request day until start h valid early late room = room
