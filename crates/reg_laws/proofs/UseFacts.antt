-- How much of what is allocated to a holder is used, and how the next entry changes it.
use Rattle.std.proofs.Common.{◌≡◌, ℕ, ◌+◌, ◌<◌, ◌≤◌, Bool, true, false, cond, ◌&&◌, ◌||◌, nat_le, ◌⊎◌, inl, inr, List, [], ◌∷◌, max, Option, None, Some, MatchOption, filter, refl, sym, ◌∙◌, ap, subst, arith}
use Rattle.std.specs.Option.{is_some, option_or, option_map, option_map_or, IsSomeAnd}
use Rattle.std.specs.List.{list_any}
use Rattle.std.proofs.lemmas.Bool.{cond_both, cases_Bool, both_ways, and_from, and_left, and_parts, or_from, or_left, leb-true, le-leb, false_from_ne_true}
use Rattle.std.proofs.lemmas.Option.{none-some, same_Some}
use Rattle.num_range.specs.declared.space.Space.{Space}
use Rattle.num_range.specs.Number.{PlainNumber}
use Rattle.num_range.specs.Range.{PlainRange, IsRange, size_of, range_holds}
use Rattle.reg_entry.specs.declared.card.Card.{Card}
use Rattle.reg_entry.specs.declared.card.Status.TheVariants.{Allocated}
use Rattle.reg_entry.specs.declared.piece.Piece.{Piece}
use Rattle.reg_entry.specs.declared.refusal.Refusal.TheVariants.{Overlap, NoSub, UnknownHolder}
use Rattle.reg_entry.specs.declared.request.Request.{Request}
use Rattle.reg_entry.specs.declared.request.Request.TheVariants.{Receive, AddHolder, EditHolder, Delegate, Reserve, Unreserve, SubAssign, SubReturn, Return, Release, Split, Join, Transfer, SetReverse, ClearReverse}
use Rattle.reg_entry.specs.declared.sub_card.SubCard.{SubCard}
use Rattle.reg_entry.specs.Entry.{PlainEntry}
use Rattle.reg_entry.specs.Entries.{covers}
use Rattle.reg_entry.specs.Card.{is_available, is_delegated}
use Rattle.reg_entry.specs.Request.{amount_size, is_request}
use Rattle.reg_entry.specs.Holders.{holder_number}
use Rattle.reg_entry.specs.Pieces.{piece_holds, piece_at, card_at, first_met, overlap, RisesFrom, AllPiecesOf, IsLeastTaken}
use Rattle.reg_entry.specs.Partition.{Partition, pieces_in, IsPartition}
use Rattle.reg_entry.specs.Ranges.{same_space, same_range, lies_inside, ranges_meet, value_of_range, first_meeting, with_range, without_range}
use Rattle.reg_entry.specs.Register.{Register, register_pieces, piece_of, card_of, with_sub, subs_after, after_entry}
use Rattle.reg_entry.specs.Covers.{first_number, range_from, cover_for, card_for}
use Rattle.reg_entry.specs.Decision.{first_of, already_pooled, outside_unicast, outside_pool, not_in_one_piece, wrong_status, is_status, unknown_holder, first_common, meets_sub, no_sub, early_rules}
use Rattle.reg_entry.specs.Next.{start_of, until_of, block_may_be, IsNextEntry}
use Rattle.reg_entry.specs.Whole.{HasRange, IsSubIn, IsWholeRegister}
use Rattle.reg_entry.specs.Sums.{is_allocated_to, allocated, lies_in_one, used}
use Rattle.reg_entry.specs.Holdings.{gives_allocated, allocated_by}
use Rattle.reg_entry.proofs.Holding.{holds_from, piece_at-first, piece_at-rest}
use Rattle.reg_entry.proofs.Overlaps.{overlap_is_least}
use Rattle.reg_laws.specs.Use.{used_by, used_by_card}
use Rattle.reg_laws.proofs.Sameness.{same_space-refl, same_space-true, same_range-true}
use Rattle.reg_laws.proofs.Accepting.{or_none, map_none, range_valid}
use Rattle.reg_laws.proofs.NextFacts.{next_facts, allowed_if, right_status, IsInPiece}
use Rattle.reg_laws.proofs.Painted.{no_card}
use Rattle.reg_laws.proofs.Conserving.{rules_behind, in_one, all_one}
use Rattle.reg_laws.proofs.Parts.{IsIn}
use Rattle.reg_laws.proofs.RangeLists.{AllOf, NoneIs, all_and, all_moved, none_at_all, none_found, ranges_of_apart}
use Rattle.reg_laws.proofs.Keeping.{held_through, IsMet, met_number, same_piece, inside_same}
use Rattle.reg_laws.proofs.RequestKeeps.{block_of_free, free_is_kept_back}
use Rattle.reg_laws.proofs.WholeLists.{subs_of_each}
use Rattle.reg_laws.proofs.WholeStep.{next_whole}
use Rattle.reg_laws.proofs.Reaching.{next_cards}
use Rattle.reg_laws.proofs.Paints.{next_painting}
use Rattle.reg_laws.proofs.Shares.{share}
use Rattle.reg_laws.proofs.RangeSums.{range_sum, range_sum-filter, range_sum-same, IsMoved, range_sum-moved, range_sum-part, range_sum-with, range_sum-without, within_of, sum_in_pieces}

-- ---- which subs are used, by the card of their first numbers

-- the card allocates numbers to the holder
abbrev gives_to : ℕ → Option Card → Bool
gives_to holder card = option_map_or (gives_allocated holder) card false

-- the range is one of the space, and its first number is allocated to the holder
abbrev is_used : Partition → ℕ → Space → PlainRange → Bool
is_used pool holder space s = same_space s.space space && gives_to holder (card_of pool (first_number s))

-- a range lies inside no piece above it
none_above : (test : Piece → Bool) (low : ℕ) (ps : List Piece) (s : PlainRange) → RisesFrom low ps → s.first ≤ s.last → s.last < low
    → list_any (λ p. lies_inside s p.range) (filter test ps) ≡ false
none_above test low [] s rises order h = refl
none_above test low (p ∷ ps) s rises order h =
    let above : low ≤ p.range.first = rises.0 in
    let ordered : p.range.first ≤ p.range.last = rises.1 in
    let rest = none_above test (p.range.last + 1) ps s rises.2 order (omega arith) in
    cond_both (test p) (p ∷ filter test ps) (filter test ps) (λ qs. list_any (λ q. lies_inside s q.range) qs ≡ false)
    (λ e.
    or_from (lies_inside s p.range) (list_any (λ q. lies_inside s q.range) (filter test ps))
    (false_from_ne_true (lies_inside s p.range) (λ t. let b : p.range.first ≤ s.first = (within_of s p.range t).begins in omega arith)) rest)
    (λ e. rest)

-- the piece that a range lies inside is the only one
in_its_piece : (test : Piece → Bool) (low : ℕ) (ps : List Piece) (s : PlainRange) (p : Piece) → RisesFrom low ps → s.first ≤ s.last
    → piece_at ps s.first ≡ Some p → lies_inside s p.range ≡ true → list_any (λ q. lies_inside s q.range) (filter test ps) ≡ test p
in_its_piece test low [] s p rises order e inside = absurd (none-some p e)
in_its_piece test low (q ∷ qs) s p rises order e inside =
    elim (cases_Bool (piece_holds q s.first)) [
      | inl t ↦
          let same : p ≡ q = sym (same_Some q p (sym (piece_at-first q qs s.first t) ∙ e)) in
          let within : lies_inside s q.range ≡ true = subst (λ x. lies_inside s x.range ≡ true) same inside in
          let last : s.last ≤ q.range.last = (within_of s q.range within).ends in
          cond_both (test q) (q ∷ filter test qs) (filter test qs) (λ xs. list_any (λ x. lies_inside s x.range) xs ≡ test q)
          (λ y. or_left (lies_inside s q.range) (list_any (λ x. lies_inside s x.range) (filter test qs)) within ∙ sym y)
          (λ n. none_above test (q.range.last + 1) qs s rises.2 order (omega arith) ∙ sym n)
          ∙ ap test (sym same)
      | inr f ↦
          let rest = in_its_piece test (q.range.last + 1) qs s p rises.2 order (sym (piece_at-rest q qs s.first f) ∙ e) inside in
          let outside : lies_inside s q.range ≡ false =
          false_from_ne_true (lies_inside s q.range) (λ t.
          let w = within_of s q.range t in
          let l : s.last ≤ q.range.last = w.ends in
          both_ways (piece_holds q s.first) f (holds_from q s.first w.begins (omega arith))) in
          cond_both (test q) (q ∷ filter test qs) (filter test qs) (λ xs. list_any (λ x. lies_inside s x.range) xs ≡ test p)
          (λ y. ap (λ b. b || list_any (λ x. lies_inside s x.range) (filter test qs)) outside ∙ rest)
          (λ n. rest)
    ]

-- a range lies inside no piece of another space
in_no_other : (test : Piece → Bool) (space : Space) (ps : List Piece) (s : PlainRange) → AllPiecesOf space ps → same_space s.space space ≡ false
    → list_any (λ p. lies_inside s p.range) (filter test ps) ≡ false
in_no_other test space [] s each f = refl
in_no_other test space (p ∷ ps) s each f =
    let rest = in_no_other test space ps s each.1 f in
    cond_both (test p) (p ∷ filter test ps) (filter test ps) (λ qs. list_any (λ q. lies_inside s q.range) qs ≡ false)
    (λ e.
    or_from (lies_inside s p.range) (list_any (λ q. lies_inside s q.range) (filter test ps))
    (false_from_ne_true (lies_inside s p.range) (λ t.
    both_ways (same_space s.space space) f
    (ap (λ x. same_space x space) ((within_of s p.range t).one_space ∙ each.0.of_space) ∙ same_space-refl space))) rest)
    (λ e. rest)

-- what is known of a sub: it lies inside an allocated piece
record IsSubOf (pool : Partition) (s : PlainRange) : Type 0 where
  piece : Piece
  order : s.first ≤ s.last
  holds_first : piece_of pool (first_number s) ≡ Some piece
  inside : lies_inside s piece.range ≡ true
  is_allocated : is_delegated piece.card.status ≡ true

sub_of : (r : Register) (s : PlainRange × SubCard) → IsRange s.0 × IsSubIn r s → IsSubOf r.pool s.0
sub_of r s h = from_piece (piece_of r.pool (first_number s.0)) refl h.1.inside
  where
    from_piece : (o : Option Piece) → piece_of r.pool (first_number s.0) ≡ o → IsSomeAnd o (λ p. HasRange s.0 p × (p.card.status ≡ Allocated)) → IsSubOf r.pool s.0
    from_piece None e is = absurd is
    from_piece (Some p) e is = record { piece = p; order = h.0.0; holds_first = e; inside = is.0; is_allocated = ap is_delegated is.1 }

is_in : (pool : Partition) (s : PlainRange) → (sub : IsSubOf pool s) → IsIn pool s sub.piece.card
is_in pool s sub = record { piece = sub.piece; holds_first = sub.holds_first; inside = sub.inside; card = refl }

subs_known : (r : Register) → IsWholeRegister r → AllOf (λ s. IsSubOf r.pool s.0) r.subs
subs_known r h =
    all_moved (λ s. IsRange s.0 × IsSubIn r s) (λ s. IsSubOf r.pool s.0) (λ s. false) r.subs (none_at_all r.subs) (λ s e k. sub_of r s k)
    (all_and (λ s. IsRange s.0) (IsSubIn r) r.subs (ranges_of_apart r.subs h.subs_apart) (subs_of_each r r.subs h.subs))

used_by_first : (pool : Partition) (holder : ℕ) (space : Space) (s : PlainRange) → IsPartition pool → IsSubOf pool s
    → lies_in_one (filter (is_allocated_to holder) (pieces_in pool space)) s ≡ is_used pool holder space s
used_by_first pool holder space s h sub =
    elim (cases_Bool (same_space s.space space)) [
      | inl t ↦
          subst (λ u. lies_in_one (filter (is_allocated_to holder) (pieces_in pool u)) s ≡ is_used pool holder u s) (same_space-true s.space space t)
          (in_its_piece (is_allocated_to holder) 0 (pieces_in pool s.space) s sub.piece (h.each s.space).rises sub.order sub.holds_first sub.inside
          ∙ sym (ap (λ b. b && gives_to holder (card_of pool (first_number s))) (same_space-refl s.space)
          ∙ ap (λ o. gives_to holder (option_map (λ p. p.card) o)) sub.holds_first))
      | inr f ↦
          in_no_other (is_allocated_to holder) space (pieces_in pool space) s (h.each space).each f
          ∙ sym (and_left (same_space s.space space) (gives_to holder (card_of pool (first_number s))) f)
    ]

used_is : (r : Register) (holder : ℕ) (space : Space) → IsWholeRegister r → used r holder space ≡ range_sum (is_used r.pool holder space) r.subs
used_is r holder space h =
    let given : List Piece = filter (is_allocated_to holder) (register_pieces r space) in
    range_sum-filter (lies_in_one given) r.subs
    ∙ range_sum-same (lies_in_one given) (is_used r.pool holder space) r.subs
    (all_moved (λ s. IsSubOf r.pool s.0) (λ s. lies_in_one given s.0 ≡ is_used r.pool holder space s.0) (λ s. false) r.subs (none_at_all r.subs)
    (λ s e k. used_by_first r.pool holder space s.0 h.pieces k) (subs_known r h))

-- ---- a cover and the subs

-- what lies inside a delegated piece and meets the range lies inside the range
abbrev IsTakenWhole : Partition → PlainRange → Type 0
IsTakenWhole pool range =
    (s : PlainRange) (d : Card) → s.first ≤ s.last → is_delegated d.status ≡ true → IsIn pool s d → IsMet s range → lies_inside s range ≡ true

taken_free : (pool : Partition) (range : PlainRange) → IsPartition pool → (inside : IsInPiece pool range) → is_delegated inside.piece.card.status ≡ false
    → IsTakenWhole pool range
taken_free pool range h inside free s d order delegated is met =
    let same = same_piece pool s range d h order is met inside in
    absurd (both_ways (is_delegated inside.piece.card.status) free
    (ap (λ p. is_delegated p.card.status) (sym same) ∙ ap (λ x. is_delegated x.status) is.card ∙ delegated))

taken_received : (pool : Partition) (range : PlainRange) → IsPartition pool → IsRange range → overlap (pieces_in pool range.space) range ≡ None
    → IsTakenWhole pool range
taken_received pool range h valid none s d order delegated is met =
    let ps : List Piece = pieces_in pool range.space in
    let free : (x : ℕ) → range.first ≤ x → x ≤ range.last → piece_at ps x ≡ None =
    subst (λ o. IsLeastTaken ps range o) none (overlap_is_least range.space ps range (h.each range.space) valid) in
    let b : s.first ≤ range.last = met.begins in
    let l : range.first ≤ range.last = valid.0 in
    absurd (none-some is.piece (sym (free (max s.first range.first) (omega arith) (omega arith)) ∙ met_number pool s range d h order is met))

taken_by : (r : Register) (request : Request) (day until : ℕ) (start : Option ℕ) (c : Card) → IsPartition r.pool → is_request request ≡ true
    → first_of (early_rules r request) ≡ None → block_may_be r request start ≡ true → card_for r request day until ≡ Some c
    → MatchOption (cover_for r request start) (Unit {0}) (IsTakenWhole r.pool)
taken_by r (Receive range) day until start c h valid early block card =
    let a = or_none (outside_unicast range) _ early in
    let b = or_none (already_pooled r range) None a.1 in
    taken_received r.pool range h (range_valid range valid) (map_none _ (overlap (register_pieces r range.space) range) b.0)
taken_by r (AddHolder holder) day until start c h valid early block card = absurd (none-some c card)
taken_by r (EditHolder holder) day until start c h valid early block card = absurd (none-some c card)
taken_by r (Delegate space amount status handle) day until start c h valid early block card =
    let found = block_of_free r space amount start h block in
    subst (λ s. MatchOption (cover_for r (Delegate space amount status handle) s) (Unit {0}) (IsTakenWhole r.pool)) (sym found.1)
    (taken_free r.pool (range_from space found.0 (amount_size space amount)) h found.2.0 (free_is_kept_back found.2.0.piece.card.status found.2.1))
taken_by r (Reserve range) day until start c h valid early block card =
    let inside = in_one r range (rules_behind (early_rules r (Reserve range))) valid early in
    let a = or_none (outside_pool r range) _ early in
    let b = or_none (not_in_one_piece r range) _ a.1 in
    let k = or_none (wrong_status r (first_number range) is_available) None b.1 in
    taken_free r.pool range h inside
    (free_is_kept_back inside.piece.card.status (right_status r (first_number range) is_available inside.piece k.0 inside.holds_first))
taken_by r (Unreserve range) day until start c h valid early block card =
    λ s d order delegated is met. inside_same r.pool s range d h order is met (all_one r range (rules_behind (early_rules r (Unreserve range))) valid early)
taken_by r (SubAssign range handle) day until start c h valid early block card = absurd (none-some c card)
taken_by r (SubReturn range) day until start c h valid early block card = absurd (none-some c card)
taken_by r (Return range handle) day until start c h valid early block card =
    λ s d order delegated is met. inside_same r.pool s range d h order is met (all_one r range (rules_behind (early_rules r (Return range handle))) valid early)
taken_by r (Release range) day until start c h valid early block card =
    λ s d order delegated is met. inside_same r.pool s range d h order is met (all_one r range (rules_behind (early_rules r (Release range))) valid early)
taken_by r (Split at) day until start c h valid early block card = absurd (none-some c card)
taken_by r (Join at) day until start c h valid early block card = absurd (none-some c card)
taken_by r (Transfer range from to) day until start c h valid early block card =
    λ s d order delegated is met. inside_same r.pool s range d h order is met (all_one r range (rules_behind (early_rules r (Transfer range from to))) valid early)
taken_by r (SetReverse range servers) day until start c h valid early block card = absurd (none-some c card)
taken_by r (ClearReverse range) day until start c h valid early block card = absurd (none-some c card)

-- an entry that paints leaves the subs as they are
subs_left : (r : Register) (request : Request) (day until : ℕ) (c : Card) → card_for r request day until ≡ Some c
    → subs_after request day r.holders r.subs ≡ r.subs
subs_left r (SubAssign range handle) day until c card = absurd (none-some c card)
subs_left r (SubReturn range) day until c card = absurd (none-some c card)
subs_left r request day until c card = refl

-- all numbers of a cover have one card, or none of them has one
one_card : (pool : Partition) (range : PlainRange) (x : ℕ) → IsPartition pool → IsRange range
    → (first_met (pieces_in pool range.space) range ≡ None) ⊎ IsInPiece pool range → range.first ≤ x → x ≤ range.last
    → card_at (pieces_in pool range.space) x ≡ card_at (pieces_in pool range.space) range.first
one_card pool range x h valid (inl none) first last =
    let ps : List Piece = pieces_in pool range.space in
    let free : IsLeastTaken ps range None =
    subst (IsLeastTaken ps range) (ap (option_map (λ p. max range.first p.range.first)) none) (overlap_is_least range.space ps range (h.each range.space) valid) in
    ap (option_map (λ p. p.card)) (free x first last ∙ sym (free range.first (omega arith) valid.0))
one_card pool range x h valid (inr inside) first last =
    let reach : range.last ≤ inside.piece.range.last = inside.last in
    ap (option_map (λ p. p.card))
    (held_through 0 (pieces_in pool range.space) range.first x inside.piece (h.each range.space).rises inside.holds_first first (omega arith)
    ∙ sym inside.holds_first)

-- ---- what is painted

-- what is known of an entry that paints
record IsPaintedOver (r : Register) (e : PlainEntry) (range : PlainRange) (c : Card) : Type 0 where
  valid : IsRange range
  one_before : (x : ℕ) → range.first ≤ x → x ≤ range.last → card_at (pieces_in r.pool range.space) x ≡ card_of r.pool (first_number range)
  whole : IsTakenWhole r.pool range
  cards : (n : PlainNumber) → card_of (after_entry r e).pool n ≡ option_or (cond (range_holds range n) (Some c) None) (card_of r.pool n)
  same_subs : (after_entry r e).subs ≡ r.subs

painted_over : (r : Register) (e : PlainEntry) (range : PlainRange) (c : Card) → IsWholeRegister r → IsNextEntry r e → e.cover ≡ Some range → e.card ≡ Some c
    → IsPaintedOver r e range c
painted_over r e range c h next cover card =
    let facts = next_facts r e next in
    let is = next_painting r e c h.pieces next card in
    let same : is.range ≡ range = same_Some is.range range (sym is.covers ∙ cover) in
    let valid : IsRange range = subst IsRange same is.valid in
    let place : (first_met (pieces_in r.pool range.space) range ≡ None) ⊎ IsInPiece r.pool range =
    subst (λ s. (first_met (pieces_in r.pool s.space) s ≡ None) ⊎ IsInPiece r.pool s) same is.place in
    let own : card_for r e.request e.day (until_of e.card) ≡ Some c = sym facts.card ∙ card in
    record {
      valid = valid;
      one_before = λ x first last. one_card r.pool range x h.pieces valid place first last;
      whole =
          subst (λ o. MatchOption o (Unit {0}) (IsTakenWhole r.pool)) (sym facts.cover ∙ cover)
          (taken_by r e.request e.day (until_of e.card) (start_of e.cover) c h.pieces facts.valid facts.early facts.block own);
      cards = λ n.
          next_cards r e n h next
          ∙ ap (λ x. option_or (cond (covers x n) e.card None) (card_of r.pool n)) cover
          ∙ ap (λ y. option_or (cond (range_holds range n) y None) (card_of r.pool n)) card;
      same_subs = subs_left r e.request e.day (until_of e.card) c own;
    }

holds_parts : (range : PlainRange) (n : PlainNumber) → range_holds range n ≡ true → (range.space ≡ n.space) × (range.first ≤ n.value) × (n.value ≤ range.last)
holds_parts range n e =
    let outer = and_parts (same_space range.space n.space && nat_le range.first n.value) (nat_le n.value range.last) e in
    let inner = and_parts (same_space range.space n.space) (nat_le range.first n.value) outer.0 in
    (same_space-true range.space n.space inner.0, leb-true range.first n.value inner.1, leb-true n.value range.last outer.1)

-- a sub inside the cover had the cover's card and has the new one, and each other sub has the card that it had
sub_moved : (r : Register) (e : PlainEntry) (range : PlainRange) (c : Card) (holder : ℕ) (space : Space) (s : PlainRange) → IsPaintedOver r e range c
    → IsSubOf r.pool s
    → IsMoved (lies_inside s range) (is_used (after_entry r e).pool holder space s) (is_used r.pool holder space s)
    (same_space range.space space && gives_allocated holder c) (same_space range.space space && gives_to holder (card_of r.pool (first_number range)))
sub_moved r e range c holder space s is sub =
    let n : PlainNumber = first_number s in
    let old_card : Option Card = card_of r.pool n in
    let new_card : Option Card = card_of (after_entry r e).pool n in
    let order : s.first ≤ s.last = sub.order in
    let given : Option Card → Bool = λ o. same_space s.space space && gives_to holder o in
    record {
      outside = λ f.
          let unheld : range_holds range n ≡ false =
          false_from_ne_true (range_holds range n) (λ t.
          let parts = holds_parts range n t in
          let first : range.first ≤ s.first = parts.1 in
          both_ways (lies_inside s range) f
          (is.whole s sub.piece.card order sub.is_allocated (is_in r.pool s sub) (record { one_space = sym parts.0; ends = omega arith; begins = parts.2 }))) in
          ap given (is.cards n ∙ ap (λ b. option_or (cond b (Some c) None) old_card) unheld);
      new = λ t.
          let w = within_of s range t in
          let last : s.last ≤ range.last = w.ends in
          let held : range_holds range n ≡ true =
          and_from (same_space range.space s.space && nat_le range.first s.first) (nat_le s.first range.last)
          (and_from (same_space range.space s.space) (nat_le range.first s.first)
          (ap (same_space range.space) w.one_space ∙ same_space-refl range.space) (le-leb range.first s.first w.begins))
          (le-leb s.first range.last (omega arith)) in
          ap given (is.cards n ∙ ap (λ b. option_or (cond b (Some c) None) old_card) held)
          ∙ ap (λ u. same_space u space && gives_allocated holder c) w.one_space;
      old = λ t.
          let w = within_of s range t in
          let last : s.last ≤ range.last = w.ends in
          ap (λ u. same_space u space && gives_to holder (card_at (pieces_in r.pool u) s.first)) w.one_space
          ∙ ap (λ o. same_space range.space space && gives_to holder o) (is.one_before s.first w.begins (omega arith));
    }

subs_moved : (r : Register) (e : PlainEntry) (range : PlainRange) (c : Card) (holder : ℕ) (space : Space) → IsWholeRegister r → IsPaintedOver r e range c
    → AllOf (λ s. IsMoved (lies_inside s.0 range) (is_used (after_entry r e).pool holder space s.0) (is_used r.pool holder space s.0)
    (same_space range.space space && gives_allocated holder c) (same_space range.space space && gives_to holder (card_of r.pool (first_number range)))) r.subs
subs_moved r e range c holder space h is =
    all_moved (λ s. IsSubOf r.pool s.0) (λ s. IsMoved (lies_inside s.0 range) (is_used (after_entry r e).pool holder space s.0) (is_used r.pool holder space s.0)
    (same_space range.space space && gives_allocated holder c) (same_space range.space space && gives_to holder (card_of r.pool (first_number range))))
    (λ s. false) r.subs (none_at_all r.subs) (λ s t k. sub_moved r e range c holder space s.0 is k) (subs_known r h)

pub nothing_given : (b : Bool) (n : ℕ) → 0 ≡ share (b && false) n
nothing_given true n = refl
nothing_given false n = refl

used_by_is : (subs : List (PlainRange × SubCard)) (holder : ℕ) (space : Space) (range : PlainRange) (o : Option Card)
    → used_by subs holder space range o ≡ share (same_space range.space space && gives_to holder o) (range_sum (λ s. lies_inside s range) subs)
used_by_is subs holder space range None = nothing_given (same_space range.space space) (range_sum (λ s. lies_inside s range) subs)
used_by_is subs holder space range (Some c) =
    ap (share (same_space range.space space && gives_allocated holder c)) (range_sum-filter (λ s. lies_inside s range) subs)

allocated_by_is : (holder : ℕ) (space : Space) (range : PlainRange) (o : Option Card)
    → allocated_by holder space range o ≡ share (same_space range.space space && gives_to holder o) (size_of range)
allocated_by_is holder space range None = nothing_given (same_space range.space space) (size_of range)
allocated_by_is holder space range (Some c) = refl

moved_by : (a b c d x y z w : ℕ) → a ≡ x → b ≡ y → c ≡ z → d ≡ w → x + z ≡ y + w → a + c ≡ b + d
moved_by a b c d x y z w e f g h k = omega arith

-- the register after an entry: the cards are the new ones, of these subs
used_after : (r : Register) (e : PlainEntry) (holder : ℕ) (space : Space) (subs : List (PlainRange × SubCard)) → IsWholeRegister r → IsNextEntry r e
    → (after_entry r e).subs ≡ subs → used (after_entry r e) holder space ≡ range_sum (is_used (after_entry r e).pool holder space) subs
used_after r e holder space subs h next same =
    used_is (after_entry r e) holder space (next_whole r e h next) ∙ ap (range_sum (is_used (after_entry r e).pool holder space)) same

pub use_painted : (r : Register) (e : PlainEntry) (range : PlainRange) (c : Card) (holder : ℕ) (space : Space)
    → IsWholeRegister r → IsNextEntry r e → e.cover ≡ Some range → e.card ≡ Some c
    → used (after_entry r e) holder space + used_by r.subs holder space range (card_of r.pool (first_number range))
    ≡ used r holder space + used_by_card r.subs holder space range c
use_painted r e range c holder space h next cover card =
    let is = painted_over r e range c h next cover card in
    let old : Option Card = card_of r.pool (first_number range) in
    let inside : PlainRange → Bool = λ s. lies_inside s range in
    let a : Bool = same_space range.space space && gives_allocated holder c in
    let b : Bool = same_space range.space space && gives_to holder old in
    moved_by (used (after_entry r e) holder space) (used r holder space) (used_by r.subs holder space range old) (used_by_card r.subs holder space range c)
    (range_sum (is_used (after_entry r e).pool holder space) r.subs) (range_sum (is_used r.pool holder space) r.subs)
    (share b (range_sum inside r.subs)) (share a (range_sum inside r.subs))
    (used_after r e holder space r.subs h next is.same_subs) (used_is r holder space h) (used_by_is r.subs holder space range old)
    (used_by_is r.subs holder space range (Some c))
    (range_sum-moved inside (is_used (after_entry r e).pool holder space) (is_used r.pool holder space) a b r.subs (subs_moved r e range c holder space h is))

pub use_there : (r : Register) (e : PlainEntry) (range : PlainRange) (c : Card) (holder : ℕ) (space : Space)
    → IsWholeRegister r → IsNextEntry r e → e.cover ≡ Some range → e.card ≡ Some c
    → used_by r.subs holder space range (card_of r.pool (first_number range)) ≤ used r holder space
use_there r e range c holder space h next cover card =
    let is = painted_over r e range c h next cover card in
    let old : Option Card = card_of r.pool (first_number range) in
    let inside : PlainRange → Bool = λ s. lies_inside s range in
    let a : Bool = same_space range.space space && gives_allocated holder c in
    let b : Bool = same_space range.space space && gives_to holder old in
    no_more (used_by r.subs holder space range old) (used r holder space) (share b (range_sum inside r.subs)) (range_sum (is_used r.pool holder space) r.subs)
    (used_by_is r.subs holder space range old) (used_is r holder space h)
    (range_sum-part inside (is_used (after_entry r e).pool holder space) (is_used r.pool holder space) a b r.subs (subs_moved r e range c holder space h is))
  where
    no_more : (a b x y : ℕ) → a ≡ x → b ≡ y → x ≤ y → a ≤ b
    no_more a b x y e f g = omega arith

-- ---- what isn't painted

cards_left : (r : Register) (e : PlainEntry) (n : PlainNumber) → IsWholeRegister r → IsNextEntry r e → e.card ≡ None
    → card_of (after_entry r e).pool n ≡ card_of r.pool n
cards_left r e n h next card =
    next_cards r e n h next
    ∙ ap (λ y. option_or (cond (covers e.cover n) y None) (card_of r.pool n)) card
    ∙ sym (no_card (covers e.cover n) (card_of r.pool n))

any_of : {T : Type 0} (P : PlainRange → Type 0) (ss : List (PlainRange × T)) → ((s : PlainRange) → P s) → AllOf (λ s. P s.0) ss
any_of P [] h = tt
any_of P (s ∷ ss) h = (h s.0, any_of P ss h)

-- the register after an entry that paints nothing: the cards are the old ones
used_unpainted : (r : Register) (e : PlainEntry) (holder : ℕ) (space : Space) (subs : List (PlainRange × SubCard)) → IsWholeRegister r → IsNextEntry r e
    → e.card ≡ None → (after_entry r e).subs ≡ subs → used (after_entry r e) holder space ≡ range_sum (is_used r.pool holder space) subs
used_unpainted r e holder space subs h next card same =
    used_after r e holder space subs h next same
    ∙ range_sum-same (is_used (after_entry r e).pool holder space) (is_used r.pool holder space) subs
    (any_of (λ s. is_used (after_entry r e).pool holder space s ≡ is_used r.pool holder space s) subs
    (λ s. ap (λ o. same_space s.space space && gives_to holder o) (cards_left r e (first_number s) h next card)))

pub use_kept : (r : Register) (e : PlainEntry) (holder : ℕ) (space : Space) → IsWholeRegister r → IsNextEntry r e → e.card ≡ None
    → (after_entry r e).subs ≡ r.subs → used (after_entry r e) holder space ≡ used r holder space
use_kept r e holder space h next card same = used_unpainted r e holder space r.subs h next card same ∙ sym (used_is r holder space h)

-- ---- subs

-- a request that paints no card
no_card_of : (r : Register) (e : PlainEntry) (request : Request) → IsNextEntry r e → e.request ≡ request
    → ((day until : ℕ) → card_for r request day until ≡ None) → e.card ≡ None
no_card_of r e request next is none =
    (next_facts r e next).card ∙ ap (λ q. card_for r q e.day (until_of e.card)) is ∙ none e.day (until_of e.card)

known_holder : (o : Option ℕ) → is_some o ≡ true → (n : ℕ) × (o ≡ Some n)
known_holder None e = absurd (both_ways false refl e)
known_holder (Some n) e = (n, refl)

none_same : {T : Type 0} (range : PlainRange) (ss : List (PlainRange × T)) → IsRange range → NoneIs (λ s. ranges_meet s.0 range) ss
    → NoneIs (λ s. same_range s.0 range) ss
none_same range [] valid h = tt
none_same range (s ∷ ss) valid h = (
  false_from_ne_true (same_range s.0 range) (λ t.
      both_ways (ranges_meet s.0 range) h.0 (ap (λ x. ranges_meet x range) (same_range-true s.0 range t) ∙ meets_itself range valid.0)),
  none_same range ss valid h.1,
)
  where
    meets_itself : (range : PlainRange) → range.first ≤ range.last → ranges_meet range range ≡ true
    meets_itself range order =
        and_from (same_space range.space range.space && nat_le range.first range.last) (nat_le range.first range.last)
        (and_from (same_space range.space range.space) (nat_le range.first range.last) (same_space-refl range.space) (le-leb range.first range.last order))
        (le-leb range.first range.last order)

-- what the rules say of a sub that is assigned
record IsNewSub (r : Register) (range : PlainRange) (handle : List ℕ) : Type 0 where
  holder : ℕ
  number : holder_number r.holders handle ≡ Some holder
  nowhere : NoneIs (λ s. same_range s.0 range) r.subs

new_sub : (r : Register) (range : PlainRange) (handle : List ℕ) → is_request (SubAssign range handle) ≡ true
    → first_of (early_rules r (SubAssign range handle)) ≡ None → IsNewSub r range handle
new_sub r range handle valid early =
    let a = or_none (outside_pool r range) _ early in
    let b = or_none (not_in_one_piece r range) _ a.1 in
    let c = or_none (wrong_status r (first_number range) (is_status Allocated)) _ b.1 in
    let d = or_none (unknown_holder r handle) _ c.1 in
    let e = or_none (meets_sub r range) None d.1 in
    let known = known_holder (holder_number r.holders handle) (allowed_if (is_some (holder_number r.holders handle)) (UnknownHolder handle) d.0) in
    let met : first_meeting r.subs range ≡ None =
    map_none (λ s. first_common range s.0) (first_meeting r.subs range)
    (map_none (λ n. Overlap (record { space = range.space; value = n })) (option_map (λ s. first_common range s.0) (first_meeting r.subs range)) e.0) in
    record {
      holder = known.0;
      number = known.1;
      nowhere = none_same range r.subs (range_valid range valid) (none_found (λ s. ranges_meet s.0 range) r.subs met);
    }

pub use_assigned : (r : Register) (e : PlainEntry) (range : PlainRange) (handle : List ℕ) (holder : ℕ) (space : Space)
    → IsWholeRegister r → IsNextEntry r e → e.request ≡ SubAssign range handle
    → used (after_entry r e) holder space ≡ used r holder space + allocated_by holder space range (card_of r.pool (first_number range))
use_assigned r e range handle holder space h next is =
    let facts = next_facts r e next in
    let card : e.card ≡ None = no_card_of r e (SubAssign range handle) next is (λ day until. refl) in
    let new = new_sub r range handle (subst (λ q. is_request q ≡ true) is facts.valid) (subst (λ q. first_of (early_rules r q) ≡ None) is facts.early) in
    let sub : SubCard = record { holder = new.holder; day = e.day } in
    let subs : (after_entry r e).subs ≡ with_range r.subs range sub =
    ap (λ q. subs_after q e.day r.holders r.subs) is ∙ ap (with_sub r.subs range e.day) new.number in
    added (used (after_entry r e) holder space) (range_sum (is_used r.pool holder space) (with_range r.subs range sub))
    (range_sum (is_used r.pool holder space) r.subs) (share (is_used r.pool holder space range) (size_of range))
    (used r holder space) (allocated_by holder space range (card_of r.pool (first_number range)))
    (used_unpainted r e holder space (with_range r.subs range sub) h next card subs)
    (range_sum-with (is_used r.pool holder space) r.subs range sub new.nowhere)
    (used_is r holder space h)
    (allocated_by_is holder space range (card_of r.pool (first_number range)))
  where
    added : (a b c d x y : ℕ) → a ≡ b → b ≡ c + d → x ≡ c → y ≡ d → a ≡ x + y
    added a b c d x y e f g h = omega arith

pub use_returned : (r : Register) (e : PlainEntry) (range : PlainRange) (holder : ℕ) (space : Space)
    → IsWholeRegister r → IsNextEntry r e → e.request ≡ SubReturn range
    → used (after_entry r e) holder space + allocated_by holder space range (card_of r.pool (first_number range)) ≡ used r holder space
use_returned r e range holder space h next is =
    let facts = next_facts r e next in
    let card : e.card ≡ None = no_card_of r e (SubReturn range) next is (λ day until. refl) in
    let early : first_of (early_rules r (SubReturn range)) ≡ None = subst (λ q. first_of (early_rules r q) ≡ None) is facts.early in
    let there : is_some (value_of_range r.subs range) ≡ true = allowed_if (is_some (value_of_range r.subs range)) NoSub (or_none (no_sub r range) None early).0 in
    let subs : (after_entry r e).subs ≡ without_range r.subs range = ap (λ q. subs_after q e.day r.holders r.subs) is in
    taken (used (after_entry r e) holder space) (range_sum (is_used r.pool holder space) (without_range r.subs range))
    (range_sum (is_used r.pool holder space) r.subs) (share (is_used r.pool holder space range) (size_of range))
    (used r holder space) (allocated_by holder space range (card_of r.pool (first_number range)))
    (used_unpainted r e holder space (without_range r.subs range) h next card subs)
    (range_sum-without (is_used r.pool holder space) r.subs range h.subs_apart there)
    (used_is r holder space h)
    (allocated_by_is holder space range (card_of r.pool (first_number range)))
  where
    taken : (a b c d x y : ℕ) → a ≡ b → b + d ≡ c → x ≡ c → y ≡ d → a + y ≡ x
    taken a b c d x y e f g h = omega arith

pub returned_there : (r : Register) (e : PlainEntry) (range : PlainRange) (holder : ℕ) (space : Space)
    → IsWholeRegister r → IsNextEntry r e → e.request ≡ SubReturn range
    → allocated_by holder space range (card_of r.pool (first_number range)) ≤ used r holder space
returned_there r e range holder space h next is =
    part (used (after_entry r e) holder space) (allocated_by holder space range (card_of r.pool (first_number range))) (used r holder space)
    (use_returned r e range holder space h next is)
  where
    part : (a b c : ℕ) → a + b ≡ c → b ≤ c
    part a b c e = omega arith

-- ---- bounds

pub used_within : (r : Register) (holder : ℕ) (space : Space) → IsWholeRegister r → used r holder space ≤ allocated r holder space
used_within r holder space h =
    let given : List Piece = filter (is_allocated_to holder) (register_pieces r space) in
    subst (λ n. n ≤ allocated r holder space) (sym (range_sum-filter (lies_in_one given) r.subs)) (sum_in_pieces given r.subs h.subs_apart)
