-- Each entry that may come next keeps the pool, its cards and its numbers.
use Rattle.std.proofs.Common.{◌≡◌, ℕ, ◌+◌, ◌-◌, ◌%◌, ◌^◌, ◌<◌, ◌≤◌, max, Bool, true, false, cond, ◌&&◌, ◌||◌, ◌==◌, nat_lt, nat_le, inl, inr, List, [], ◌∷◌, Option, None, Some, refl, sym, ◌∙◌, ap, subst, arith}
use Rattle.std.specs.Option.{is_some, option_or, option_map, option_map_or}
use Rattle.std.specs.List.{list_any, cons_option}
use Rattle.std.proofs.lemmas.Bool.{cond-true, cond-false, cases_Bool, both_ways, and_parts, eqb-true, eqb-false, ltb-false, ltb-true}
use Rattle.std.proofs.lemmas.Option.{none-some}
use Rattle.num_range.specs.declared.space.Space.{Space}
use Rattle.num_range.specs.declared.space.Space.TheVariants.{Asn, Ipv4, Ipv6}
use Rattle.num_range.specs.Space.{top_of}
use Rattle.num_range.specs.Number.{PlainNumber}
use Rattle.num_range.specs.Range.{PlainRange, range_holds}
use Rattle.reg_entry.specs.declared.card.Card.{Card}
use Rattle.reg_entry.specs.declared.card.Status.{Status}
use Rattle.reg_entry.specs.declared.card.Status.TheVariants.{Available, Reserved, Quarantine, Allocated, Assigned}
use Rattle.reg_entry.specs.declared.piece.Piece.{Piece}
use Rattle.reg_entry.specs.declared.refusal.Refusal.{Refusal}
use Rattle.reg_entry.specs.declared.refusal.Refusal.TheVariants.{OutsidePool, NotOnePiece, CardsDiffer}
use Rattle.reg_entry.specs.declared.request.Delegation.{Delegation}
use Rattle.reg_entry.specs.declared.request.Delegation.TheVariants.{Allocate, Assign}
use Rattle.reg_entry.specs.declared.request.Request.{Request}
use Rattle.reg_entry.specs.declared.request.Request.TheVariants.{Receive, AddHolder, EditHolder, Delegate, Reserve, Unreserve, SubAssign, SubReturn, Return, Release, Split, Join, Transfer, SetReverse, ClearReverse}
use Rattle.reg_entry.specs.Entry.{PlainEntry}
use Rattle.reg_entry.specs.Card.{is_available, is_delegated, plain_card, same_card}
use Rattle.reg_entry.specs.Request.{status_of, amount_size, has_size, is_range, is_request}
use Rattle.reg_entry.specs.Blocks.{alignment}
use Rattle.reg_entry.specs.Pieces.{card_at, size_sum, overlap, IsCard, ArePieces}
use Rattle.reg_entry.specs.Partition.{Partition, pieces_in, IsPartition, empty_partition}
use Rattle.reg_entry.specs.Ranges.{space_rank}
use Rattle.reg_entry.specs.Entries.{covers, painted_card, last_card, received, received_size, received_range, is_received, size_within}
use Rattle.reg_entry.specs.Holders.{holder_number}
use Rattle.reg_entry.specs.Reshaping.{split_at_number, joined_at}
use Rattle.reg_entry.specs.Register.{Register, register_pieces, piece_of, card_of, pool_after, after_entry, after_entries, register_after, empty_register}
use Rattle.reg_entry.specs.Covers.{first_number, number_before, range_from, cover_for, card_for, holder_card, kept_card}
use Rattle.reg_entry.specs.Decision.{first_of, outside_unicast, least_outside_unicast, least_unpooled, already_pooled, outside_pool, number_outside_pool, begins_space, begins_no_piece, not_in_one_piece, not_one_piece, wrong_status, cards_differ, early_rules}
use Rattle.reg_entry.specs.Next.{start_of, until_of, block_may_be, is_free_block, has_free, IsNextEntry, IsLegalFrom, IsLegal}
use Rattle.reg_entry.specs.declared.rooms.Rooms.{Rooms}
use Rattle.reg_entry.specs.Reshaping.{IsFixedAt, CanJoinAt}
use Rattle.reg_laws.proofs.Sameness.{same_card-true}
use Rattle.reg_laws.proofs.Accepting.{or_none, refuse_if_none, map_none, range_valid}
use Rattle.reg_entry.proofs.Reshaped.{card_at-split, size_sum-split, split_keeps, card_at-joined_at, size_sum-joined_at, join_keeps}
use Rattle.reg_laws.proofs.NextFacts.{next_facts, inside_one, exactly_one, one_is_inside, right_status, number_in_pool, allowed_if, on_the_piece, IsInPiece, IsOnePiece, free_piece}
use Rattle.reg_laws.proofs.Painted.{IsConserved, unchanged, rearranged, painted_inside, received_conserves}

-- ---- cards

pub plain_is_card : IsCard plain_card
plain_is_card e = refl

pub delegated_is_card : (status : Delegation) (holder : Option ℕ) (day until : ℕ) → IsCard (holder_card (status_of status) holder day until)
delegated_is_card Allocate holder day until e = absurd (both_ways false refl e)
delegated_is_card Assign holder day until e = absurd (both_ways false refl e)

pub not_available : (s : Status) → is_delegated s ≡ true → is_available s ≡ false
not_available Available e = absurd (both_ways false refl e)
not_available Reserved e = absurd (both_ways false refl e)
not_available Quarantine e = absurd (both_ways false refl e)
not_available Allocated e = refl
not_available Assigned e = refl

pub transferred_is_card : (s : Status) (holder : Option ℕ) (day until : ℕ) → is_delegated s ≡ true → IsCard (holder_card s holder day until)
transferred_is_card s holder day until d e = absurd (both_ways (is_available s) (not_available s d) e)

pub kept_is_card : (s : Status) (day until : ℕ) → is_available s ≡ false → IsCard (kept_card s day until)
kept_is_card s day until n e = absurd (both_ways (is_available s) n e)

-- ---- receiving

unicast_bounds : (range : PlainRange) → least_unpooled range ≡ None → (2 ^ 125 ≤ range.first) × (range.last < 2 ^ 126)
unicast_bounds range e =
    elim (cases_Bool (nat_lt range.first (2 ^ 125))) [
      | inl t ↦ absurd (none-some range.first (sym e ∙ cond-true (nat_lt range.first (2 ^ 125)) (Some range.first) (cond (nat_lt range.last (2 ^ 126)) None (Some (max range.first (2 ^ 126)))) t))
      | inr f ↦
          let rest : cond (nat_lt range.last (2 ^ 126)) None (Some (max range.first (2 ^ 126))) ≡ None =
          sym (cond-false (nat_lt range.first (2 ^ 125)) (Some range.first) (cond (nat_lt range.last (2 ^ 126)) None (Some (max range.first (2 ^ 126)))) f) ∙ e in
          elim (cases_Bool (nat_lt range.last (2 ^ 126))) [
            | inl t ↦ (ltb-false range.first (2 ^ 125) f, ltb-true range.last (2 ^ 126) t)
            | inr g ↦ absurd (none-some (max range.first (2 ^ 126)) (sym rest ∙ cond-false (nat_lt range.last (2 ^ 126)) None (Some (max range.first (2 ^ 126))) g))
          ]
    ]

pub pool_range : (space : Space) (range : PlainRange) → least_outside_unicast space range ≡ None → space ≡ Ipv6 → (2 ^ 125 ≤ range.first) × (range.last < 2 ^ 126)
pool_range Asn range e is = absurd (let n : 0 ≡ 2 = ap space_rank is in omega arith)
pool_range Ipv4 range e is = absurd (let n : 1 ≡ 2 = ap space_rank is in omega arith)
pool_range Ipv6 range e is = unicast_bounds range e

-- ---- a delegated block

pub block_inside : (r : Register) (space : Space) (amount : ℕ) (start : Option ℕ) → IsPartition r.pool
    → (has_size space amount && option_map_or (is_free_block (register_pieces r space) space (amount_size space amount)) start false) ≡ true
    → (x : ℕ) × (start ≡ Some x) × IsInPiece r.pool (range_from space x (amount_size space amount))
block_inside r space amount None h e = absurd (both_ways false refl (and_parts (has_size space amount) false e).1)
block_inside r space amount (Some x) h e =
    let size : ℕ = amount_size space amount in
    let ps : List Piece = register_pieces r space in
    let free = (and_parts (has_size space amount) (is_free_block ps space size x) e).1 in
    let any = (and_parts ((x % alignment space size == 0) && nat_le (x + (size - 1)) (top_of space)) (list_any (has_free x (x + (size - 1))) ps) free).1 in
    let found = free_piece 0 ps x (x + (size - 1)) (h.each space).rises any in
    (x, refl, record { piece = found.piece; order = omega arith; holds_first = found.holds_first; last = found.reaches })

-- ---- the entries

-- what was to be shown of the entry, from what was shown of the cover and the card that are its own
pub moved : (pool : Partition) (request : Request) (cover cover₁ : Option PlainRange) (card card₁ : Option Card) → cover₁ ≡ cover → card₁ ≡ card
    → IsConserved pool request cover card → IsConserved pool request cover₁ card₁
moved pool request cover cover₁ card card₁ e f h =
    subst (λ x. IsConserved pool request x card₁) (sym e) (subst (λ x. IsConserved pool request cover x) (sym f) h)

-- the rules behind the first two
abbrev pub rules_behind : List (Option Refusal) → List (Option Refusal)
rules_behind (a ∷ b ∷ rules) = rules
rules_behind rules = []

-- what the rules of a request say of its range
pub in_one : (r : Register) (range : PlainRange) (rest : List (Option Refusal)) → is_range range ≡ true
    → first_of (outside_pool r range ∷ not_in_one_piece r range ∷ rest) ≡ None → IsInPiece r.pool range
in_one r range rest valid e =
    let a = or_none (outside_pool r range) (first_of (not_in_one_piece r range ∷ rest)) e in
    inside_one r range valid a.0 (or_none (not_in_one_piece r range) (first_of rest) a.1).0

pub all_one : (r : Register) (range : PlainRange) (rest : List (Option Refusal)) → is_range range ≡ true
    → first_of (outside_pool r range ∷ not_one_piece r range ∷ rest) ≡ None → IsOnePiece r.pool range
all_one r range rest valid e =
    let a = or_none (outside_pool r range) (first_of (not_one_piece r range ∷ rest)) e in
    exactly_one r range valid a.0 (or_none (not_one_piece r range) (first_of rest) a.1).0

-- a split or joined piece is delegated
fixed_at : (r : Register) (n : PlainNumber) → wrong_status r n is_delegated ≡ None → IsFixedAt (pieces_in r.pool n.space) n.value
fixed_at r n e p is = not_available p.card.status (right_status r n is_delegated p e is)

split_conserves : (r : Register) (at : PlainNumber) (cover : Option PlainRange) → IsPartition r.pool → first_of (early_rules r (Split at)) ≡ None
    → IsConserved r.pool (Split at) cover None
split_conserves r at cover h early =
    let a = or_none (number_outside_pool r at) _ early in
    let b = or_none _ (first_of (wrong_status r at is_delegated ∷ [])) a.1 in
    let c = or_none (wrong_status r at is_delegated) None b.1 in
    let ps : List Piece = pieces_in r.pool at.space in
    let all = h.each at.space in
    rearranged r.pool (Split at) cover at.space (split_at_number ps at.value) h (painted_nothing cover) refl
    (split_keeps at.space ps at.value all (fixed_at r at c.0))
    (λ x. card_at-split 0 ps at.value x all.rises) (size_sum-split 0 ps at.value all.rises)
  where
    painted_nothing : (cover : Option PlainRange) → pool_after (Split at) cover None r.pool ≡ pool_after (Split at) None None r.pool
    painted_nothing None = refl
    painted_nothing (Some range) = refl

-- what the rules of a Join say of its number
pub can_be_joined : (r : Register) (at : PlainNumber) → first_of (early_rules r (Join at)) ≡ None → CanJoinAt (pieces_in r.pool at.space) at.value
can_be_joined r at early =
    let a = or_none (begins_space at) _ early in
    let b = or_none (number_outside_pool r at) _ a.1 in
    let c = or_none (number_outside_pool r (number_before at)) _ b.1 in
    let d = or_none (begins_no_piece r at) _ c.1 in
    let e = or_none (wrong_status r at is_delegated) _ d.1 in
    let f = or_none (cards_differ r at) None e.1 in
    let left = number_in_pool r (number_before at) c.0 in
    let right = number_in_pool r at b.0 in
    let nonzero : at.value ≡ 0 → ⊥ = eqb-false at.value 0 (refuse_if_none (at.value == 0) (OutsidePool at) a.0) in
    let begins = allowed_if (right.0.range.first == at.value) (NotOnePiece right.0.range) (on_the_piece _ (piece_of r.pool at) right.0 d.0 right.1) in
    let fixed = not_available right.0.card.status (right_status r at is_delegated right.0 e.0 right.1) in
    let differ = on_the_piece _ (piece_of r.pool (number_before at)) left.0 f.0 left.1 in
    let same = allowed_if (same_card left.0.card right.0.card) (CardsDiffer left.0.range) (on_the_piece _ (piece_of r.pool at) right.0 differ right.1) in
    record {
      left = left.0;
      right = right.0;
      positive = positive at.value nonzero;
      holds_before = left.1;
      holds_at = right.1;
      begins = eqb-true right.0.range.first at.value begins;
      one_card = same_card-true left.0.card right.0.card same;
      fixed = fixed;
    }
  where
    positive : (n : ℕ) → (n ≡ 0 → ⊥) → 0 < n
    positive n h = omega arith

join_conserves : (r : Register) (at : PlainNumber) (cover : Option PlainRange) → IsPartition r.pool → first_of (early_rules r (Join at)) ≡ None
    → IsConserved r.pool (Join at) cover None
join_conserves r at cover h early =
    let ps : List Piece = pieces_in r.pool at.space in
    let all = h.each at.space in
    let can = can_be_joined r at early in
    rearranged r.pool (Join at) cover at.space (joined_at ps at.value) h (painted_nothing cover) refl
    (join_keeps at.space ps at.value all can)
    (λ x. card_at-joined_at at.space ps at.value x all can) (size_sum-joined_at at.space ps at.value all can)
  where
    painted_nothing : (cover : Option PlainRange) → pool_after (Join at) cover None r.pool ≡ pool_after (Join at) None None r.pool
    painted_nothing None = refl
    painted_nothing (Some range) = refl

-- each entry that may come next keeps the pool, its cards and its numbers
pub by_request : (r : Register) (request : Request) (day until : ℕ) (start : Option ℕ) → IsPartition r.pool → is_request request ≡ true
    → first_of (early_rules r request) ≡ None → block_may_be r request start ≡ true
    → IsConserved r.pool request (cover_for r request start) (card_for r request day until)
by_request r (Receive range) day until start h valid early block =
    let a = or_none (outside_unicast range) _ early in
    let b = or_none (already_pooled r range) None a.1 in
    received_conserves r.pool (Receive range) range plain_card h refl refl (range_valid range valid)
    (pool_range range.space range (map_none _ (least_outside_unicast range.space range) a.0)) plain_is_card
    (map_none _ (overlap (register_pieces r range.space) range) b.0)
by_request r (AddHolder holder) day until start h valid early block = unchanged r.pool (AddHolder holder) None h refl refl
by_request r (EditHolder holder) day until start h valid early block = unchanged r.pool (EditHolder holder) None h refl refl
by_request r (Delegate space amount status handle) day until start h valid early block =
    let found = block_inside r space amount start h block in
    subst (λ s. IsConserved r.pool (Delegate space amount status handle) (cover_for r (Delegate space amount status handle) s) (card_for r (Delegate space amount status handle) day until))
    (sym found.1)
    (painted_inside r.pool (Delegate space amount status handle) (range_from space found.0 (amount_size space amount)) _ h refl refl found.2
    (delegated_is_card status (holder_number r.holders handle) day 0))
by_request r (Reserve range) day until start h valid early block =
    painted_inside r.pool (Reserve range) range (kept_card Reserved day 0) h refl refl (in_one r range (rules_behind (early_rules r (Reserve range))) valid early) (kept_is_card Reserved day 0 refl)
by_request r (Unreserve range) day until start h valid early block =
    painted_inside r.pool (Unreserve range) range plain_card h refl refl (one_is_inside r.pool range (all_one r range (rules_behind (early_rules r (Unreserve range))) valid early)) plain_is_card
by_request r (SubAssign range handle) day until start h valid early block = unchanged r.pool (SubAssign range handle) (Some range) h refl refl
by_request r (SubReturn range) day until start h valid early block = unchanged r.pool (SubReturn range) (Some range) h refl refl
by_request r (Return range handle) day until start h valid early block =
    painted_inside r.pool (Return range handle) range (kept_card Quarantine day until) h refl refl
    (one_is_inside r.pool range (all_one r range (rules_behind (early_rules r (Return range handle))) valid early)) (kept_is_card Quarantine day until refl)
by_request r (Release range) day until start h valid early block =
    painted_inside r.pool (Release range) range plain_card h refl refl (one_is_inside r.pool range (all_one r range (rules_behind (early_rules r (Release range))) valid early)) plain_is_card
by_request r (Split at) day until start h valid early block = split_conserves r at (cover_for r (Split at) start) h early
by_request r (Join at) day until start h valid early block = join_conserves r at (cover_for r (Join at) start) h early
by_request r (Transfer range from to) day until start h valid early block =
    let one = all_one r range (rules_behind (early_rules r (Transfer range from to))) valid early in
    let a = or_none (outside_pool r range) _ early in
    let b = or_none (not_one_piece r range) _ a.1 in
    let c = or_none (wrong_status r (first_number range) is_delegated) _ b.1 in
    let delegated = right_status r (first_number range) is_delegated one.piece c.0 one.holds_first in
    subst (λ o. IsConserved r.pool (Transfer range from to) (Some range) (option_map (λ p. holder_card p.card.status (holder_number r.holders to) day until) o))
    (sym one.holds_first)
    (painted_inside r.pool (Transfer range from to) range (holder_card one.piece.card.status (holder_number r.holders to) day until) h refl refl
    (one_is_inside r.pool range one) (transferred_is_card one.piece.card.status (holder_number r.holders to) day until delegated))
by_request r (SetReverse range servers) day until start h valid early block = unchanged r.pool (SetReverse range servers) None h refl refl
by_request r (ClearReverse range) day until start h valid early block = unchanged r.pool (ClearReverse range) None h refl refl

pub next_conserves : (r : Register) (e : PlainEntry) → IsPartition r.pool → IsNextEntry r e → IsConserved r.pool e.request e.cover e.card
next_conserves r e h next =
    let facts = next_facts r e next in
    moved r.pool e.request _ e.cover _ e.card facts.cover facts.card
    (by_request r e.request e.day (until_of e.card) (start_of e.cover) h facts.valid facts.early facts.block)

-- ---- lists of entries

pub or_assoc : {A : Type 0} (x y z : Option A) → option_or x (option_or y z) ≡ option_or (option_or x y) z
or_assoc None y z = refl
or_assoc (Some a) y z = refl

pub partition_from : (r : Register) (es : List PlainEntry) → IsPartition r.pool → IsLegalFrom r es → IsPartition (after_entries r es).pool
partition_from r [] h legal = h
partition_from r (e ∷ es) h legal = partition_from (after_entry r e) es (next_conserves r e h legal.0).partition legal.1

pub cards_from : (r : Register) (es : List PlainEntry) (n : PlainNumber) → IsPartition r.pool → IsLegalFrom r es
    → card_of (after_entries r es).pool n ≡ option_or (last_card es n) (card_of r.pool n)
cards_from r [] n h legal = refl
cards_from r (e ∷ es) n h legal =
    let step = next_conserves r e h legal.0 in
    cards_from (after_entry r e) es n step.partition legal.1
    ∙ ap (λ o. option_or (last_card es n) o) (step.cards n)
    ∙ or_assoc (last_card es n) (painted_card e n) (card_of r.pool n)

-- one entry more: what it received comes first
received_first : (o : Option PlainRange) (rs : List PlainRange) (n : PlainNumber)
    → list_any (λ r. range_holds r n) (cons_option o rs) ≡ covers o n || list_any (λ r. range_holds r n) rs
received_first None rs n = refl
received_first (Some r) rs n = refl

turned_or : (a b c : Bool) → (a || (b || c)) ≡ ((b || a) || c)
turned_or true true c = refl
turned_or true false c = refl
turned_or false true c = refl
turned_or false false c = refl

-- the numbers with a last card, or with one before, are those that were received, or had one before
pub pooled_from : (r : Register) (es : List PlainEntry) (n : PlainNumber) → IsPartition r.pool → IsLegalFrom r es
    → is_some (option_or (last_card es n) (card_of r.pool n)) ≡ is_received es n || is_some (card_of r.pool n)
pooled_from r [] n h legal = refl
pooled_from r (e ∷ es) n h legal =
    let step = next_conserves r e h legal.0 in
    let old : Option Card = card_of r.pool n in
    ap is_some (sym (or_assoc (last_card es n) (painted_card e n) old))
    ∙ ap (λ o. is_some (option_or (last_card es n) o)) (sym (step.cards n))
    ∙ pooled_from (after_entry r e) es n step.partition legal.1
    ∙ ap (λ o. is_received es n || is_some o) (step.cards n)
    ∙ ap (λ b. is_received es n || b) (step.pooled n)
    ∙ turned_or (is_received es n) (covers (received_range e.request) n) (is_some old)
    ∙ ap (λ b. b || is_some old) (sym (received_first (received_range e.request) (received es) n))

pub sizes_from : (r : Register) (es : List PlainEntry) (space : Space) → IsPartition r.pool → IsLegalFrom r es
    → size_sum (register_pieces (after_entries r es) space) ≡ received_size es space + size_sum (register_pieces r space)
sizes_from r [] space h legal = omega arith
sizes_from r (e ∷ es) space h legal =
    let step = next_conserves r e h legal.0 in
    sum_up (size_sum (register_pieces (after_entries (after_entry r e) es) space)) (received_size es space) (size_sum (register_pieces (after_entry r e) space))
    (size_within space (received_range e.request)) (size_sum (register_pieces r space))
    (sizes_from (after_entry r e) es space step.partition legal.1) (step.sizes space)
  where
    sum_up : (a b c d f : ℕ) → a ≡ b + c → c ≡ d + f → a ≡ (d + b) + f
    sum_up a b c d f g h = omega arith

empty_is_partition : IsPartition empty_partition
empty_is_partition = record { each = λ space. empty_in space }
  where
    empty_in : (space : Space) → ArePieces space (pieces_in empty_partition space)
    empty_in Asn = record { rises = tt; settled = tt; each = tt }
    empty_in Ipv4 = record { rises = tt; settled = tt; each = tt }
    empty_in Ipv6 = record { rises = tt; settled = tt; each = tt }

none_of_empty : (n : PlainNumber) (space : Space) → card_at (pieces_in empty_partition space) n.value ≡ None
none_of_empty n Asn = refl
none_of_empty n Ipv4 = refl
none_of_empty n Ipv6 = refl

pub or_nothing : {A : Type 0} (o : Option A) → option_or o None ≡ o
or_nothing None = refl
or_nothing (Some a) = refl

size_of_empty : (space : Space) → size_sum (pieces_in empty_partition space) ≡ 0
size_of_empty Asn = refl
size_of_empty Ipv4 = refl
size_of_empty Ipv6 = refl

pub legal_partition : (rooms : Rooms) (es : List PlainEntry) → IsLegal rooms es → IsPartition (register_after rooms es).pool
legal_partition rooms es legal = partition_from (empty_register rooms) es empty_is_partition legal

pub legal_cards : (rooms : Rooms) (es : List PlainEntry) (n : PlainNumber) → IsLegal rooms es → card_of (register_after rooms es).pool n ≡ last_card es n
legal_cards rooms es n legal =
    cards_from (empty_register rooms) es n empty_is_partition legal
    ∙ ap (λ o. option_or (last_card es n) o) (none_of_empty n n.space)
    ∙ or_nothing (last_card es n)

pub legal_sizes : (rooms : Rooms) (es : List PlainEntry) (space : Space) → IsLegal rooms es
    → size_sum (register_pieces (register_after rooms es) space) ≡ received_size es space
legal_sizes rooms es space legal =
    sizes_from (empty_register rooms) es space empty_is_partition legal
    ∙ ap (λ n. received_size es space + n) (size_of_empty space)
    ∙ plus_zero (received_size es space)
  where
    plus_zero : (n : ℕ) → n + 0 ≡ n
    plus_zero n = omega arith

-- the numbers with a last card are those that were received
pub legal_pooled : (rooms : Rooms) (es : List PlainEntry) (n : PlainNumber) → IsLegal rooms es → is_some (last_card es n) ≡ is_received es n
legal_pooled rooms es n legal =
    let none : card_of (empty_register rooms).pool n ≡ None = none_of_empty n n.space in
    ap is_some (sym (or_nothing (last_card es n)) ∙ ap (λ o. option_or (last_card es n) o) (sym none))
    ∙ pooled_from (empty_register rooms) es n empty_is_partition legal
    ∙ ap (λ o. is_received es n || is_some o) none
    ∙ or_false (is_received es n)
  where
    or_false : (b : Bool) → (b || false) ≡ b
    or_false true = refl
    or_false false = refl
