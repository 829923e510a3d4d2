-- The decision: what becomes of a request. Each reason for a refusal is a condition with a name of its own; the tables
-- below say which requests it is asked of. The first that holds, in the order of the refusals, is the answer.
use Rattle.std.specs.Prelude.{ℕ, ◌+◌, ◌*◌, ◌/◌, ◌^◌, max, Bool, true, false, not, ◌&&◌, ◌||◌, ◌==◌, nat_eq, nat_lt, nat_le, if◌then◌else◌, List, [], ◌∷◌, Option, None, Some, filter, find, length}
use Rattle.std.specs.Option.{is_some, option_or, option_map, option_and_then, option_eq}
use Rattle.num_range.specs.declared.space.Space.{Space}
use Rattle.num_range.specs.declared.space.Space.TheVariants.{Asn, Ipv4, Ipv6}
use Rattle.num_range.specs.Number.{PlainNumber}
use Rattle.num_range.specs.Range.{PlainRange, size_of}
use Rattle.reg_entry.specs.declared.card.Card.{Card}
use Rattle.reg_entry.specs.declared.card.Status.{Status}
use Rattle.reg_entry.specs.declared.card.Status.TheVariants.{Reserved, Quarantine, Allocated}
use Rattle.reg_entry.specs.declared.piece.Piece.{Piece}
use Rattle.reg_entry.specs.declared.policy.Row.{Row}
use Rattle.reg_entry.specs.declared.entry.Reply.{Reply}
use Rattle.reg_entry.specs.declared.entry.Reply.TheVariants.{Accepted, Refused}
use Rattle.reg_entry.specs.declared.refusal.Refusal.{Refusal}
use Rattle.reg_entry.specs.declared.refusal.Refusal.TheVariants.{UnknownHostmaster, OutsidePool, NotOnePiece, WrongStatus, UnknownHolder, NotHolder, HandleTaken, Overlap, NoSub, NoReverse, CardsDiffer, LengthOutOfPolicy, HolderKind, OverCap, UnderUsed, HoldTime, NotDue, HasSubs, Straddled, NoBlock, NoReverseSpace, RegisterFull, HoldersFull, JournalFull, SubsFull, ReverseFull}
use Rattle.reg_entry.specs.declared.request.Request.{Request}
use Rattle.reg_entry.specs.declared.request.Request.TheVariants.{Receive, AddHolder, EditHolder, Delegate, Reserve, Unreserve, SubAssign, SubReturn, Return, Release, Split, Join, Transfer, SetReverse, ClearReverse}
use Rattle.reg_entry.specs.Entry.{PlainEntry}
use Rattle.reg_entry.specs.Card.{is_available, is_delegated, same_status, same_card}
use Rattle.reg_entry.specs.Request.{status_of, amount_size}
use Rattle.reg_entry.specs.Policy.{PlainPolicy, policy_row, is_hostmaster, lists_kind}
use Rattle.reg_entry.specs.Pieces.{overlap, piece_holds}
use Rattle.reg_entry.specs.Partition.{piece_count}
use Rattle.reg_entry.specs.Ranges.{same_range, lies_inside, value_of_range, first_meeting, ranges_inside, range_holds}
use Rattle.reg_entry.specs.Holders.{holder_number, holder_named, handle_at}
use Rattle.reg_entry.specs.Register.{Register, register_pieces, piece_of, pool_after}
use Rattle.reg_entry.specs.Sums.{held, allocated, used}
use Rattle.reg_entry.specs.Days.{clamped_day, days_later}
use Rattle.reg_entry.specs.Covers.{first_number, number_before, chosen_start, cover_for, card_for}

-- refuses with this where the condition holds
abbrev pub refuse_if : Bool → Refusal → Option Refusal
refuse_if true refusal = Some refusal
refuse_if false refusal = None

-- the first refusal of the list
abbrev pub first_of : List (Option Refusal) → Option Refusal
first_of [] = None
first_of (x ∷ xs) = option_or x (first_of xs)

-- what a condition says of the piece that holds the number, where there is one
abbrev pub on_piece : Register → PlainNumber → (Piece → Option Refusal) → Option Refusal
on_piece r n condition = option_and_then condition (piece_of r.pool n)

-- ---- the conditions, in the order of the refusals

abbrev pub unknown_hostmaster : PlainPolicy → List ℕ → Option Refusal
unknown_hostmaster p who = refuse_if (not (is_hostmaster p who)) UnknownHostmaster

-- the least number of an IPv6 range outside global unicast, 2000::/3 (RFC 4291 2.4)
abbrev pub least_unpooled : PlainRange → Option ℕ
least_unpooled range =
    if nat_lt range.first (2 ^ 125) then Some range.first
    else (if nat_lt range.last (2 ^ 126) then None else Some (max range.first (2 ^ 126)))

abbrev pub least_outside_unicast : Space → PlainRange → Option ℕ
least_outside_unicast Asn range = None
least_outside_unicast Ipv4 range = None
least_outside_unicast Ipv6 range = least_unpooled range

-- `OutsidePool` of a value of the range's space, where there is one
abbrev pub outside_at : Space → Option ℕ → Option Refusal
outside_at space value = option_map (λ n. OutsidePool (record { space = space; value = n })) value

abbrev pub outside_unicast : PlainRange → Option Refusal
outside_unicast range = outside_at range.space (least_outside_unicast range.space range)

-- the least number from x to the last that no piece holds; the pieces rise
abbrev pub least_missing : List Piece → ℕ → ℕ → Option ℕ
least_missing [] x last = if nat_le x last then Some x else None
least_missing (p ∷ ps) x last = least_missing ps (if piece_holds p x then p.range.last + 1 else x) last

abbrev pub outside_pool : Register → PlainRange → Option Refusal
outside_pool r range = outside_at range.space (least_missing (register_pieces r range.space) range.first range.last)

abbrev pub number_outside_pool : Register → PlainNumber → Option Refusal
number_outside_pool r n = refuse_if (not (is_some (piece_of r.pool n))) (OutsidePool n)

-- 0 has no number before it
abbrev pub begins_space : PlainNumber → Option Refusal
begins_space n = refuse_if (n.value == 0) (OutsidePool n)

abbrev pub not_in_one_piece : Register → PlainRange → Option Refusal
not_in_one_piece r range =
    on_piece r (first_number range) (λ p. refuse_if (not (lies_inside range p.range)) (NotOnePiece p.range))

abbrev pub not_one_piece : Register → PlainRange → Option Refusal
not_one_piece r range =
    on_piece r (first_number range) (λ p. refuse_if (not (same_range range p.range)) (NotOnePiece p.range))

abbrev pub begins_a_piece : Register → PlainNumber → Option Refusal
begins_a_piece r at = on_piece r at (λ p. refuse_if (p.range.first == at.value) (NotOnePiece p.range))

abbrev pub begins_no_piece : Register → PlainNumber → Option Refusal
begins_no_piece r at = on_piece r at (λ p. refuse_if (not (p.range.first == at.value)) (NotOnePiece p.range))

abbrev pub wrong_status : Register → PlainNumber → (Status → Bool) → Option Refusal
wrong_status r n accepts = on_piece r n (λ p. refuse_if (not (accepts p.card.status)) (WrongStatus p.card.status))

abbrev pub is_status : Status → Status → Bool
is_status status other = same_status other status

abbrev pub unknown_holder : Register → List ℕ → Option Refusal
unknown_holder r handle = refuse_if (not (is_some (holder_number r.holders handle))) (UnknownHolder handle)

-- the piece is another holder's
abbrev pub not_holder : Register → PlainRange → List ℕ → Option Refusal
not_holder r range handle =
    on_piece r (first_number range) (λ p.
    option_and_then
    (λ holder. refuse_if (not (option_eq nat_eq (Some holder) (holder_number r.holders handle))) (NotHolder (handle_at r.holders holder)))
    p.card.holder)

abbrev pub handle_taken : Register → List ℕ → Option Refusal
handle_taken r handle = refuse_if (is_some (holder_number r.holders handle)) HandleTaken

-- `Overlap` of a value of a space, where there is one
abbrev pub overlap_at : Space → Option ℕ → Option Refusal
overlap_at space value = option_map (λ n. Overlap (record { space = space; value = n })) value

abbrev pub already_pooled : Register → PlainRange → Option Refusal
already_pooled r range = overlap_at range.space (overlap (register_pieces r range.space) range)

-- the least number that two ranges have in common, where they meet
abbrev pub first_common : PlainRange → PlainRange → ℕ
first_common a b = max a.first b.first

abbrev pub meets_sub : Register → PlainRange → Option Refusal
meets_sub r range = overlap_at range.space (option_map (λ s. first_common range s.0) (first_meeting r.subs range))

-- a reverse entry of another range has a number of this one
abbrev pub meets_reverse : Register → PlainRange → Option Refusal
meets_reverse r range =
    overlap_at range.space
    (option_map (λ s. first_common range s.0) (first_meeting (filter (λ s. not (same_range s.0 range)) r.reverses) range))

abbrev pub no_sub : Register → PlainRange → Option Refusal
no_sub r range = refuse_if (not (is_some (value_of_range r.subs range))) NoSub

abbrev pub no_reverse : Register → PlainRange → Option Refusal
no_reverse r range = refuse_if (not (is_some (value_of_range r.reverses range))) NoReverse

-- the pieces on either side of the number have different cards
abbrev pub cards_differ : Register → PlainNumber → Option Refusal
cards_differ r at =
    on_piece r (number_before at) (λ p. on_piece r at (λ q. refuse_if (not (same_card p.card q.card)) (CardsDiffer p.range)))

abbrev pub amount_out_of_policy : Row → ℕ → Option Refusal
amount_out_of_policy row amount = refuse_if (nat_lt amount row.least || nat_lt row.most amount) (LengthOutOfPolicy row.least row.most)

abbrev pub kind_left_out : Register → Row → List ℕ → Option Refusal
kind_left_out r row handle =
    option_and_then (λ holder. refuse_if (not (lists_kind row holder.kind)) (HolderKind holder.kind)) (holder_named r.holders handle)

-- the holder would hold too many numbers of the space, with so many more
abbrev pub over_cap : Register → Row → Space → List ℕ → ℕ → Option Refusal
over_cap r row space handle more =
    option_and_then
    (λ holder. refuse_if (nat_lt row.cap (held r holder space + more)) (OverCap (held r holder space + more) row.cap))
    (holder_number r.holders handle)

-- too few of the holder's allocated numbers are sub-assigned
abbrev pub under_used : Register → Row → Space → List ℕ → Option Refusal
under_used r row space handle =
    option_and_then
    (λ holder.
    refuse_if
    (nat_lt 0 (allocated r holder space) && nat_lt (used r holder space) (allocated r holder space * row.percent / 100))
    (UnderUsed (used r holder space) (allocated r holder space)))
    (holder_number r.holders handle)

abbrev pub within_hold_time : Register → PlainRange → ℕ → Option Refusal
within_hold_time r range day = on_piece r (first_number range) (λ p. refuse_if (nat_lt day p.card.until) (HoldTime p.card.until))

abbrev pub not_due : Register → PlainRange → ℕ → Option Refusal
not_due r range day = on_piece r (first_number range) (λ p. refuse_if (nat_lt day p.card.until) (NotDue p.card.until))

abbrev pub has_subs : Register → PlainRange → Option Refusal
has_subs r range =
    refuse_if (nat_lt 0 (length (ranges_inside r.subs range))) (HasSubs (length (ranges_inside r.subs range)))

-- the first range that holds the number and the one before it
abbrev pub straddling : {T : Type 0} → List (PlainRange × T) → PlainNumber → Option PlainRange
straddling rs at = option_map (λ s. s.0) (find (λ s. range_holds s.0 at && range_holds s.0 (number_before at)) rs)

-- a sub, or else a reverse entry, would be cut
abbrev pub straddled : Register → PlainNumber → Option Refusal
straddled r at = option_map (λ range. Straddled range) (option_or (straddling r.subs at) (straddling r.reverses at))

abbrev pub no_block : Option PlainRange → Option Refusal
no_block cover = refuse_if (not (is_some cover)) NoBlock

abbrev pub of_asn : Space → Bool
of_asn Asn = true
of_asn Ipv4 = false
of_asn Ipv6 = false

abbrev pub no_reverse_space : PlainRange → Option Refusal
no_reverse_space range = refuse_if (of_asn range.space) NoReverseSpace

-- the pieces of all three spaces would be too many
abbrev pub register_full : Register → Request → Option PlainRange → Option Card → Option Refusal
register_full r request cover card =
    refuse_if (nat_lt r.rooms.pieces (piece_count (pool_after request cover card r.pool)))
    (RegisterFull (piece_count (pool_after request cover card r.pool)) r.rooms.pieces)

abbrev pub holders_full : Register → Option Refusal
holders_full r = refuse_if (nat_le r.rooms.holders (length r.holders)) (HoldersFull r.rooms.holders)

abbrev pub journal_full : Register → Option Refusal
journal_full r = refuse_if (nat_le r.rooms.entries r.entries) (JournalFull r.entries)

abbrev pub subs_full : Register → Option Refusal
subs_full r = refuse_if (nat_le r.rooms.subs (length r.subs)) (SubsFull r.rooms.subs)

-- a range that has a reverse entry needs no room
abbrev pub reverse_full : Register → PlainRange → Option Refusal
reverse_full r range =
    refuse_if (not (is_some (value_of_range r.reverses range)) && nat_le r.rooms.reverse (length r.reverses)) (ReverseFull r.rooms.reverse)

-- ---- the tables

-- whether the register knows what the request speaks of
abbrev pub early_rules : Register → Request → List (Option Refusal)
early_rules r (Receive range) = outside_unicast range ∷ already_pooled r range ∷ []
early_rules r (AddHolder holder) = handle_taken r holder.handle ∷ []
early_rules r (EditHolder holder) = unknown_holder r holder.handle ∷ []
early_rules r (Delegate space amount status handle) = unknown_holder r handle ∷ []
early_rules r (Reserve range) =
    outside_pool r range ∷ not_in_one_piece r range ∷ wrong_status r (first_number range) is_available ∷ []
early_rules r (Unreserve range) =
    outside_pool r range ∷ not_one_piece r range ∷ wrong_status r (first_number range) (is_status Reserved) ∷ []
early_rules r (SubAssign range handle) =
    outside_pool r range ∷ not_in_one_piece r range ∷ wrong_status r (first_number range) (is_status Allocated)
    ∷ unknown_holder r handle ∷ meets_sub r range ∷ []
early_rules r (SubReturn range) = no_sub r range ∷ []
early_rules r (Return range handle) =
    outside_pool r range ∷ not_one_piece r range ∷ wrong_status r (first_number range) is_delegated
    ∷ unknown_holder r handle ∷ not_holder r range handle ∷ []
early_rules r (Release range) =
    outside_pool r range ∷ not_one_piece r range ∷ wrong_status r (first_number range) (is_status Quarantine) ∷ []
early_rules r (Split at) = number_outside_pool r at ∷ begins_a_piece r at ∷ wrong_status r at is_delegated ∷ []
early_rules r (Join at) =
    begins_space at ∷ number_outside_pool r at ∷ number_outside_pool r (number_before at) ∷ begins_no_piece r at
    ∷ wrong_status r at is_delegated ∷ cards_differ r at ∷ []
early_rules r (Transfer range from to) =
    outside_pool r range ∷ not_one_piece r range ∷ wrong_status r (first_number range) is_delegated
    ∷ unknown_holder r from ∷ unknown_holder r to ∷ not_holder r range from ∷ []
early_rules r (SetReverse range servers) =
    outside_pool r range ∷ not_in_one_piece r range ∷ wrong_status r (first_number range) is_delegated
    ∷ meets_reverse r range ∷ []
early_rules r (ClearReverse range) = no_reverse r range ∷ []

-- the policy's row of a request: of a Delegate's status, and of the status of the piece that is transferred
abbrev pub delegate_rules : Register → Row → Space → ℕ → Status → List ℕ → List (Option Refusal)
delegate_rules r row space amount status handle =
    amount_out_of_policy row amount ∷ kind_left_out r row handle ∷ over_cap r row space handle (amount_size space amount)
    ∷ (if same_status status Allocated then under_used r row space handle else None) ∷ []

-- what a transfer adds to what the new holder holds: nothing, where it holds the piece already
abbrev pub transferred_size : Register → Piece → List ℕ → ℕ
transferred_size r p to = if option_eq nat_eq p.card.holder (holder_number r.holders to) then 0 else size_of p.range

abbrev pub transfer_rules : Register → PlainPolicy → Space → List ℕ → Piece → Option Refusal
transfer_rules r p space to piece =
    option_or (kind_left_out r (policy_row p space piece.card.status) to)
    (over_cap r (policy_row p space piece.card.status) space to (transferred_size r piece to))

-- whether the policy allows it
abbrev pub policy_rules : Register → PlainPolicy → Request → List (Option Refusal)
policy_rules r p (Delegate space amount status handle) =
    delegate_rules r (policy_row p space (status_of status)) space amount (status_of status) handle
policy_rules r p (Transfer range from to) = on_piece r (first_number range) (transfer_rules r p range.space to) ∷ []
policy_rules r p request = []

-- whether it may be done on this day, with this cover and card, and there is room
abbrev pub late_rules : Register → Request → ℕ → Option PlainRange → Option Card → List (Option Refusal)
late_rules r (Receive range) day cover card = register_full r (Receive range) cover card ∷ journal_full r ∷ []
late_rules r (AddHolder holder) day cover card = holders_full r ∷ journal_full r ∷ []
late_rules r (EditHolder holder) day cover card = journal_full r ∷ []
late_rules r (Delegate space amount status handle) day cover card =
    no_block cover ∷ register_full r (Delegate space amount status handle) cover card ∷ journal_full r ∷ []
late_rules r (Reserve range) day cover card = register_full r (Reserve range) cover card ∷ journal_full r ∷ []
late_rules r (Unreserve range) day cover card = journal_full r ∷ []
late_rules r (SubAssign range handle) day cover card = journal_full r ∷ subs_full r ∷ []
late_rules r (SubReturn range) day cover card = journal_full r ∷ []
late_rules r (Return range handle) day cover card = has_subs r range ∷ journal_full r ∷ []
late_rules r (Release range) day cover card = not_due r range day ∷ journal_full r ∷ []
late_rules r (Split at) day cover card = straddled r at ∷ register_full r (Split at) cover card ∷ journal_full r ∷ []
late_rules r (Join at) day cover card = journal_full r ∷ []
late_rules r (Transfer range from to) day cover card = within_hold_time r range day ∷ journal_full r ∷ []
late_rules r (SetReverse range servers) day cover card = no_reverse_space range ∷ journal_full r ∷ reverse_full r range ∷ []
late_rules r (ClearReverse range) day cover card = journal_full r ∷ []

-- ---- the decision

-- the day up to which the policy keeps a returned or transferred piece as it is
abbrev pub until_for : PlainPolicy → Request → ℕ → ℕ
until_for p (Return range handle) day = days_later day p.quarantine_days
until_for p (Transfer range from to) day = days_later day p.hold_days
until_for p request day = 0

-- the day of the next entry: no entry is older than the one before it
abbrev pub entry_day : Register → ℕ → ℕ
entry_day r day = max (clamped_day day) r.last_day

-- the entry that the request becomes where nothing is against it
abbrev pub proposed_entry : Register → PlainPolicy → ℕ → List ℕ → Request → PlainEntry
proposed_entry r p day who request = record {
  seq = r.entries + 1;
  day = entry_day r day;
  who = who;
  request = request;
  cover = cover_for r request (chosen_start r request);
  card = card_for r request (entry_day r day) (until_for p request (entry_day r day));
}

abbrev pub late_refusal : Register → PlainEntry → Option Refusal
late_refusal r e = first_of (late_rules r e.request e.day e.cover e.card)

-- why the request is refused, or none
abbrev pub refusal_of : Register → PlainPolicy → ℕ → List ℕ → Request → Option Refusal
refusal_of r p day who request =
    option_or (unknown_hostmaster p who)
    (option_or (first_of (early_rules r request))
    (option_or (first_of (policy_rules r p request)) (late_refusal r (proposed_entry r p day who request))))

abbrev pub reply_of : Option Refusal → PlainEntry → Reply
reply_of None e = Accepted e
reply_of (Some refusal) e = Refused refusal

abbrev pub decision : Register → PlainPolicy → ℕ → List ℕ → Request → Reply
decision r p day who request = reply_of (refusal_of r p day who request) (proposed_entry r p day who request)

-- the fact, of the entry that an accepted request becomes
abbrev pub IfAccepted : Reply → (PlainEntry → Type 0) → Type 0
IfAccepted (Accepted e) P = P e
IfAccepted (Refused refusal) P = Unit {0}
