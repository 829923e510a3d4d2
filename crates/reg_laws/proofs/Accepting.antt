-- Whatever the decision accepts may come next.
use Rattle.std.proofs.Common.{◌≡◌, ℕ, ◌+◌, ◌-◌, ◌%◌, ◌<◌, ◌≤◌, Bool, true, false, not, ◌&&◌, ◌||◌, ◌==◌, nat_le, nat_lt, inl, inr, List, [], ◌∷◌, Option, None, Some, refl, sym, ◌∙◌, ap, subst, arith}
use Rattle.std.specs.Option.{is_some, is_none, option_or, option_map, option_map_or}
use Rattle.std.specs.List.{list_any}
use Rattle.std.proofs.lemmas.Bool.{cond-true, cond-false, cases_Bool, both_ways, and_from, and_parts, or_left, or_right, or_parts, le-leb, leb-true, eq-eqb, ltb-false, not-false}
use Rattle.std.proofs.lemmas.Nat.{pow_pos}
use Rattle.std.proofs.lemmas.Option.{none-some, same_Some}
use Rattle.num_range.specs.declared.space.Space.{Space}
use Rattle.num_range.specs.declared.space.Space.TheVariants.{Asn, Ipv4, Ipv6}
use Rattle.num_range.specs.Space.{top_of}
use Rattle.num_range.specs.Range.{PlainRange, IsRange}
use Rattle.reg_entry.specs.declared.piece.Piece.{Piece}
use Rattle.reg_entry.specs.declared.policy.Row.{Row}
use Rattle.reg_entry.specs.declared.refusal.Refusal.{Refusal}
use Rattle.reg_entry.specs.declared.refusal.Refusal.TheVariants.{OutsidePool, LengthOutOfPolicy, NoBlock}
use Rattle.reg_entry.specs.declared.request.Delegation.{Delegation}
use Rattle.reg_entry.specs.declared.request.Request.{Request}
use Rattle.reg_entry.specs.declared.request.Request.TheVariants.{Receive, AddHolder, EditHolder, Delegate, Reserve, Unreserve, SubAssign, SubReturn, Return, Release, Split, Join, Transfer, SetReverse, ClearReverse}
use Rattle.reg_entry.specs.Entry.{PlainEntry}
use Rattle.reg_entry.specs.Card.{is_available}
use Rattle.reg_entry.specs.Request.{status_of, amount_size, has_size, is_range, is_request}
use Rattle.reg_entry.specs.Policy.{PlainPolicy, policy_row, IsPolicy}
use Rattle.reg_entry.specs.Pieces.{piece_holds, piece_at, AllPiecesOf}
use Rattle.reg_entry.specs.Partition.{IsPartition}
use Rattle.reg_entry.specs.Blocks.{alignment, rounded_up, least_block, IsLeastBlock}
use Rattle.reg_entry.specs.Days.{last_date, days_later}
use Rattle.reg_entry.specs.Register.{Register, register_pieces, piece_of}
use Rattle.reg_entry.specs.Ranges.{same_range}
use Rattle.reg_entry.specs.Card.{same_card}
use Rattle.reg_entry.specs.Holders.{holder_number}
use Rattle.reg_entry.specs.Covers.{first_number, chosen_start, cover_for, card_for, range_from, holder_card, IsLeastCover}
use Rattle.reg_entry.specs.Decision.{first_of, refuse_if, unknown_hostmaster, least_missing, outside_pool, amount_out_of_policy, no_block, early_rules, policy_rules, late_refusal, until_for, entry_day, proposed_entry, refusal_of, reply_of, decision, IfAccepted}
use Rattle.reg_entry.specs.Next.{has_free, is_free_block, start_of, block_may_be, until_of, until_may_be, day_may_be, same_cover, same_painted, may_come_next, IsNextEntry}
use Rattle.reg_entry.proofs.Holding.{holds_from}
use Rattle.reg_entry.proofs.LeastBlock.{least_block_is_least, rounded_up_no_less, rounded_up_is_multiple, alignment_pos}
use Rattle.reg_laws.proofs.Sameness.{same_range-refl, same_card-refl, option_eq-refl}

-- ---- refusals

pub or_none : {A : Type 0} (x y : Option A) → option_or x y ≡ None → (x ≡ None) × (y ≡ None)
or_none None y e = (refl, e)
or_none (Some a) y e = absurd (none-some a (sym e))

pub refuse_if_none : (b : Bool) (refusal : Refusal) → refuse_if b refusal ≡ None → b ≡ false
refuse_if_none true refusal e = absurd (none-some refusal (sym e))
refuse_if_none false refusal e = refl

pub map_none : {A B : Type 0} (f : A → B) (o : Option A) → option_map f o ≡ None → o ≡ None
map_none f None e = refl
map_none f (Some x) e = absurd (none-some (f x) (sym e))

-- no number of the range is outside the pool, so its first lies in a piece
pub held_first : (ps : List Piece) (x last : ℕ) → x ≤ last → least_missing ps x last ≡ None → is_some (piece_at ps x) ≡ true
held_first [] x last h e = absurd (none-some x (sym e ∙ cond-true (nat_le x last) (Some x) None (le-leb x last h)))
held_first (p ∷ ps) x last h e =
    elim (cases_Bool (piece_holds p x)) [
      | inl t ↦ ap is_some (cond-true (piece_holds p x) (Some p) (piece_at ps x) t)
      | inr f ↦
          let same : least_missing ps x last ≡ None = ap (λ y. least_missing ps y last) (sym (cond-false (piece_holds p x) (p.range.last + 1) x f)) ∙ e in
          ap is_some (cond-false (piece_holds p x) (Some p) (piece_at ps x) f) ∙ held_first ps x last h same
    ]

pub range_valid : (r : PlainRange) → is_range r ≡ true → IsRange r
range_valid r e =
    let p = and_parts (nat_le r.first r.last) (nat_le r.last (top_of r.space)) e in
    (leb-true r.first r.last p.0, leb-true r.last (top_of r.space) p.1)

pub first_in_pool : (r : Register) (range : PlainRange) → IsRange range → outside_pool r range ≡ None
    → is_some (piece_of r.pool (first_number range)) ≡ true
first_in_pool r range valid e =
    held_first (register_pieces r range.space) range.first range.last valid.0
    (map_none (λ n. OutsidePool (record { space = range.space; value = n })) (least_missing (register_pieces r range.space) range.first range.last) e)

-- ---- the block

pub size_pos : (space : Space) (amount : ℕ) → has_size space amount ≡ true → 0 < amount_size space amount
size_pos Asn amount e = leb-true 1 amount (and_parts (nat_le 1 amount) (nat_le amount 1024) e).0
size_pos Ipv4 amount e = pow_pos (32 - amount)
size_pos Ipv6 amount e = pow_pos (128 - amount)

least_is_free : (space : Space) (ps : List Piece) (size x : ℕ) → 0 < size → AllPiecesOf space ps → least_block ps space size ≡ Some x
    → is_free_block ps space size x ≡ true
least_is_free space [] size x pos each e = absurd (none-some x e)
least_is_free space (p ∷ ps) size x pos each e =
    let start : ℕ = rounded_up p.range.first (alignment space size) in
    let fits : Bool = is_available p.card.status && nat_le (start + (size - 1)) p.range.last in
    elim (cases_Bool fits) [
      | inl t ↦
          let same : start ≡ x = same_Some start x (sym (cond-true fits (Some start) (least_block ps space size) t) ∙ e) in
          let both = and_parts (is_available p.card.status) (nat_le (start + (size - 1)) p.range.last) t in
          let last : start + (size - 1) ≤ p.range.last = leb-true (start + (size - 1)) p.range.last both.1 in
          let first : p.range.first ≤ start = rounded_up_no_less p.range.first (alignment space size) (alignment_pos space size pos) in
          let top : p.range.last ≤ top_of space = each.0.within in
          subst (λ y. is_free_block (p ∷ ps) space size y ≡ true) same
          (and_from ((start % alignment space size == 0) && nat_le (start + (size - 1)) (top_of space)) (list_any (has_free start (start + (size - 1))) (p ∷ ps))
          (and_from (start % alignment space size == 0) (nat_le (start + (size - 1)) (top_of space))
          (eq-eqb (start % alignment space size) 0 (rounded_up_is_multiple p.range.first (alignment space size)))
          (le-leb (start + (size - 1)) (top_of space) (omega arith)))
          (or_left (has_free start (start + (size - 1)) p) (list_any (has_free start (start + (size - 1))) ps)
          (and_from (is_available p.card.status && piece_holds p start) (piece_holds p (start + (size - 1)))
          (and_from (is_available p.card.status) (piece_holds p start) both.0 (holds_from p start first (omega arith)))
          (holds_from p (start + (size - 1)) (omega arith) last))))
      | inr f ↦
          let rest : is_free_block ps space size x ≡ true =
          least_is_free space ps size x pos each.1 (sym (cond-false fits (Some start) (least_block ps space size) f) ∙ e) in
          let parts = and_parts ((x % alignment space size == 0) && nat_le (x + (size - 1)) (top_of space)) (list_any (has_free x (x + (size - 1))) ps) rest in
          and_from ((x % alignment space size == 0) && nat_le (x + (size - 1)) (top_of space)) (list_any (has_free x (x + (size - 1))) (p ∷ ps)) parts.0
          (or_right (has_free x (x + (size - 1)) p) (list_any (has_free x (x + (size - 1))) ps) parts.1)
    ]

start_of_map : (space : Space) (size : ℕ) (start : Option ℕ) → start_of (option_map (λ x. range_from space x size) start) ≡ start
start_of_map space size None = refl
start_of_map space size (Some x) = refl

block_from : (space : Space) (amount : ℕ) (ps : List Piece) (start : Option ℕ) → AllPiecesOf space ps → has_size space amount ≡ true
    → least_block ps space (amount_size space amount) ≡ start
    → is_some (option_map (λ x. range_from space x (amount_size space amount)) start) ≡ true
    → (has_size space amount && option_map_or (is_free_block ps space (amount_size space amount))
    (start_of (option_map (λ x. range_from space x (amount_size space amount)) start)) false) ≡ true
block_from space amount ps None each sized e some = absurd (both_ways false refl some)
block_from space amount ps (Some x) each sized e some =
    and_from (has_size space amount) (is_free_block ps space (amount_size space amount) x) sized
    (least_is_free space ps (amount_size space amount) x (size_pos space amount sized) each e)

-- ---- the parts of what may come next, of the entry that is proposed

-- what is known of a register, a policy and a request
pub record CanDecide (r : Register) (p : PlainPolicy) (request : Request) : Type 0 where
  pub pool : IsPartition r.pool
  pub day : r.last_day ≤ last_date
  pub policy : IsPolicy p
  pub valid : is_request request ≡ true

-- nothing is against the request
pub record IsAllowed (r : Register) (p : PlainPolicy) (day : ℕ) (who : List ℕ) (request : Request) : Type 0 where
  pub early : first_of (early_rules r request) ≡ None
  pub policy : first_of (policy_rules r p request) ≡ None
  pub late : late_refusal r (proposed_entry r p day who request) ≡ None

allowed : (r : Register) (p : PlainPolicy) (day : ℕ) (who : List ℕ) (request : Request) → refusal_of r p day who request ≡ None
    → IsAllowed r p day who request
allowed r p day who request e =
    let a = or_none (unknown_hostmaster p who) (option_or (first_of (early_rules r request)) (option_or (first_of (policy_rules r p request)) (late_refusal r (proposed_entry r p day who request)))) e in
    let b = or_none (first_of (early_rules r request)) (option_or (first_of (policy_rules r p request)) (late_refusal r (proposed_entry r p day who request))) a.1 in
    let c = or_none (first_of (policy_rules r p request)) (late_refusal r (proposed_entry r p day who request)) b.1 in
    record { early = b.0; policy = c.0; late = c.1 }

-- the amount of a delegation that is allowed has a size, and there is a block of it
delegated_block : (r : Register) (p : PlainPolicy) (day : ℕ) (who : List ℕ) (space : Space) (amount : ℕ) (status : Delegation) (handle : List ℕ)
    → CanDecide r p (Delegate space amount status handle) → IsAllowed r p day who (Delegate space amount status handle)
    → (has_size space amount ≡ true)
    × (is_some (cover_for r (Delegate space amount status handle) (chosen_start r (Delegate space amount status handle))) ≡ true)
delegated_block r p day who space amount status handle can is =
    let row : Row = policy_row p space (status_of status) in
    let out = refuse_if_none (nat_lt amount row.least || nat_lt row.most amount) (LengthOutOfPolicy row.least row.most)
    (or_none (amount_out_of_policy row amount) _ is.policy).0 in
    let bounds = or_parts (nat_lt amount row.least) (nat_lt row.most amount) out in
    let cover : Option PlainRange = cover_for r (Delegate space amount status handle) (chosen_start r (Delegate space amount status handle)) in (
      can.policy.rows space (status_of status) amount (ltb-false amount row.least bounds.0) (ltb-false row.most amount bounds.1),
      not-false (is_some cover) (refuse_if_none (not (is_some cover)) NoBlock (or_none (no_block cover) _ is.late).0),
    )

least_from : (ps : List Piece) (space : Space) (size : ℕ) (start : Option ℕ) → IsLeastBlock ps space size start
    → is_some (option_map (λ x. range_from space x size) start) ≡ true
    → (x : ℕ) × (option_map (λ y. range_from space y size) start ≡ Some (range_from space x size)) × IsLeastBlock ps space size (Some x)
least_from ps space size None least some = absurd (both_ways false refl some)
least_from ps space size (Some x) least some = (x, refl, least)

cover_is_least : (r : Register) (p : PlainPolicy) (day : ℕ) (who : List ℕ) (request : Request) → CanDecide r p request
    → IsAllowed r p day who request → IsLeastCover r request (cover_for r request (chosen_start r request))
cover_is_least r p day who (Delegate space amount status handle) can is =
    let found = delegated_block r p day who space amount status handle can is in
    let ps : List Piece = register_pieces r space in
    let size : ℕ = amount_size space amount in
    least_from ps space size (least_block ps space size) (least_block_is_least space ps size (can.pool.each space) (size_pos space amount found.0)) found.1
cover_is_least r p day who (Receive range) can is = tt
cover_is_least r p day who (AddHolder holder) can is = tt
cover_is_least r p day who (EditHolder holder) can is = tt
cover_is_least r p day who (Reserve range) can is = tt
cover_is_least r p day who (Unreserve range) can is = tt
cover_is_least r p day who (SubAssign range handle) can is = tt
cover_is_least r p day who (SubReturn range) can is = tt
cover_is_least r p day who (Return range handle) can is = tt
cover_is_least r p day who (Release range) can is = tt
cover_is_least r p day who (Split at) can is = tt
cover_is_least r p day who (Join at) can is = tt
cover_is_least r p day who (Transfer range from to) can is = tt
cover_is_least r p day who (SetReverse range servers) can is = tt
cover_is_least r p day who (ClearReverse range) can is = tt

block_is_right : (r : Register) (p : PlainPolicy) (day : ℕ) (who : List ℕ) (request : Request) → CanDecide r p request
    → IsAllowed r p day who request → block_may_be r request (start_of (cover_for r request (chosen_start r request))) ≡ true
block_is_right r p day who (Delegate space amount status handle) can is =
    let found = delegated_block r p day who space amount status handle can is in
    block_from space amount (register_pieces r space) (least_block (register_pieces r space) space (amount_size space amount))
    (can.pool.each space).each found.0 refl found.1
block_is_right r p day who (Receive range) can is = refl
block_is_right r p day who (AddHolder holder) can is = refl
block_is_right r p day who (EditHolder holder) can is = refl
block_is_right r p day who (Reserve range) can is = refl
block_is_right r p day who (Unreserve range) can is = refl
block_is_right r p day who (SubAssign range handle) can is = refl
block_is_right r p day who (SubReturn range) can is = refl
block_is_right r p day who (Return range handle) can is = refl
block_is_right r p day who (Release range) can is = refl
block_is_right r p day who (Split at) can is = refl
block_is_right r p day who (Join at) can is = refl
block_is_right r p day who (Transfer range from to) can is = refl
block_is_right r p day who (SetReverse range servers) can is = refl
block_is_right r p day who (ClearReverse range) can is = refl

day_is_right : (r : Register) (day : ℕ) → r.last_day ≤ last_date → day_may_be r (entry_day r day) ≡ true
day_is_right r day h =
    and_from (nat_le 1 (entry_day r day) && nat_le r.last_day (entry_day r day)) (nat_le (entry_day r day) last_date)
    (and_from (nat_le 1 (entry_day r day)) (nat_le r.last_day (entry_day r day))
    (le-leb 1 (entry_day r day) (omega arith)) (le-leb r.last_day (entry_day r day) (omega arith)))
    (le-leb (entry_day r day) last_date (omega arith))

later_is_right : (day days : ℕ) → day ≤ last_date → (nat_le day (days_later day days) && nat_le (days_later day days) last_date) ≡ true
later_is_right day days h =
    and_from (nat_le day (days_later day days)) (nat_le (days_later day days) last_date)
    (le-leb day (days_later day days) (omega arith)) (le-leb (days_later day days) last_date (omega arith))

entry_day_bound : (r : Register) (day : ℕ) → r.last_day ≤ last_date → entry_day r day ≤ last_date
entry_day_bound r day h = omega arith

until_of_transfer : (o : Option Piece) (holder : Option ℕ) (day until : ℕ) → is_some o ≡ true
    → until_of (option_map (λ p. holder_card p.card.status holder day until) o) ≡ until
until_of_transfer None holder day until e = absurd (both_ways false refl e)
until_of_transfer (Some p) holder day until e = refl

until_is_right : (r : Register) (p : PlainPolicy) (day : ℕ) (who : List ℕ) (request : Request) → CanDecide r p request
    → IsAllowed r p day who request
    → until_may_be request (entry_day r day) (until_of (card_for r request (entry_day r day) (until_for p request (entry_day r day)))) ≡ true
until_is_right r p day who (Return range handle) can is =
    later_is_right (entry_day r day) p.quarantine_days (entry_day_bound r day can.day)
until_is_right r p day who (Transfer range from to) can is =
    let held = first_in_pool r range (range_valid range can.valid) (or_none (outside_pool r range) _ is.early).0 in
    let d : ℕ = entry_day r day in
    let until : ℕ = days_later d p.hold_days in
    subst (λ u. (nat_le d u && nat_le u last_date) ≡ true)
    (sym (until_of_transfer (piece_of r.pool (first_number range)) (holder_number r.holders to) d until held))
    (later_is_right d p.hold_days (entry_day_bound r day can.day))
until_is_right r p day who (Receive range) can is = refl
until_is_right r p day who (AddHolder holder) can is = refl
until_is_right r p day who (EditHolder holder) can is = refl
until_is_right r p day who (Delegate space amount status handle) can is = refl
until_is_right r p day who (Reserve range) can is = refl
until_is_right r p day who (Unreserve range) can is = refl
until_is_right r p day who (SubAssign range handle) can is = refl
until_is_right r p day who (SubReturn range) can is = refl
until_is_right r p day who (Release range) can is = refl
until_is_right r p day who (Split at) can is = refl
until_is_right r p day who (Join at) can is = refl
until_is_right r p day who (SetReverse range servers) can is = refl
until_is_right r p day who (ClearReverse range) can is = refl

-- the cover is the one for the block that it starts with
cover_of_start : (r : Register) (request : Request) (start : Option ℕ) → cover_for r request (start_of (cover_for r request start)) ≡ cover_for r request start
cover_of_start r (Delegate space amount status handle) start =
    ap (λ o. option_map (λ x. range_from space x (amount_size space amount)) o) (start_of_map space (amount_size space amount) start)
cover_of_start r (Receive range) start = refl
cover_of_start r (AddHolder holder) start = refl
cover_of_start r (EditHolder holder) start = refl
cover_of_start r (Reserve range) start = refl
cover_of_start r (Unreserve range) start = refl
cover_of_start r (SubAssign range handle) start = refl
cover_of_start r (SubReturn range) start = refl
cover_of_start r (Return range handle) start = refl
cover_of_start r (Release range) start = refl
cover_of_start r (Split at) start = refl
cover_of_start r (Join at) start = refl
cover_of_start r (Transfer range from to) start = refl
cover_of_start r (SetReverse range servers) start = refl
cover_of_start r (ClearReverse range) start = refl

moved_card : (o : Option Piece) (holder : Option ℕ) (day until : ℕ)
    → option_map (λ p. holder_card p.card.status holder day (until_of (option_map (λ q. holder_card q.card.status holder day until) o))) o
    ≡ option_map (λ p. holder_card p.card.status holder day until) o
moved_card None holder day until = refl
moved_card (Some p) holder day until = refl

-- and the card the one for its until
card_of_until : (r : Register) (request : Request) (day until : ℕ)
    → card_for r request day (until_of (card_for r request day until)) ≡ card_for r request day until
card_of_until r (Transfer range from to) day until =
    moved_card (piece_of r.pool (first_number range)) (holder_number r.holders to) day until
card_of_until r (Receive range) day until = refl
card_of_until r (AddHolder holder) day until = refl
card_of_until r (EditHolder holder) day until = refl
card_of_until r (Delegate space amount status handle) day until = refl
card_of_until r (Reserve range) day until = refl
card_of_until r (Unreserve range) day until = refl
card_of_until r (SubAssign range handle) day until = refl
card_of_until r (SubReturn range) day until = refl
card_of_until r (Return range handle) day until = refl
card_of_until r (Release range) day until = refl
card_of_until r (Split at) day until = refl
card_of_until r (Join at) day until = refl
card_of_until r (SetReverse range servers) day until = refl
card_of_until r (ClearReverse range) day until = refl

none_is_none : {A : Type 0} (o : Option A) → o ≡ None → is_none o ≡ true
none_is_none o e = ap is_none e

proposed_is_next : (r : Register) (p : PlainPolicy) (day : ℕ) (who : List ℕ) (request : Request) → CanDecide r p request
    → IsAllowed r p day who request → may_come_next r (proposed_entry r p day who request) ≡ true
proposed_is_next r p day who request can is =
    let e : PlainEntry = proposed_entry r p day who request in
    let cover_same : same_cover e.cover (cover_for r request (start_of e.cover)) ≡ true =
    subst (λ c. same_cover e.cover c ≡ true) (sym (cover_of_start r request (chosen_start r request))) (option_eq-refl same_range same_range-refl e.cover) in
    let card_same : same_painted e.card (card_for r request e.day (until_of e.card)) ≡ true =
    subst (λ c. same_painted e.card c ≡ true) (sym (card_of_until r request e.day (until_for p request e.day))) (option_eq-refl same_card same_card-refl e.card) in
    all_of (is_request request) (e.seq == r.entries + 1) (day_may_be r e.day) (is_none (first_of (early_rules r request))) (block_may_be r request (start_of e.cover))
    (until_may_be request e.day (until_of e.card)) (is_none (late_refusal r e)) (same_cover e.cover (cover_for r request (start_of e.cover)))
    (same_painted e.card (card_for r request e.day (until_of e.card)))
    can.valid (eq-eqb (r.entries + 1) (r.entries + 1) refl) (day_is_right r day can.day) (none_is_none (first_of (early_rules r request)) is.early)
    (block_is_right r p day who request can is) (until_is_right r p day who request can is) (none_is_none (late_refusal r e) is.late)
    cover_same card_same
  where
    all_of : (z a b c d e f g h : Bool) → z ≡ true → a ≡ true → b ≡ true → c ≡ true → d ≡ true → e ≡ true → f ≡ true → g ≡ true → h ≡ true
        → (z && a && b && c && d && e && f && g && h) ≡ true
    all_of z a b c d e f g h o p q r s t u v w =
        and_from (z && a && b && c && d && e && f && g) h
        (and_from (z && a && b && c && d && e && f) g
        (and_from (z && a && b && c && d && e) f
        (and_from (z && a && b && c && d) e (and_from (z && a && b && c) d (and_from (z && a && b) c (and_from (z && a) b (and_from z a o p) q) r) s) t) u) v) w

if_accepted : (o : Option Refusal) (e : PlainEntry) (P : PlainEntry → Type 0) → (o ≡ None → P e) → IfAccepted (reply_of o e) P
if_accepted None e P h = h refl
if_accepted (Some refusal) e P h = tt

pub accepted_is_next : (r : Register) (p : PlainPolicy) (day : ℕ) (who : List ℕ) (request : Request) → CanDecide r p request
    → IfAccepted (decision r p day who request) (IsNextEntry r)
accepted_is_next r p day who request can =
    if_accepted (refusal_of r p day who request) (proposed_entry r p day who request) (IsNextEntry r)
    (λ none. proposed_is_next r p day who request can (allowed r p day who request none))

pub accepted_is_least : (r : Register) (p : PlainPolicy) (day : ℕ) (who : List ℕ) (request : Request) → CanDecide r p request
    → IfAccepted (decision r p day who request) (λ e. IsLeastCover r e.request e.cover)
accepted_is_least r p day who request can =
    if_accepted (refusal_of r p day who request) (proposed_entry r p day who request) (λ e. IsLeastCover r e.request e.cover)
    (λ none. cover_is_least r p day who request can (allowed r p day who request none))
