-- Each entry that may come next keeps a register whole, and so does each legal list.
use Rattle.std.proofs.Common.{◌≡◌, ℕ, ◌+◌, ◌<◌, ◌≤◌, Bool, true, cond, ◌&&◌, ◌==◌, nat_le, List, [], ◌∷◌, Option, None, MatchOption, length, sym, subst, arith}
use Rattle.std.specs.Option.{is_some}
use Rattle.std.proofs.lemmas.Bool.{cond_both, and_parts, leb-true, leb-false}
use Rattle.num_range.specs.declared.space.Space.{Space}
use Rattle.num_range.specs.declared.space.Space.TheVariants.{Asn, Ipv4, Ipv6}
use Rattle.num_range.specs.Range.{PlainRange}
use Rattle.reg_entry.specs.declared.card.Card.{Card}
use Rattle.reg_entry.specs.declared.holder.Holder.{Holder}
use Rattle.reg_entry.specs.declared.rooms.Rooms.{Rooms}
use Rattle.reg_entry.specs.declared.refusal.Refusal.TheVariants.{HandleTaken, HoldersFull, JournalFull}
use Rattle.reg_entry.specs.declared.request.Request.{Request}
use Rattle.reg_entry.specs.declared.request.Request.TheVariants.{Receive, AddHolder, EditHolder, Delegate, Reserve, Unreserve, SubAssign, SubReturn, Return, Release, Split, Join, Transfer, SetReverse, ClearReverse}
use Rattle.reg_entry.specs.Entry.{PlainEntry}
use Rattle.reg_entry.specs.Days.{last_date}
use Rattle.reg_entry.specs.Holders.{holder_number, HaveDistinctHandles}
use Rattle.reg_entry.specs.Partition.{piece_count}
use Rattle.reg_entry.specs.Register.{Register, register_pieces, pool_after, holders_after, after_entry, after_entries, empty_register, register_after}
use Rattle.reg_entry.specs.Covers.{cover_for, card_for}
use Rattle.reg_entry.specs.Decision.{first_of, handle_taken, holders_full, journal_full, straddled, register_full, no_block, has_subs, not_due, within_hold_time, no_reverse_space, early_rules, late_rules}
use Rattle.reg_entry.specs.Next.{start_of, until_of, IsNextEntry, IsLegalFrom, IsLegal}
use Rattle.reg_entry.specs.Whole.{IsCardIn, HaveCardsIn, IsDayIn, HaveDaysIn, IsWholeRegister}
use Rattle.reg_laws.proofs.Accepting.{or_none, refuse_if_none}
use Rattle.reg_laws.proofs.NextFacts.{next_facts}
use Rattle.reg_laws.proofs.Conserving.{by_request, next_conserves, legal_partition}
use Rattle.reg_laws.proofs.HolderFacts.{none_with_handle, handles_after_adding, handles_after_editing, days_moved, days_after_adding, days_after_editing, length_added, length_edited}
use Rattle.reg_laws.proofs.CardFacts.{cards_moved, cards_after}
use Rattle.reg_laws.proofs.Keeping.{Keeps}
use Rattle.reg_laws.proofs.RequestKeeps.{touches, keeps_by, card_by, count_by}
use Rattle.reg_laws.proofs.WholeLists.{subs_untouched, subs_in, subs_apart, subs_room, each_of_subs, reverses_in, reverses_apart, reverses_room, each_of_reverses}

-- ---- holders

handles_after : (r : Register) (request : Request) (day : ℕ) → first_of (early_rules r request) ≡ None → HaveDistinctHandles r.holders
    → HaveDistinctHandles (holders_after request day r.holders)
handles_after r (AddHolder holder) day early h =
    let a = or_none (handle_taken r holder.handle) None early in
    handles_after_adding r.holders (holder, day) (none_with_handle r.holders holder.handle (refuse_if_none (is_some (holder_number r.holders holder.handle)) HandleTaken a.0)) h
handles_after r (EditHolder holder) day early h = handles_after_editing holder day r.holders h
handles_after r request day early h = h

days_after : (s : Register) (request : Request) (day : ℕ) (hs : List (Holder × ℕ)) → IsDayIn s day → HaveDaysIn s hs → HaveDaysIn s (holders_after request day hs)
days_after s (AddHolder holder) day hs new h = days_after_adding s hs holder day h new
days_after s (EditHolder holder) day hs new h = days_after_editing s hs holder day h new
days_after s request day hs new h = h

more_holders : (request : Request) (day : ℕ) (hs : List (Holder × ℕ)) → length hs ≤ length (holders_after request day hs)
more_holders (AddHolder holder) day hs = let e = length_added hs holder day in omega arith
more_holders (EditHolder holder) day hs = let e = length_edited hs holder day in omega arith
more_holders request day hs = omega arith

holders_room : (r : Register) (request : Request) (day : ℕ) (cover : Option PlainRange) (card : Option Card) → first_of (late_rules r request day cover card) ≡ None
    → length r.holders ≤ r.rooms.holders → length (holders_after request day r.holders) ≤ r.rooms.holders
holders_room r (AddHolder holder) day cover card late h =
    let a = or_none (holders_full r) _ late in
    let room : length r.holders < r.rooms.holders =
    leb-false r.rooms.holders (length r.holders) (refuse_if_none (nat_le r.rooms.holders (length r.holders)) (HoldersFull r.rooms.holders) a.0) in
    let e = length_added r.holders holder day in
    omega arith
holders_room r (EditHolder holder) day cover card late h = let e = length_edited r.holders holder day in omega arith
holders_room r request day cover card late h = h

-- ---- the journal

not_full : (r : Register) → journal_full r ≡ None → r.entries + 1 ≤ r.rooms.entries
not_full r e =
    let room : r.entries < r.rooms.entries = leb-false r.rooms.entries r.entries (refuse_if_none (nat_le r.rooms.entries r.entries) (JournalFull r.entries) e) in
    omega arith

journal_room : (r : Register) (request : Request) (day : ℕ) (cover : Option PlainRange) (card : Option Card)
    → first_of (late_rules r request day cover card) ≡ None → journal_full r ≡ None
journal_room r (Receive range) day cover card late = (or_none (journal_full r) None (or_none (register_full r (Receive range) cover card) _ late).1).0
journal_room r (AddHolder holder) day cover card late = (or_none (journal_full r) None (or_none (holders_full r) _ late).1).0
journal_room r (EditHolder holder) day cover card late = (or_none (journal_full r) None late).0
journal_room r (Delegate space amount status handle) day cover card late =
    (or_none (journal_full r) None (or_none (register_full r (Delegate space amount status handle) cover card) _ (or_none (no_block cover) _ late).1).1).0
journal_room r (Reserve range) day cover card late = (or_none (journal_full r) None (or_none (register_full r (Reserve range) cover card) _ late).1).0
journal_room r (Unreserve range) day cover card late = (or_none (journal_full r) None late).0
journal_room r (SubAssign range handle) day cover card late = (or_none (journal_full r) _ late).0
journal_room r (SubReturn range) day cover card late = (or_none (journal_full r) None late).0
journal_room r (Return range handle) day cover card late = (or_none (journal_full r) None (or_none (has_subs r range) _ late).1).0
journal_room r (Release range) day cover card late = (or_none (journal_full r) None (or_none (not_due r range day) _ late).1).0
journal_room r (Split at) day cover card late =
    (or_none (journal_full r) None (or_none (register_full r (Split at) cover card) _ (or_none (straddled r at) _ late).1).1).0
journal_room r (Join at) day cover card late = (or_none (journal_full r) None late).0
journal_room r (Transfer range from to) day cover card late = (or_none (journal_full r) None (or_none (within_hold_time r range day) _ late).1).0
journal_room r (SetReverse range servers) day cover card late = (or_none (journal_full r) _ (or_none (no_reverse_space range) _ late).1).0
journal_room r (ClearReverse range) day cover card late = (or_none (journal_full r) None late).0

-- ---- the step

-- what is known of the cover and the card that are the entry's own is known of the entry's
of_entry : (P : Option PlainRange → Option Card → Type 0) (cover own : Option PlainRange) (card mine : Option Card) → cover ≡ own → card ≡ mine
    → P own mine → P cover card
of_entry P cover own card mine e f h = subst (λ x. P x card) (sym e) (subst (P own) (sym f) h)

-- the days of an entry that may come next
record IsDayBehind (r : Register) (day : ℕ) : Type 0 where
  dated : 1 ≤ day
  later : r.last_day ≤ day
  within : day ≤ last_date

day_behind : (r : Register) (day : ℕ) → (nat_le 1 day && nat_le r.last_day day && nat_le day last_date) ≡ true → IsDayBehind r day
day_behind r day e =
    let p = and_parts (nat_le 1 day && nat_le r.last_day day) (nat_le day last_date) e in
    let q = and_parts (nat_le 1 day) (nat_le r.last_day day) p.0 in
    record { dated = leb-true 1 day q.0; later = leb-true r.last_day day q.1; within = leb-true day last_date p.1 }

-- the day of the last entry never falls
pub later_day : (r : Register) (e : PlainEntry) → IsNextEntry r e → r.last_day ≤ e.day
later_day r e next = (day_behind r e.day (next_facts r e next).day).later

first_day_bound : (b : Bool) (first last day : ℕ) → first ≤ last → last ≤ day → cond b day first ≤ day
first_day_bound b first last day h k = cond_both b day first (λ x. x ≤ day) (λ e. omega arith) (λ e. omega arith)

pub next_whole : (r : Register) (e : PlainEntry) → IsWholeRegister r → IsNextEntry r e → IsWholeRegister (after_entry r e)
next_whole r e h next =
    let s : Register = after_entry r e in
    let facts = next_facts r e next in
    let day = day_behind r e.day facts.day in
    let later : r.last_day ≤ s.last_day = day.later in
    let dated : IsDayIn s e.day = (day.dated, omega arith) in
    let more : length r.holders ≤ length s.holders = more_holders e.request e.day r.holders in
    let until : ℕ = until_of e.card in
    let start : Option ℕ = start_of e.cover in
    let own : Option PlainRange = cover_for r e.request start in
    let mine : Option Card = card_for r e.request e.day until in
    let late : first_of (late_rules r e.request e.day own mine) ≡ None =
    of_entry (λ x y. first_of (late_rules r e.request e.day x y) ≡ None) own e.cover mine e.card (sym facts.cover) (sym facts.card) facts.late in
    let keeps : Keeps r.pool s.pool (touches e.request) =
    of_entry (λ x y. Keeps r.pool (pool_after e.request x y r.pool) (touches e.request)) e.cover own e.card mine facts.cover facts.card
    (keeps_by r e.request e.day until start h.pieces facts.valid facts.early facts.block
    (by_request r e.request e.day until start h.pieces facts.valid facts.early facts.block).partition) in
    let card : MatchOption e.card (Unit {0}) (IsCardIn s) =
    subst (λ y. MatchOption y (Unit {0}) (IsCardIn s)) (sym facts.card)
    (card_by r s e.request e.day until facts.valid facts.early facts.until more day.dated (omega arith)) in
    let untouched = subs_untouched r e.request e.day e.cover e.card facts.late in
    record {
      pieces = (next_conserves r e h.pieces next).partition;
      cards = cards_after s e.request e.cover e.card r.pool (λ space. cards_moved r s (register_pieces r space) more later (h.cards space)) card;
      subs_apart = subs_apart r e.request e.day facts.valid facts.early h.subs_apart;
      subs =
          each_of_subs s s.subs
          (subs_in r s e.request e.day facts.valid facts.early keeps more later dated untouched h.subs_apart h.subs);
      reverses_apart = reverses_apart r e.request facts.valid facts.early h.reverses_apart;
      reverses =
          each_of_reverses s s.reverses
          (reverses_in r s e.request e.day e.cover e.card facts.valid facts.early facts.late keeps h.reverses_apart h.reverses);
      handles = handles_after r e.request e.day facts.early h.handles;
      holder_days = days_after s e.request e.day r.holders dated (days_moved r s r.holders later h.holder_days);
      days = (first_day_bound (r.entries == 0) r.first_day r.last_day e.day h.days.0 day.later, day.within);
      rooms = record {
        pieces =
            of_entry (λ x y. piece_count (pool_after e.request x y r.pool) ≤ r.rooms.pieces) e.cover own e.card mine facts.cover facts.card
            (count_by r e.request e.day until start h.pieces facts.valid facts.early late h.rooms.pieces);
        holders = holders_room r e.request e.day e.cover e.card facts.late h.rooms.holders;
        subs = subs_room r e.request e.day e.cover e.card facts.late h.rooms.subs;
        reverse = reverses_room r e.request e.day e.cover e.card facts.valid facts.late h.reverses_apart h.rooms.reverse;
        entries = not_full r (journal_room r e.request e.day e.cover e.card facts.late);
      };
    }

-- ---- lists of entries

pub whole_from : (r : Register) (es : List PlainEntry) → IsWholeRegister r → IsLegalFrom r es → IsWholeRegister (after_entries r es)
whole_from r [] h legal = h
whole_from r (e ∷ es) h legal = whole_from (after_entry r e) es (next_whole r e h legal.0) legal.1

pub empty_is_whole : (rooms : Rooms) → IsWholeRegister (empty_register rooms)
empty_is_whole rooms = record {
  pieces = legal_partition rooms [] tt;
  cards = λ space. none_in space;
  subs_apart = tt;
  subs = tt;
  reverses_apart = tt;
  reverses = tt;
  handles = tt;
  holder_days = tt;
  days = (omega arith, omega arith);
  rooms = record { pieces = omega arith; holders = omega arith; subs = omega arith; reverse = omega arith; entries = omega arith };
}
  where
    none_in : (space : Space) → HaveCardsIn (empty_register rooms) (register_pieces (empty_register rooms) space)
    none_in Asn = tt
    none_in Ipv4 = tt
    none_in Ipv6 = tt

pub legal_whole : (rooms : Rooms) (es : List PlainEntry) → IsLegal rooms es → IsWholeRegister (register_after rooms es)
legal_whole rooms es legal = whole_from (empty_register rooms) es (empty_is_whole rooms) legal
