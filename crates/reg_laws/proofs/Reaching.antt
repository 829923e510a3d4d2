-- The registers that legal lists of entries give, and the facts that go on with the next entry.
use Rattle.std.proofs.Common.{◌≡◌, ℕ, ◌+◌, ◌<◌, ◌==◌, true, false, cond, List, [], ◌∷◌, ◌++◌, length, None, option_to_list, sym, ◌∙◌, refl, ap, subst, arith}
use Rattle.std.specs.Option.{is_some, option_or}
use Rattle.std.proofs.lemmas.Bool.{cond-false, both_ways, eqb-true, false_from_ne_true}
use Rattle.num_range.specs.declared.space.Space.{Space}
use Rattle.num_range.specs.Number.{PlainNumber}
use Rattle.reg_entry.specs.Entry.{PlainEntry}
use Rattle.reg_entry.specs.declared.rooms.Rooms.{Rooms}
use Rattle.reg_entry.specs.declared.request.Request.{Request}
use Rattle.reg_entry.specs.declared.request.Request.TheVariants.{Receive, AddHolder, EditHolder, Delegate, Reserve, Unreserve, SubAssign, SubReturn, Return, Release, Split, Join, Transfer, SetReverse, ClearReverse}
use Rattle.reg_entry.specs.Request.{is_reshaping}
use Rattle.reg_entry.specs.Pieces.{cards_at, size_sum}
use Rattle.reg_entry.specs.Entries.{covers, last_card, painted_card, received_range, received_size, is_received, size_within, first_day_of, last_day_after, last_day_of}
use Rattle.reg_entry.specs.Covers.{card_for}
use Rattle.reg_entry.specs.Register.{Register, register_pieces, card_of, after_entry, after_entries, register_after, empty_register}
use Rattle.reg_entry.specs.Next.{until_of, IsNextEntry, IsLegalFrom, IsLegal}
use Rattle.reg_entry.proofs.OnePiece.{cards_at-card_at}
use Rattle.reg_entry.specs.Whole.{IsWholeRegister}
use Rattle.reg_laws.specs.Reached.{IsRegisterOf, IsReached}
use Rattle.reg_laws.proofs.NextFacts.{next_facts}
use Rattle.reg_laws.proofs.Conserving.{or_assoc, or_nothing, next_conserves, legal_cards, legal_pooled, legal_sizes}
use Rattle.reg_laws.proofs.Painted.{no_card}
use Rattle.reg_laws.proofs.WholeStep.{legal_whole}

-- ---- one entry more

pub legal-append : (r : Register) (es fs : List PlainEntry) → IsLegalFrom r es → IsLegalFrom (after_entries r es) fs → IsLegalFrom r (es ++ fs)
legal-append r [] fs legal more = more
legal-append r (e ∷ es) fs legal more = (legal.0, legal-append (after_entry r e) es fs legal.1 more)

pub after_entries-append : (r : Register) (es fs : List PlainEntry) → after_entries r (es ++ fs) ≡ after_entries (after_entries r es) fs
after_entries-append r [] fs = refl
after_entries-append r (e ∷ es) fs = after_entries-append (after_entry r e) es fs

rooms_from : (r : Register) (es : List PlainEntry) → (after_entries r es).rooms ≡ r.rooms
rooms_from r [] = refl
rooms_from r (e ∷ es) = rooms_from (after_entry r e) es

pub register_of_legal : (rooms : Rooms) (es : List PlainEntry) → IsLegal rooms es → IsRegisterOf (register_after rooms es) es
register_of_legal rooms es legal =
    let same : (register_after rooms es).rooms ≡ rooms = rooms_from (empty_register rooms) es in
    record { legal = subst (λ x. IsLegal x es) (sym same) legal; same = ap (λ x. register_after x es) same }

pub register_of_more : (r : Register) (es : List PlainEntry) (e : PlainEntry) → IsRegisterOf r es → IsNextEntry r e → IsRegisterOf (after_entry r e) (es ++ e ∷ [])
register_of_more r es e h next = record {
  legal = legal-append (empty_register r.rooms) es (e ∷ []) h.legal (subst (λ s. IsNextEntry s e) (sym h.same) next, tt);
  same = after_entries-append (empty_register r.rooms) es (e ∷ []) ∙ ap (λ s. after_entry s e) h.same;
}

pub reached_next : (r : Register) (e : PlainEntry) → IsReached r → IsNextEntry r e → IsReached (after_entry r e)
reached_next r e reached next = (reached.0 ++ e ∷ [], register_of_more r reached.0 e reached.1 next)

-- ---- what holds of the registers that are reached

pub reached_whole : (r : Register) → IsReached r → IsWholeRegister r
reached_whole r reached = subst IsWholeRegister reached.1.same (legal_whole r.rooms reached.0 reached.1.legal)

pub reached_cards : (r : Register) (es : List PlainEntry) (n : PlainNumber) → IsRegisterOf r es → card_of r.pool n ≡ last_card es n
reached_cards r es n h = ap (λ s. card_of s.pool n) (sym h.same) ∙ legal_cards r.rooms es n h.legal

pub reached_sizes : (r : Register) (es : List PlainEntry) (space : Space) → IsRegisterOf r es → size_sum (register_pieces r space) ≡ received_size es space
reached_sizes r es space h = ap (λ s. size_sum (register_pieces s space)) (sym h.same) ∙ legal_sizes r.rooms es space h.legal

-- ---- the next entry

pub next_cards : (r : Register) (e : PlainEntry) (n : PlainNumber) → IsWholeRegister r → IsNextEntry r e
    → card_of (after_entry r e).pool n ≡ option_or (painted_card e n) (card_of r.pool n)
next_cards r e n h next = (next_conserves r e h.pieces next).cards n

pub next_sizes : (r : Register) (e : PlainEntry) (space : Space) → IsWholeRegister r → IsNextEntry r e
    → size_sum (register_pieces (after_entry r e) space) ≡ size_sum (register_pieces r space) + size_within space (received_range e.request)
next_sizes r e space h next =
    (next_conserves r e h.pieces next).sizes space ∙ turned (size_within space (received_range e.request)) (size_sum (register_pieces r space))
  where
    turned : (a b : ℕ) → a + b ≡ b + a
    turned a b = omega arith

-- ---- numbers, the count and the days

pub reached_pooled : (r : Register) (es : List PlainEntry) (n : PlainNumber) → IsRegisterOf r es → is_some (last_card es n) ≡ is_received es n
reached_pooled r es n h = legal_pooled r.rooms es n h.legal

pub reached_once : (r : Register) (es : List PlainEntry) (n : PlainNumber) → IsRegisterOf r es
    → cards_at (register_pieces r n.space) n.value ≡ option_to_list (last_card es n)
reached_once r es n h =
    let whole = subst IsWholeRegister h.same (legal_whole r.rooms es h.legal) in
    cards_at-card_at 0 (register_pieces r n.space) n.value (whole.pieces.each n.space).rises ∙ ap option_to_list (reached_cards r es n h)

count_from : (r : Register) (es : List PlainEntry) → (after_entries r es).entries ≡ r.entries + length es
count_from r [] = omega arith
count_from r (e ∷ es) = let rest = count_from (after_entry r e) es in omega arith

last_from : (r : Register) (es : List PlainEntry) → (after_entries r es).last_day ≡ last_day_after r.last_day es
last_from r [] = refl
last_from r (e ∷ es) = last_from (after_entry r e) es

first_kept : (r : Register) (es : List PlainEntry) → 0 < r.entries → (after_entries r es).first_day ≡ r.first_day
first_kept r [] some = refl
first_kept r (e ∷ es) some =
    first_kept (after_entry r e) es (omega arith)
    ∙ cond-false (r.entries == 0) e.day r.first_day (not_none r.entries some)
  where
    not_none : (n : ℕ) → 0 < n → (n == 0) ≡ false
    not_none n some = false_from_ne_true (n == 0) (λ e. let is : n ≡ 0 = eqb-true n 0 e in omega arith)

pub reached_count : (r : Register) (es : List PlainEntry) → IsRegisterOf r es → r.entries ≡ length es
reached_count r es h = let count = count_from (empty_register r.rooms) es in ap (λ s. s.entries) (sym h.same) ∙ count ∙ (let zero_plus : 0 + length es ≡ length es = omega arith in zero_plus)

first_of_list : (rooms : Rooms) (es : List PlainEntry) → (after_entries (empty_register rooms) es).first_day ≡ first_day_of es
first_of_list rooms [] = refl
first_of_list rooms (e ∷ es) = first_kept (after_entry (empty_register rooms) e) es (omega arith)

pub reached_first_day : (r : Register) (es : List PlainEntry) → IsRegisterOf r es → r.first_day ≡ first_day_of es
reached_first_day r es h = ap (λ s. s.first_day) (sym h.same) ∙ first_of_list r.rooms es

pub reached_last_day : (r : Register) (es : List PlainEntry) → IsRegisterOf r es → r.last_day ≡ last_day_of es
reached_last_day r es h = ap (λ s. s.last_day) (sym h.same) ∙ last_from (empty_register r.rooms) es

-- ---- the last card across one entry

last_card-append : (es : List PlainEntry) (e : PlainEntry) (n : PlainNumber) → last_card (es ++ e ∷ []) n ≡ option_or (painted_card e n) (last_card es n)
last_card-append [] e n = sym (or_nothing (painted_card e n))
last_card-append (d ∷ es) e n =
    ap (λ o. option_or o (painted_card d n)) (last_card-append es e n) ∙ sym (or_assoc (painted_card e n) (last_card es n) (painted_card d n))

pub last_card_outside : (es : List PlainEntry) (e : PlainEntry) (n : PlainNumber) → covers e.cover n ≡ false
    → last_card (es ++ e ∷ []) n ≡ last_card es n
last_card_outside es e n outside =
    last_card-append es e n ∙ ap (λ o. option_or o (last_card es n)) (cond-false (covers e.cover n) e.card None outside)

pub last_card_unpainted : (es : List PlainEntry) (e : PlainEntry) (n : PlainNumber) → e.card ≡ None → last_card (es ++ e ∷ []) n ≡ last_card es n
last_card_unpainted es e n nothing =
    last_card-append es e n
    ∙ ap (λ c. option_or (cond (covers e.cover n) c None) (last_card es n)) nothing
    ∙ sym (no_card (covers e.cover n) (last_card es n))

unpainted : (r : Register) (request : Request) (day until : ℕ) → is_reshaping request ≡ true → card_for r request day until ≡ None
unpainted r (Split at) day until e = refl
unpainted r (Join at) day until e = refl
unpainted r (Receive range) day until e = absurd (both_ways false refl e)
unpainted r (AddHolder holder) day until e = absurd (both_ways false refl e)
unpainted r (EditHolder holder) day until e = absurd (both_ways false refl e)
unpainted r (Delegate space amount status handle) day until e = absurd (both_ways false refl e)
unpainted r (Reserve range) day until e = absurd (both_ways false refl e)
unpainted r (Unreserve range) day until e = absurd (both_ways false refl e)
unpainted r (SubAssign range handle) day until e = absurd (both_ways false refl e)
unpainted r (SubReturn range) day until e = absurd (both_ways false refl e)
unpainted r (Return range handle) day until e = absurd (both_ways false refl e)
unpainted r (Release range) day until e = absurd (both_ways false refl e)
unpainted r (Transfer range from to) day until e = absurd (both_ways false refl e)
unpainted r (SetReverse range servers) day until e = absurd (both_ways false refl e)
unpainted r (ClearReverse range) day until e = absurd (both_ways false refl e)

pub last_card_reshaped : (r : Register) (es : List PlainEntry) (e : PlainEntry) (n : PlainNumber) → IsNextEntry r e → is_reshaping e.request ≡ true
    → last_card (es ++ e ∷ []) n ≡ last_card es n
last_card_reshaped r es e n next reshapes =
    last_card_unpainted es e n ((next_facts r e next).card ∙ unpainted r e.request e.day (until_of e.card) reshapes)
