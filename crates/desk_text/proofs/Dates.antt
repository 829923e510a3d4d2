-- The days that the refusals of a whole register tell can be written.
use Rattle.std.proofs.Common.{◌≡◌, ◌∙◌, subst, inl, inr, ℕ, ◌<◌, ◌≤◌, Bool, true, false, cond, List, [], ◌∷◌, length, Option, None, Some, IfSome, refl, sym, arith}
use Rattle.std.proofs.lemmas.Bool.{cases_Bool}
use Rattle.std.proofs.lemmas.Option.{none-some, same_Some}
use Rattle.std.specs.Prelude.{◌+◌, ◌*◌, ◌/◌, not, ◌&&◌, ◌==◌, nat_eq, nat_lt}
use Rattle.std.specs.Option.{option_or, option_map, option_and_then, option_eq}
use Rattle.num_range.specs.Number.{PlainNumber}
use Rattle.num_range.specs.Range.{PlainRange}
use Rattle.reg_entry.specs.declared.card.Card.{Card}
use Rattle.reg_entry.specs.declared.piece.Piece.{Piece}
use Rattle.reg_entry.specs.declared.refusal.Refusal.{Refusal}
use Rattle.reg_entry.specs.declared.refusal.Refusal.TheVariants.{NotOnePiece, WrongStatus, NotHolder, CardsDiffer, HolderKind, OverCap, UnderUsed, HoldTime, NotDue}
use Rattle.reg_entry.specs.declared.card.Status.{Status}
use Rattle.reg_entry.specs.declared.policy.Row.{Row}
use Rattle.num_range.specs.declared.space.Space.{Space}
use Rattle.reg_entry.specs.declared.request.Request.{Request}
use Rattle.reg_entry.specs.declared.request.Request.TheVariants.{Receive, AddHolder, EditHolder, Delegate, Reserve, Unreserve, SubAssign, SubReturn, Return, Release, Split, Join, Transfer, SetReverse, ClearReverse}
use Rattle.reg_entry.specs.Days.{last_date}
use Rattle.reg_entry.specs.Covers.{first_number, number_before}
use Rattle.reg_entry.specs.Decision.{refuse_if, first_of, on_piece, not_in_one_piece, not_one_piece, begins_a_piece, begins_no_piece, wrong_status, not_holder, cards_differ, kind_left_out, over_cap, under_used, transfer_rules, transferred_size, within_hold_time, not_due, early_rules, policy_rules, late_rules, refusal_of, reply_of, proposed_entry, decision}
use Rattle.reg_entry.specs.Request.{status_of, amount_size}
use Rattle.reg_entry.specs.Ranges.{same_range, lies_inside}
use Rattle.reg_entry.specs.Sums.{held, allocated, used}
use Rattle.reg_entry.specs.Card.{same_card}
use Rattle.reg_entry.specs.Holders.{holder_number, holder_named, handle_at}
use Rattle.reg_entry.specs.Entry.{PlainEntry}
use Rattle.reg_entry.specs.Policy.{PlainPolicy, policy_row, lists_kind}
use Rattle.reg_entry.specs.Register.{Register, register_pieces, piece_of}
use Rattle.reg_entry.specs.Pieces.{piece_at, piece_holds}
use Rattle.reg_entry.specs.Whole.{IsCardIn, HaveCardsIn, IsWholeRegister}
use Rattle.reg_entry.proofs.Holding.{piece_at-first, piece_at-rest}
use Rattle.desk_text.specs.ReplyText.{RefusalHasDate, ReplyHasDate}

-- ---- pieces

-- the card of the piece that holds a number is one of the register's
card_in : (r : Register) (ps : List Piece) (x : ℕ) (p : Piece) → HaveCardsIn r ps → piece_at ps x ≡ Some p → IsCardIn r p.card
card_in r [] x p each e = absurd (none-some p e)
card_in r (q ∷ qs) x p each e =
    elim (cases_Bool (piece_holds q x)) [
      | inl t ↦ subst (λ (s : Piece). IsCardIn r s.card) (same_Some q p (sym (piece_at-first q qs x t) ∙ e)) each.0
      | inr f ↦ card_in r qs x p each.1 (sym (piece_at-rest q qs x f) ∙ e)
    ]

piece_until : (r : Register) (n : PlainNumber) (p : Piece) → IsWholeRegister r → piece_of r.pool n ≡ Some p → p.card.until ≤ last_date
piece_until r n p whole e = let c = card_in r (register_pieces r n.space) n.value p (whole.cards n.space) e in c.until

-- ---- refusals

record HasDate (o : Option Refusal) : Type 0 where
  date : IfSome o RefusalHasDate

refused : (b : Bool) (x : Refusal) → RefusalHasDate x → HasDate (refuse_if b x)
refused true x h = record { date = h }
refused false x h = record { date = tt }

or_dates : (a b : Option Refusal) → HasDate a → HasDate b → HasDate (option_or a b)
or_dates None b h k = k
or_dates (Some x) b h k = h

mapped : {A : Type 0} (f : A → Refusal) (o : Option A) → ((x : A) → RefusalHasDate (f x)) → HasDate (option_map f o)
mapped f None h = record { date = tt }
mapped f (Some x) h = record { date = h x }

looked_up : {A : Type 0} (f : A → Option Refusal) (o : Option A) → ((x : A) → o ≡ Some x → HasDate (f x)) → HasDate (option_and_then f o)
looked_up f None h = record { date = tt }
looked_up f (Some x) h = h x refl

chosen : (b : Bool) (a : Option Refusal) → HasDate a → HasDate (cond b a None)
chosen true a h = h
chosen false a h = record { date = tt }

-- a condition on what is looked up
seen : {A : Type 0} (f : A → Option Refusal) (o : Option A) → ((x : A) → HasDate (f x)) → HasDate (option_and_then f o)
seen f o h = looked_up f o (λ x e. h x)

-- ---- the conditions on what is looked up

not_in_one_piece_dates : (r : Register) (range : PlainRange) → HasDate (not_in_one_piece r range)
not_in_one_piece_dates r range =
    seen (λ p. refuse_if (not (lies_inside range p.range)) (NotOnePiece p.range)) (piece_of r.pool (first_number range)) (λ p. refused _ _ tt)

not_one_piece_dates : (r : Register) (range : PlainRange) → HasDate (not_one_piece r range)
not_one_piece_dates r range =
    seen (λ p. refuse_if (not (same_range range p.range)) (NotOnePiece p.range)) (piece_of r.pool (first_number range)) (λ p. refused _ _ tt)

begins_a_piece_dates : (r : Register) (at : PlainNumber) → HasDate (begins_a_piece r at)
begins_a_piece_dates r at = seen (λ p. refuse_if (p.range.first == at.value) (NotOnePiece p.range)) (piece_of r.pool at) (λ p. refused _ _ tt)

begins_no_piece_dates : (r : Register) (at : PlainNumber) → HasDate (begins_no_piece r at)
begins_no_piece_dates r at =
    seen (λ p. refuse_if (not (p.range.first == at.value)) (NotOnePiece p.range)) (piece_of r.pool at) (λ p. refused _ _ tt)

wrong_status_dates : (r : Register) (n : PlainNumber) (accepts : Status → Bool) → HasDate (wrong_status r n accepts)
wrong_status_dates r n accepts =
    seen (λ p. refuse_if (not (accepts p.card.status)) (WrongStatus p.card.status)) (piece_of r.pool n) (λ p. refused _ _ tt)

not_holder_dates : (r : Register) (range : PlainRange) (handle : List ℕ) → HasDate (not_holder r range handle)
not_holder_dates r range handle =
    seen
    (λ p.
    option_and_then
    (λ holder. refuse_if (not (option_eq nat_eq (Some holder) (holder_number r.holders handle))) (NotHolder (handle_at r.holders holder)))
    p.card.holder)
    (piece_of r.pool (first_number range))
    (λ p.
    seen
    (λ holder. refuse_if (not (option_eq nat_eq (Some holder) (holder_number r.holders handle))) (NotHolder (handle_at r.holders holder)))
    p.card.holder
    (λ holder. refused _ _ tt))

cards_differ_dates : (r : Register) (at : PlainNumber) → HasDate (cards_differ r at)
cards_differ_dates r at =
    seen (λ p. option_and_then (λ q. refuse_if (not (same_card p.card q.card)) (CardsDiffer p.range)) (piece_of r.pool at))
    (piece_of r.pool (number_before at))
    (λ p. seen (λ q. refuse_if (not (same_card p.card q.card)) (CardsDiffer p.range)) (piece_of r.pool at) (λ q. refused _ _ tt))

kind_left_out_dates : (r : Register) (row : Row) (handle : List ℕ) → HasDate (kind_left_out r row handle)
kind_left_out_dates r row handle =
    seen (λ holder. refuse_if (not (lists_kind row holder.kind)) (HolderKind holder.kind)) (holder_named r.holders handle) (λ holder. refused _ _ tt)

over_cap_dates : (r : Register) (row : Row) (space : Space) (handle : List ℕ) (more : ℕ) → HasDate (over_cap r row space handle more)
over_cap_dates r row space handle more =
    seen (λ holder. refuse_if (nat_lt row.cap (held r holder space + more)) (OverCap (held r holder space + more) row.cap))
    (holder_number r.holders handle) (λ holder. refused _ _ tt)

under_used_dates : (r : Register) (row : Row) (space : Space) (handle : List ℕ) → HasDate (under_used r row space handle)
under_used_dates r row space handle =
    seen
    (λ holder.
    refuse_if
    (nat_lt 0 (allocated r holder space) && nat_lt (used r holder space) (allocated r holder space * row.percent / 100))
    (UnderUsed (used r holder space) (allocated r holder space)))
    (holder_number r.holders handle) (λ holder. refused _ _ tt)

transfer_dates : (r : Register) (p : PlainPolicy) (range : PlainRange) (to : List ℕ)
    → HasDate (on_piece r (first_number range) (transfer_rules r p range.space to))
transfer_dates r p range to =
    seen (transfer_rules r p range.space to) (piece_of r.pool (first_number range))
    (λ piece.
    or_dates _ _ (kind_left_out_dates r (policy_row p range.space piece.card.status) to)
    (over_cap_dates r (policy_row p range.space piece.card.status) range.space to (transferred_size r piece to)))

-- these tell a day, which is a piece's
hold_dates : (r : Register) (range : PlainRange) (day : ℕ) → IsWholeRegister r → HasDate (within_hold_time r range day)
hold_dates r range day whole =
    looked_up (λ p. refuse_if (nat_lt day p.card.until) (HoldTime p.card.until)) (piece_of r.pool (first_number range))
    (λ p e. refused _ _ (piece_until r (first_number range) p whole e))

due_dates : (r : Register) (range : PlainRange) (day : ℕ) → IsWholeRegister r → HasDate (not_due r range day)
due_dates r range day whole =
    looked_up (λ p. refuse_if (nat_lt day p.card.until) (NotDue p.card.until)) (piece_of r.pool (first_number range))
    (λ p e. refused _ _ (piece_until r (first_number range) p whole e))

-- ---- the tables

abbrev HaveDates : List (Option Refusal) → Type 0
HaveDates [] = Unit {0}
HaveDates (x ∷ xs) = HasDate x × HaveDates xs

first_dates : (xs : List (Option Refusal)) → HaveDates xs → HasDate (first_of xs)
first_dates [] h = record { date = tt }
first_dates (x ∷ xs) h = or_dates x (first_of xs) h.0 (first_dates xs h.1)

early_dates : (r : Register) (request : Request) → HaveDates (early_rules r request)
early_dates r (Receive range) = (mapped _ _ (λ n. tt), (mapped _ _ (λ n. tt), tt))
early_dates r (AddHolder holder) = (refused _ _ tt, tt)
early_dates r (EditHolder holder) = (refused _ _ tt, tt)
early_dates r (Delegate space amount status handle) = (refused _ _ tt, tt)
early_dates r (Reserve range) =
    (mapped _ _ (λ n. tt), (not_in_one_piece_dates r range, (wrong_status_dates r (first_number range) _, tt)))
early_dates r (Unreserve range) =
    (mapped _ _ (λ n. tt), (not_one_piece_dates r range, (wrong_status_dates r (first_number range) _, tt)))
early_dates r (SubAssign range handle) =
    (mapped _ _ (λ n. tt), (not_in_one_piece_dates r range, (wrong_status_dates r (first_number range) _, (refused _ _ tt, (mapped _ _ (λ n. tt), tt)))))
early_dates r (SubReturn range) = (refused _ _ tt, tt)
early_dates r (Return range handle) =
    (mapped _ _ (λ n. tt), (not_one_piece_dates r range, (wrong_status_dates r (first_number range) _, (refused _ _ tt, (not_holder_dates r range handle, tt)))))
early_dates r (Release range) =
    (mapped _ _ (λ n. tt), (not_one_piece_dates r range, (wrong_status_dates r (first_number range) _, tt)))
early_dates r (Split at) = (refused _ _ tt, (begins_a_piece_dates r at, (wrong_status_dates r at _, tt)))
early_dates r (Join at) =
    (refused _ _ tt, (refused _ _ tt, (refused _ _ tt, (begins_no_piece_dates r at, (wrong_status_dates r at _, (cards_differ_dates r at, tt))))))
early_dates r (Transfer range from to) =
    (mapped _ _ (λ n. tt), (not_one_piece_dates r range, (wrong_status_dates r (first_number range) _, (refused _ _ tt, (refused _ _ tt, (not_holder_dates r range from, tt))))))
early_dates r (SetReverse range servers) =
    (mapped _ _ (λ n. tt), (not_in_one_piece_dates r range, (wrong_status_dates r (first_number range) _, (mapped _ _ (λ n. tt), tt))))
early_dates r (ClearReverse range) = (refused _ _ tt, tt)

policy_dates : (r : Register) (p : PlainPolicy) (request : Request) → HaveDates (policy_rules r p request)
policy_dates r p (Receive range) = tt
policy_dates r p (AddHolder holder) = tt
policy_dates r p (EditHolder holder) = tt
policy_dates r p (Delegate space amount status handle) =
    (refused _ _ tt, (kind_left_out_dates r (policy_row p space (status_of status)) handle, (over_cap_dates r (policy_row p space (status_of status)) space handle (amount_size space amount), (chosen _ _ (under_used_dates r (policy_row p space (status_of status)) space handle), tt))))
policy_dates r p (Reserve range) = tt
policy_dates r p (Unreserve range) = tt
policy_dates r p (SubAssign range handle) = tt
policy_dates r p (SubReturn range) = tt
policy_dates r p (Return range handle) = tt
policy_dates r p (Release range) = tt
policy_dates r p (Split at) = tt
policy_dates r p (Join at) = tt
policy_dates r p (Transfer range from to) = (transfer_dates r p range to, tt)
policy_dates r p (SetReverse range servers) = tt
policy_dates r p (ClearReverse range) = tt

late_dates : (r : Register) (request : Request) (day : ℕ) (cover : Option PlainRange) (card : Option Card) → IsWholeRegister r
    → HaveDates (late_rules r request day cover card)
late_dates r (Receive range) day cover card whole = (refused _ _ tt, (refused _ _ tt, tt))
late_dates r (AddHolder holder) day cover card whole = (refused _ _ tt, (refused _ _ tt, tt))
late_dates r (EditHolder holder) day cover card whole = (refused _ _ tt, tt)
late_dates r (Delegate space amount status handle) day cover card whole = (refused _ _ tt, (refused _ _ tt, (refused _ _ tt, tt)))
late_dates r (Reserve range) day cover card whole = (refused _ _ tt, (refused _ _ tt, tt))
late_dates r (Unreserve range) day cover card whole = (refused _ _ tt, tt)
late_dates r (SubAssign range handle) day cover card whole = (refused _ _ tt, (refused _ _ tt, tt))
late_dates r (SubReturn range) day cover card whole = (refused _ _ tt, tt)
late_dates r (Return range handle) day cover card whole = (refused _ _ tt, (refused _ _ tt, tt))
late_dates r (Release range) day cover card whole = (due_dates r range day whole, (refused _ _ tt, tt))
late_dates r (Split at) day cover card whole = (mapped _ _ (λ n. tt), (refused _ _ tt, (refused _ _ tt, tt)))
late_dates r (Join at) day cover card whole = (refused _ _ tt, tt)
late_dates r (Transfer range from to) day cover card whole = (hold_dates r range day whole, (refused _ _ tt, tt))
late_dates r (SetReverse range servers) day cover card whole = (refused _ _ tt, (refused _ _ tt, (refused _ _ tt, tt)))
late_dates r (ClearReverse range) day cover card whole = (refused _ _ tt, tt)

reply_date : (o : Option Refusal) (e : PlainEntry) → HasDate o → ReplyHasDate (reply_of o e)
reply_date None e h = tt
reply_date (Some x) e h = h.date

-- the day that a refusal tells is that of a piece
pub decision_date : (r : Register) (p : PlainPolicy) (day : ℕ) (who : List ℕ) (request : Request) → IsWholeRegister r
    → ReplyHasDate (decision r p day who request)
decision_date r p day who request whole =
    let e = proposed_entry r p day who request in
    reply_date (refusal_of r p day who request) e
    (or_dates _ _ (refused _ _ tt)
    (or_dates _ _ (first_dates _ (early_dates r request))
    (or_dates _ _ (first_dates _ (policy_dates r p request)) (first_dates _ (late_dates r request e.day e.cover e.card whole)))))
