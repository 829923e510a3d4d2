-- What the next entry asks of the board's books, and that the board is kept by it.
use Rattle.std.proofs.Common.{◌≡◌, ℕ, suc, ◌+◌, ◌<◌, ◌≤◌, ◌^◌, ◌==◌, cond, true, false, List, [], ◌∷◌, length, map, Option, None, Some, MatchOption, refl, sym, ◌∙◌, ap, subst, arith, length-append}
use Rattle.std.proofs.lemmas.Bool.{both_ways}
use Rattle.num_range.specs.declared.space.Space.{Space}
use Rattle.num_range.specs.Number.{PlainNumber}
use Rattle.num_range.specs.Range.{PlainRange, size_of}
use Rattle.reg_entry.specs.declared.card.Card.{Card}
use Rattle.reg_entry.specs.declared.card.Status.{Status}
use Rattle.reg_entry.specs.declared.card.Status.TheVariants.{Available, Reserved, Quarantine, Allocated, Assigned}
use Rattle.reg_entry.specs.declared.holder.Holder.{Holder}
use Rattle.reg_entry.specs.declared.piece.Piece.{Piece}
use Rattle.reg_entry.specs.declared.request.Request.{Request}
use Rattle.reg_entry.specs.declared.request.Request.TheVariants.{Receive, AddHolder, EditHolder, Delegate, Reserve, Unreserve, SubAssign, SubReturn, Return, Release, Split, Join, Transfer, SetReverse, ClearReverse}
use Rattle.reg_entry.specs.declared.rooms.Rooms.{Rooms}
use Rattle.reg_entry.specs.declared.sub_card.SubCard.{SubCard}
use Rattle.reg_entry.specs.Card.{is_available, is_delegated}
use Rattle.reg_entry.specs.Covers.{card_for, first_number}
use Rattle.reg_entry.specs.Entry.{PlainEntry}
use Rattle.reg_entry.specs.Next.{until_of}
use Rattle.reg_entry.specs.Partition.{Partition, pieces_in, with_pieces, piece_count}
use Rattle.reg_entry.specs.Pieces.{laid}
use Rattle.reg_entry.specs.Register.{Register, piece_of, card_of, reshaped, painted, pool_after, holders_after, subs_after, reverses_after, after_entry}
use Rattle.reg_entry.specs.Reshaping.{split_at_number}
use Rattle.reg_entry.specs.Ranges.{ranges_inside}
use Rattle.reg_entry.specs.Sums.{held, allocated, used, ranges_size}
use Rattle.reg_entry.specs.Whole.{IsWholeRegister}
use Rattle.piece_book.specs.Book.{PlainBook}
use Rattle.piece_book.specs.Cutting.{IsSplitPlace}
use Rattle.holder_book.specs.Book.{PlainHolderBook}
use Rattle.holder_book.specs.HoldingBook.{PlainHoldingBook, held_in, allocated_in, used_in, used_of, used_of_card}
use Rattle.sub_book.specs.Book.{PlainRangeBook}
use Rattle.reg_laws.specs.Use.{used_by, used_by_card}
use Rattle.reg_entry.specs.Holdings.{held_by, held_by_card, allocated_by, allocated_by_card}
use Rattle.reg_laws.specs.Reached.{IsReached}
use Rattle.board.specs.declared.board.Board.TheInside.{Inside as BoardInside}
use Rattle.reg_entry.specs.declared.entry.Entry.TheInside.{Inside as EntryInside}
use Rattle.board.specs.Kept.{register_of, AreHoldingsIn, IsKeptIn}
use Rattle.board.proofs.Splitting.{split_adds}

-- the register and the entry of the fields
abbrev pub register_in : BoardInside → Register
register_in b = register_of b.rooms b.entries b.first_day b.last_day b.pieces b.holders b.subs b.reverse

abbrev pub entry_in : EntryInside → PlainEntry
entry_in e = record { seq = e.seq; day = e.day; who = e.who; request = e.request; cover = e.cover; card = e.card }

-- ---- the parts of the register after the entry

-- a request that adds and takes out no sub leaves the subs
pub same_subs : (request : Request) (day : ℕ) (hs : List (Holder × ℕ)) (subs : List (PlainRange × SubCard))
    → ((range : PlainRange) (handle : List ℕ) → request ≡ SubAssign range handle → ⊥) → ((range : PlainRange) → request ≡ SubReturn range → ⊥)
    → subs ≡ subs_after request day hs subs
same_subs (Receive range) day hs subs a b = refl
same_subs (AddHolder holder) day hs subs a b = refl
same_subs (EditHolder holder) day hs subs a b = refl
same_subs (Delegate space amount status handle) day hs subs a b = refl
same_subs (Reserve range) day hs subs a b = refl
same_subs (Unreserve range) day hs subs a b = refl
same_subs (SubAssign range handle) day hs subs a b = absurd (a range handle refl)
same_subs (SubReturn range) day hs subs a b = absurd (b range refl)
same_subs (Return range handle) day hs subs a b = refl
same_subs (Release range) day hs subs a b = refl
same_subs (Split at) day hs subs a b = refl
same_subs (Join at) day hs subs a b = refl
same_subs (Transfer range from to) day hs subs a b = refl
same_subs (SetReverse range servers) day hs subs a b = refl
same_subs (ClearReverse range) day hs subs a b = refl

-- a request that adds and edits no holder leaves the holders
pub same_holders : (request : Request) (day : ℕ) (hs : List (Holder × ℕ)) → ((holder : Holder) → request ≡ AddHolder holder → ⊥)
    → ((holder : Holder) → request ≡ EditHolder holder → ⊥) → hs ≡ holders_after request day hs
same_holders (Receive range) day hs a b = refl
same_holders (AddHolder holder) day hs a b = absurd (a holder refl)
same_holders (EditHolder holder) day hs a b = absurd (b holder refl)
same_holders (Delegate space amount status handle) day hs a b = refl
same_holders (Reserve range) day hs a b = refl
same_holders (Unreserve range) day hs a b = refl
same_holders (SubAssign range handle) day hs a b = refl
same_holders (SubReturn range) day hs a b = refl
same_holders (Return range handle) day hs a b = refl
same_holders (Release range) day hs a b = refl
same_holders (Split at) day hs a b = refl
same_holders (Join at) day hs a b = refl
same_holders (Transfer range from to) day hs a b = refl
same_holders (SetReverse range servers) day hs a b = refl
same_holders (ClearReverse range) day hs a b = refl

-- a request that splits and joins no pieces leaves them
pub not_reshaped : (request : Request) (pool : Partition) → ((at : PlainNumber) → request ≡ Split at → ⊥) → ((at : PlainNumber) → request ≡ Join at → ⊥)
    → reshaped request pool ≡ pool
not_reshaped (Split at) pool a b = absurd (a at refl)
not_reshaped (Join at) pool a b = absurd (b at refl)
not_reshaped request pool a b = refl

unpainted : (cover : Option PlainRange) (pool : Partition) → painted cover None pool ≡ pool
unpainted None pool = refl
unpainted (Some range) pool = refl

-- an entry without a card only reshapes
pub pool_unpainted : (request : Request) (cover : Option PlainRange) (card : Option Card) (pool : Partition) → card ≡ None
    → pool_after request cover card pool ≡ reshaped request pool
pool_unpainted request cover card pool e =
    ap (λ (c : Option Card). painted cover c (reshaped request pool)) e ∙ unpainted cover (reshaped request pool)

-- an entry that paints and doesn't reshape
pub pool_painted : (request : Request) (cover : Option PlainRange) (card : Option Card) (pool : Partition) (range : PlainRange) (c : Card)
    → cover ≡ Some range → card ≡ Some c → reshaped request pool ≡ pool
    → pool_after request cover card pool ≡ with_pieces pool range.space (laid (pieces_in pool range.space) range c)
pool_painted request cover card pool range c e f alone =
    ap (λ (x : Option PlainRange). painted x card (reshaped request pool)) e
    ∙ ap (λ (y : Option Card). painted (Some range) y (reshaped request pool)) f
    ∙ ap (λ (p : Partition). painted (Some range) (Some c) p) alone

-- ---- the register after the entry

abbrev with_parts : Rooms → ℕ → ℕ → ℕ → Partition → List (Holder × ℕ) → List (PlainRange × SubCard) → List (PlainRange × List (List ℕ)) → Register
with_parts rooms entries first last pool holders subs reverses = record {
  rooms = rooms;
  entries = entries;
  first_day = first;
  last_day = last;
  pool = pool;
  holders = holders;
  subs = subs;
  reverses = reverses;
}

pub register_is : (rooms : Rooms) (entries first last : ℕ) (ps qs : PlainBook) (hs ks : PlainHolderBook) (ss ts : PlainRangeBook SubCard)
    (vs ws : PlainRangeBook (List (List ℕ))) (e : PlainEntry) (day : ℕ) → day ≡ cond (entries == 0) e.day first
    → qs.partition ≡ pool_after e.request e.cover e.card ps.partition → ks.holders ≡ holders_after e.request e.day hs.holders
    → ts.ranges ≡ subs_after e.request e.day hs.holders ss.ranges → ws.ranges ≡ reverses_after e.request vs.ranges
    → register_of rooms (entries + 1) day e.day qs ks ts ws ≡ after_entry (register_of rooms entries first last ps hs ss vs) e
register_is rooms entries first last ps qs hs ks ss ts vs ws e day f p h s v =
    ap (λ (d : ℕ). with_parts rooms (entries + 1) d e.day qs.partition ks.holders ts.ranges ws.ranges) f
    ∙ ap (λ (x : Partition). with_parts rooms (entries + 1) (cond (entries == 0) e.day first) e.day x ks.holders ts.ranges ws.ranges) p
    ∙ ap (λ (x : List (Holder × ℕ)). with_parts rooms (entries + 1) (cond (entries == 0) e.day first) e.day
    (pool_after e.request e.cover e.card ps.partition) x ts.ranges ws.ranges) h
    ∙ ap (λ (x : List (PlainRange × SubCard)). with_parts rooms (entries + 1) (cond (entries == 0) e.day first) e.day
    (pool_after e.request e.cover e.card ps.partition) (holders_after e.request e.day hs.holders) x ws.ranges) s
    ∙ ap (λ (x : List (PlainRange × List (List ℕ))). with_parts rooms (entries + 1) (cond (entries == 0) e.day first) e.day
    (pool_after e.request e.cover e.card ps.partition) (holders_after e.request e.day hs.holders) (subs_after e.request e.day hs.holders ss.ranges) x) v

pub kept_by : (rooms : Rooms) (entries first last : ℕ) (ps qs : PlainBook) (hs ks : PlainHolderBook) (ss ts : PlainRangeBook SubCard)
    (vs ws : PlainRangeBook (List (List ℕ))) (e : PlainEntry) (day : ℕ) (book more : PlainHoldingBook)
    → IsKeptIn (register_of rooms entries first last ps hs ss vs) ps.room hs.room ss.room vs.room book
    → IsReached (after_entry (register_of rooms entries first last ps hs ss vs) e) → day ≡ cond (entries == 0) e.day first
    → qs.partition ≡ pool_after e.request e.cover e.card ps.partition → qs.room ≡ ps.room
    → ks.holders ≡ holders_after e.request e.day hs.holders → ks.room ≡ hs.room
    → ts.ranges ≡ subs_after e.request e.day hs.holders ss.ranges → ts.room ≡ ss.room
    → ws.ranges ≡ reverses_after e.request vs.ranges → ws.room ≡ vs.room
    → AreHoldingsIn (after_entry (register_of rooms entries first last ps hs ss vs) e) more → more.room ≡ book.room
    → IsKeptIn (register_of rooms (entries + 1) day e.day qs ks ts ws) qs.room ks.room ts.room ws.room more
kept_by rooms entries first last ps qs hs ks ss ts vs ws e day book more kept reached f p pr h hr s sr v vr holdings mr =
    subst (λ (x : Register). IsKeptIn x qs.room ks.room ts.room ws.room more) (sym (register_is rooms entries first last ps qs hs ks ss ts vs ws e day f p h s v))
    (record {
      reached = reached;
      rooms = kept.rooms;
      pieces = pr ∙ kept.pieces;
      holders = hr ∙ kept.holders;
      subs = sr ∙ kept.subs;
      reverse = vr ∙ kept.reverse;
      holding_room = mr ∙ kept.holding_room;
      holdings = holdings;
    })

-- ---- the holdings

pub unchanged_holdings : (r : Register) (e : PlainEntry) (book more : PlainHoldingBook) → AreHoldingsIn r book
    → ((holder : ℕ) (space : Space) → held (after_entry r e) holder space ≡ held r holder space)
    → ((holder : ℕ) (space : Space) → allocated (after_entry r e) holder space ≡ allocated r holder space)
    → ((holder : ℕ) (space : Space) → used (after_entry r e) holder space ≡ used r holder space)
    → length more.holdings ≡ length (after_entry r e).holders
    → ((holder : ℕ) (space : Space) → held_in more holder space ≡ held_in book holder space)
    → ((holder : ℕ) (space : Space) → allocated_in more holder space ≡ allocated_in book holder space)
    → ((holder : ℕ) (space : Space) → used_in more holder space ≡ used_in book holder space)
    → AreHoldingsIn (after_entry r e) more
unchanged_holdings r e book more h same_held same_allocated same_used count to_held to_allocated to_used = record {
  count = count;
  held = λ holder space. to_held holder space ∙ h.held holder space ∙ sym (same_held holder space);
  allocated = λ holder space. to_allocated holder space ∙ h.allocated holder space ∙ sym (same_allocated holder space);
  used = λ holder space. to_used holder space ∙ h.used holder space ∙ sym (same_used holder space);
}

-- what is held and allocated stays, and so much more or less is used
pub used_holdings : (r : Register) (e : PlainEntry) (book more : PlainHoldingBook) → AreHoldingsIn r book
    → ((holder : ℕ) (space : Space) → held (after_entry r e) holder space ≡ held r holder space)
    → ((holder : ℕ) (space : Space) → allocated (after_entry r e) holder space ≡ allocated r holder space)
    → length more.holdings ≡ length (after_entry r e).holders
    → ((holder : ℕ) (space : Space) → held_in more holder space ≡ held_in book holder space)
    → ((holder : ℕ) (space : Space) → allocated_in more holder space ≡ allocated_in book holder space)
    → ((holder : ℕ) (space : Space) → used_in more holder space ≡ used (after_entry r e) holder space)
    → AreHoldingsIn (after_entry r e) more
used_holdings r e book more h same_held same_allocated count to_held to_allocated to_used = record {
  count = count;
  held = λ holder space. to_held holder space ∙ h.held holder space ∙ sym (same_held holder space);
  allocated = λ holder space. to_allocated holder space ∙ h.allocated holder space ∙ sym (same_allocated holder space);
  used = to_used;
}

taken_and_given : (after was former given there here : ℕ) → after + former ≡ was + given → here + former ≡ there + given → there ≡ was → here ≡ after
taken_and_given after was former given there here e f g = omega arith

pub exchanged_holdings : (r : Register) (e : PlainEntry) (book more : PlainHoldingBook) (range : PlainRange) (former : Option Card) (c : Card) (n : ℕ)
    → AreHoldingsIn r book → former ≡ card_of r.pool (first_number range) → n ≡ ranges_size (ranges_inside r.subs range)
    → ((holder : ℕ) (space : Space) → held (after_entry r e) holder space + held_by holder space range (card_of r.pool (first_number range))
    ≡ held r holder space + held_by_card holder space range c)
    → ((holder : ℕ) (space : Space) → allocated (after_entry r e) holder space + allocated_by holder space range (card_of r.pool (first_number range))
    ≡ allocated r holder space + allocated_by_card holder space range c)
    → ((holder : ℕ) (space : Space) → used (after_entry r e) holder space + used_by r.subs holder space range (card_of r.pool (first_number range))
    ≡ used r holder space + used_by_card r.subs holder space range c)
    → length more.holdings ≡ length (after_entry r e).holders
    → ((holder : ℕ) (space : Space) → held_in more holder space + held_by holder space range former ≡ held_in book holder space + held_by_card holder space range c)
    → ((holder : ℕ) (space : Space) → allocated_in more holder space + allocated_by holder space range former
    ≡ allocated_in book holder space + allocated_by_card holder space range c)
    → ((holder : ℕ) (space : Space) → used_in more holder space + used_of holder space range former n ≡ used_in book holder space + used_of_card holder space range c n)
    → AreHoldingsIn (after_entry r e) more
exchanged_holdings r e book more range former c n h is size held_law allocated_law used_law count to_held to_allocated to_used = record {
  count = count;
  held = λ holder space.
      taken_and_given (held (after_entry r e) holder space) (held r holder space) (held_by holder space range former) (held_by_card holder space range c)
      (held_in book holder space) (held_in more holder space)
      (ap (λ (x : Option Card). held (after_entry r e) holder space + held_by holder space range x) is ∙ held_law holder space)
      (to_held holder space) (h.held holder space);
  allocated = λ holder space.
      taken_and_given (allocated (after_entry r e) holder space) (allocated r holder space) (allocated_by holder space range former)
      (allocated_by_card holder space range c) (allocated_in book holder space) (allocated_in more holder space)
      (ap (λ (x : Option Card). allocated (after_entry r e) holder space + allocated_by holder space range x) is ∙ allocated_law holder space)
      (to_allocated holder space) (h.allocated holder space);
  used = λ holder space.
      taken_and_given (used (after_entry r e) holder space) (used r holder space) (used_of holder space range former n)
      (used_of_card holder space range c n) (used_in book holder space) (used_in more holder space)
      (ap (λ (m : ℕ). used (after_entry r e) holder space + used_of holder space range former m) size
      ∙ ap (λ (x : Option Card). used (after_entry r e) holder space + used_by r.subs holder space range x) is ∙ used_law holder space
      ∙ ap (λ (m : ℕ). used r holder space + used_of_card holder space range c m) (sym size))
      (to_used holder space) (h.used holder space);
}

-- what is taken from what is used is used
pub taken_use : (subs : List (PlainRange × SubCard)) (holder : ℕ) (space : Space) (range : PlainRange) (former card : Option Card) (n was there : ℕ)
    → former ≡ card → n ≡ ranges_size (ranges_inside subs range) → used_by subs holder space range card ≤ was → there ≡ was
    → used_of holder space range former n ≤ there
taken_use subs holder space range former card n was there is size h same =
    subst (λ (m : ℕ). used_of holder space range former n ≤ m) (sym same)
    (subst (λ (m : ℕ). used_of holder space range former m ≤ was) (sym size) (subst (λ (o : Option Card). used_by subs holder space range o ≤ was) (sym is) h))

-- ---- a sub more, and one less

-- what is used of a range that is a sub is what is allocated of it
pub given_use : (was : ℕ) (holder : ℕ) (space : Space) (range : PlainRange) (o card : Option Card) (n : ℕ) → o ≡ card → n ≡ size_of range
    → was + allocated_by holder space range card ≡ was + used_of holder space range o n
given_use was holder space range o card n is size =
    ap (λ (x : Option Card). was + allocated_by holder space range x) (sym is) ∙ ap (λ (m : ℕ). was + used_of holder space range o m) (sym size)

pub taken_sub : (holder : ℕ) (space : Space) (range : PlainRange) (o card : Option Card) (n was there : ℕ) → o ≡ card → n ≡ size_of range
    → allocated_by holder space range card ≤ was → there ≡ was → used_of holder space range o n ≤ there
taken_sub holder space range o card n was there is size h same =
    subst (λ (m : ℕ). used_of holder space range o n ≤ m) (sym same)
    (subst (λ (m : ℕ). used_of holder space range o m ≤ was) (sym size) (subst (λ (x : Option Card). allocated_by holder space range x ≤ was) (sym is) h))

pub used_below : (used allocated held : ℕ) → used ≤ allocated → allocated ≤ held → held < 2 ^ 127 → used < 2 ^ 127
used_below used allocated held f g h = omega arith

pub assigned_fits : (after was given there : ℕ) → after ≡ was + given → there ≡ was → after < 2 ^ 127 → there + given < 2 ^ 128
assigned_fits after was given there e f g = omega arith

pub now_used : (after was given there here : ℕ) → after ≡ was + given → there ≡ was → here ≡ there + given → here ≡ after
now_used after was given there here e f g = omega arith

pub no_longer_used : (after was given there here : ℕ) → after + given ≡ was → there ≡ was → here + given ≡ there → here ≡ after
no_longer_used after was given there here e f g = omega arith

pub fits_in : (after was former given there : ℕ) → after + former ≡ was + given → former ≤ was → there ≡ was → was < 2 ^ 127 → after < 2 ^ 127
    → there + given < 2 ^ 128
fits_in after was former given there e f g h k = omega arith

pub added_count : (request : Request) (day : ℕ) (hs : List (Holder × ℕ)) (holder : Holder) (n m : ℕ) → request ≡ AddHolder holder → n ≡ m + 1
    → m ≡ length hs → n ≡ length (holders_after request day hs)
added_count request day hs holder n m is e f =
    e ∙ ap (λ (k : ℕ). k + 1) f ∙ sym (length-append hs ((holder, day) ∷ []))
    ∙ ap (λ (q : Request). length (holders_after q day hs)) (sym is)

length_map : (f : Holder × ℕ → Holder × ℕ) (hs : List (Holder × ℕ)) → length (map f hs) ≡ length hs
length_map f [] = refl
length_map f (h ∷ hs) = ap (λ (n : ℕ). suc n) (length_map f hs)

-- an edited holder adds none
pub same_length : (request : Request) (day : ℕ) (hs : List (Holder × ℕ)) → ((holder : Holder) → request ≡ AddHolder holder → ⊥)
    → length hs ≡ length (holders_after request day hs)
same_length (AddHolder holder) day hs a = absurd (a holder refl)
same_length (EditHolder holder) day hs a = sym (length_map _ hs)
same_length request day hs a = refl

-- ---- what is asked of the pieces

not_available : (s : Status) → is_delegated s ≡ true → is_available s ≡ false
not_available Available e = absurd (both_ways false refl e)
not_available Reserved e = refl
not_available Quarantine e = refl
not_available Allocated e = refl
not_available Assigned e = refl

pub split_place : (pool : Partition) (at : PlainNumber)
    → (p : Piece) × (piece_of pool at ≡ Some p) × (is_delegated p.card.status ≡ true) × (p.range.first < at.value)
    → IsSplitPlace (pieces_in pool at.space) at.value
split_place pool at (p, e, d, lt) =
    subst (λ (o : Option Piece). MatchOption o ⊥ (λ p. (is_available p.card.status ≡ false) × (p.range.first < at.value))) (sym e)
    (not_available p.card.status d, lt)

pub split_room : (r : Register) (e : PlainEntry) (at : PlainNumber) (room : ℕ) → IsWholeRegister r → IsWholeRegister (after_entry r e)
    → e.request ≡ Split at → e.card ≡ None → room ≡ r.rooms.pieces
    → (p : Piece) × (piece_of r.pool at ≡ Some p) × (is_delegated p.card.status ≡ true) × (p.range.first < at.value)
    → piece_count r.pool < room
split_room r e at room whole after is bare same (p, found, d, lt) =
    let adds = split_adds r.pool at p whole.pieces found lt in
    let now : (after_entry r e).pool ≡ with_pieces r.pool at.space (split_at_number (pieces_in r.pool at.space) at.value) =
    pool_unpainted e.request e.cover e.card r.pool bare ∙ ap (λ (q : Request). reshaped q r.pool) is in
    let within : piece_count (after_entry r e).pool ≤ r.rooms.pieces = after.rooms.pieces in
    let count : piece_count (after_entry r e).pool ≡ piece_count r.pool + 1 = ap piece_count now ∙ adds in
    below (piece_count r.pool) (piece_count (after_entry r e).pool) r.rooms.pieces room count within same
  where
    below : (n m k room : ℕ) → m ≡ n + 1 → m ≤ k → room ≡ k → n < room
    below n m k room e f g = omega arith

pub paint_room : (r : Register) (e : PlainEntry) (range : PlainRange) (c : Card) (room : ℕ) → IsWholeRegister (after_entry r e)
    → e.cover ≡ Some range → e.card ≡ Some c → reshaped e.request r.pool ≡ r.pool → room ≡ r.rooms.pieces
    → piece_count (with_pieces r.pool range.space (laid (pieces_in r.pool range.space) range c)) ≤ room
paint_room r e range c room after cover card alone same =
    subst (λ (n : ℕ). piece_count (with_pieces r.pool range.space (laid (pieces_in r.pool range.space) range c)) ≤ n) (sym same)
    (subst (λ (p : Partition). piece_count p ≤ r.rooms.pieces) (pool_painted e.request e.cover e.card r.pool range c cover card alone) after.rooms.pieces)

-- a request whose card is none paints none
pub bare_card : (r : Register) (e : PlainEntry) (request : Request) → e.card ≡ card_for r e.request e.day (until_of e.card) → e.request ≡ request
    → card_for r request e.day (until_of e.card) ≡ None → e.card ≡ None
bare_card r e request card is none = card ∙ ap (λ (q : Request). card_for r q e.day (until_of e.card)) is ∙ none
