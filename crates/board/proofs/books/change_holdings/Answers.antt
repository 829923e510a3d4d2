use Rattle.std.proofs.Common.{◌≡◌, ℕ, ◌+◌, ◌<◌, ◌≤◌, ◌^◌, None, Option, IsSome, true, false, refl, sym, ◌∙◌, ap, subst, arith, length}
use Rattle.std.proofs.lemmas.Bool.{both_ways}
use Rattle.std.proofs.lemmas.Grind.{common_steps}
use Rattle.num_range.specs.Range.{PlainRange}
use Rattle.reg_entry.specs.declared.card.Card.{Card}
use Rattle.reg_entry.specs.declared.holder.Holder.{Holder}
use Rattle.reg_entry.specs.declared.request.Request.{Request}
use Rattle.reg_entry.specs.declared.request.Request.TheVariants.{AddHolder, SubAssign, SubReturn}
use Rattle.reg_entry.specs.Covers.{first_number}
use Rattle.reg_entry.specs.Entry.{PlainEntry}
use Rattle.reg_entry.specs.Next.{IsNextEntry}
use Rattle.reg_entry.specs.Register.{Register, after_entry, card_of, holders_after, subs_after}
use Rattle.reg_entry.specs.Sums.{held, allocated, used}
use Rattle.reg_entry.specs.Whole.{IsWholeRegister}
use Rattle.reg_entry.specs.Holdings.{held_by, allocated_by, held_by_card, allocated_by_card}
use Rattle.reg_laws.specs.Nobodys.{is_of_nobodys}
use Rattle.reg_laws.specs.Use.{used_by}
use Rattle.holder_book.specs.HoldingBook.{held_in, allocated_in, used_in, used_of, used_of_card}
use Rattle.board.specs.Kept.{register_with, AreHoldingsIn}
use Rattle.board.proofs.Known.{known_holders}
use Rattle.board.proofs.Steps.{entry_in, bare_card, unchanged_holdings, exchanged_holdings, added_count, same_length, same_subs, used_holdings, taken_use, taken_sub, given_use, used_below, assigned_fits, now_used, no_longer_used, fits_in}
use Rattle.board.proofs.books.change_holdings.Goals as goal

pub size-requires : goal.size-requires
size-requires c =
    let r : Register = register_with c.requires.0 c.args.pieces.now c.args.subs.now in
    let e : PlainEntry = entry_in c.e.inside in
    let next : IsNextEntry r e = subst (λ (x : PlainEntry). IsNextEntry r x) (sym c.e.view_is) c.requires.1.next.next in
    c.next_entries_fit_subs.ensures.pooled r e c.in-SubAssign.range c.in-SubAssign.handle c.requires.1.next.whole next c.in-SubAssign.is

pub use_more-requires-clause-known : goal.use_more-requires-clause-known
use_more-requires-clause-known c =
    let r : Register = register_with c.requires.0 c.args.pieces.now c.args.subs.now in
    known_holders r (first_number c.in-SubAssign.range) c.card_over-card.result (length c.args.holdings.now.holdings) c.requires.1.next.whole c.card_over-card.ensures
    c.requires.1.holdings.count

pub use_more-requires-clause-fits : goal.use_more-requires-clause-fits
use_more-requires-clause-fits c =
    let r : Register = register_with c.requires.0 c.args.pieces.now c.args.subs.now in
    let e : PlainEntry = entry_in c.e.inside in
    let next : IsNextEntry r e = subst (λ (x : PlainEntry). IsNextEntry r x) (sym c.e.view_is) c.requires.1.next.next in
    let whole : IsWholeRegister r = c.requires.1.next.whole in
    let after : IsWholeRegister (after_entry r e) = c.next_entry_keeps_whole.ensures r e whole next in
    λ holder space.
    assigned_fits (used (after_entry r e) holder space) (used r holder space)
    (used_of holder space c.in-SubAssign.range c.card_over-card.result c.size.result) (used_in c.args.holdings.now holder space)
    (c.next_entries_change_use.ensures.assigned r e c.in-SubAssign.range c.in-SubAssign.handle holder space whole next c.in-SubAssign.is
    ∙ given_use (used r holder space) holder space c.in-SubAssign.range c.card_over-card.result (card_of r.pool (first_number c.in-SubAssign.range)) c.size.result
    c.card_over-card.ensures c.size.ensures)
    (c.requires.1.holdings.used holder space)
    (used_below (used (after_entry r e) holder space) (allocated (after_entry r e) holder space) (held (after_entry r e) holder space)
    (c.use_is_bounded.ensures.part (after_entry r e) holder space after) (c.holdings_are_bounded.ensures.part (after_entry r e) holder space)
    (c.holdings_are_bounded.ensures.bound (after_entry r e) holder space after))

pub size-requires-in-SubReturn : goal.size-requires-in-SubReturn
size-requires-in-SubReturn c =
    let r : Register = register_with c.requires.0 c.args.pieces.now c.args.subs.now in
    let e : PlainEntry = entry_in c.e.inside in
    let next : IsNextEntry r e = subst (λ (x : PlainEntry). IsNextEntry r x) (sym c.e.view_is) c.requires.1.next.next in
    c.next_entries_fit_subs.ensures.returned_pooled r e c.in-SubReturn.range c.requires.1.next.whole next c.in-SubReturn.is

pub use_less-requires : goal.use_less-requires
use_less-requires c =
    let r : Register = register_with c.requires.0 c.args.pieces.now c.args.subs.now in
    let e : PlainEntry = entry_in c.e.inside in
    let next : IsNextEntry r e = subst (λ (x : PlainEntry). IsNextEntry r x) (sym c.e.view_is) c.requires.1.next.next in
    let whole : IsWholeRegister r = c.requires.1.next.whole in
    λ holder space.
    taken_sub holder space c.in-SubReturn.range c.card_over-card-in-SubReturn.result (card_of r.pool (first_number c.in-SubReturn.range)) c.size-in-SubReturn.result
    (used r holder space) (used_in c.args.holdings.now holder space) c.card_over-card-in-SubReturn.ensures c.size-in-SubReturn.ensures
    (c.next_entries_take_what_is_used.ensures.returned r e c.in-SubReturn.range holder space whole next c.in-SubReturn.is) (c.requires.1.holdings.used holder space)

pub numbers_inside-used-requires : goal.numbers_inside-used-requires
numbers_inside-used-requires c =
    let r : Register = register_with c.requires.0 c.args.pieces.now c.args.subs.now in
    let e : PlainEntry = entry_in c.e.inside in
    let next : IsNextEntry r e = subst (λ (x : PlainEntry). IsNextEntry r x) (sym c.e.view_is) c.requires.1.next.next in
    c.next_entries_can_be_painted.ensures.pooled r e c.in-Some-cover.range c.in-Some.card c.requires.1.next.whole next c.in-Some-cover.is c.in-Some.is

pub exchange-requires : goal.exchange-requires
exchange-requires c =
    let r : Register = register_with c.requires.0 c.args.pieces.now c.args.subs.now in
    let e : PlainEntry = entry_in c.e.inside in
    let next : IsNextEntry r e = subst (λ (x : PlainEntry). IsNextEntry r x) (sym c.e.view_is) c.requires.1.next.next in
    let whole : IsWholeRegister r = c.requires.1.next.whole in
    let after : IsWholeRegister (after_entry r e) = c.next_entry_keeps_whole.ensures r e whole next in
    let now = c.requires.1.holdings in
    let range = c.in-Some-cover.range in
    let card : Card = c.in-Some.card in
    let is = c.card_over-former.ensures in
    let change = c.next_entries_change_holdings.ensures in
    let take = c.next_entries_take_what_is_held.ensures in
    let most = c.holdings_are_bounded.ensures.bound in
    let part = c.holdings_are_bounded.ensures.part in
    let book = c.args.holdings.now in
    let subs = c.args.subs.now.ranges in
    let used_change = c.next_entries_change_use.ensures in
    let used_take = c.next_entries_take_what_is_used.ensures in
    let used_part = c.use_is_bounded.ensures.part in
    let size = c.numbers_inside-used.ensures in
    record {
      known = λ holder gives. subst (λ (n : ℕ). holder < n) (sym now.count)
          (c.next_entries_know_holders.ensures.given r e card holder whole next c.in-Some.is gives);
      held = λ holder space. subst (λ (o : Option Card). held_by holder space range o ≤ held_in book holder space) (sym is)
          (subst (λ (n : ℕ). held_by holder space range (card_of r.pool (first_number range)) ≤ n) (sym (now.held holder space))
          (take.held r e range card holder space whole next c.in-Some-cover.is c.in-Some.is));
      allocated = λ holder space. subst (λ (o : Option Card). allocated_by holder space range o ≤ allocated_in book holder space) (sym is)
          (subst (λ (n : ℕ). allocated_by holder space range (card_of r.pool (first_number range)) ≤ n) (sym (now.allocated holder space))
          (take.allocated r e range card holder space whole next c.in-Some-cover.is c.in-Some.is));
      held_fits = λ holder space. fits_in (held (after_entry r e) holder space) (held r holder space)
          (held_by holder space range (card_of r.pool (first_number range))) (held_by_card holder space range card) (held_in book holder space)
          (change.held r e range card holder space whole next c.in-Some-cover.is c.in-Some.is)
          (take.held r e range card holder space whole next c.in-Some-cover.is c.in-Some.is)
          (now.held holder space) (most r holder space whole) (most (after_entry r e) holder space after);
      allocated_fits = λ holder space. fits_in (allocated (after_entry r e) holder space) (allocated r holder space)
          (allocated_by holder space range (card_of r.pool (first_number range))) (allocated_by_card holder space range card) (allocated_in book holder space)
          (change.allocated r e range card holder space whole next c.in-Some-cover.is c.in-Some.is)
          (take.allocated r e range card holder space whole next c.in-Some-cover.is c.in-Some.is)
          (now.allocated holder space) (below_part (part r holder space) (most r holder space whole))
          (below_part (part (after_entry r e) holder space) (most (after_entry r e) holder space after));
      used = λ holder space. taken_use subs holder space range c.card_over-former.result (card_of r.pool (first_number range)) c.numbers_inside-used.result
          (used r holder space) (used_in book holder space) is size
          (used_take.painted r e range card holder space whole next c.in-Some-cover.is c.in-Some.is) (now.used holder space);
      used_fits = λ holder space. fits_in (used (after_entry r e) holder space) (used r holder space)
          (used_by subs holder space range (card_of r.pool (first_number range))) (used_of_card holder space range card c.numbers_inside-used.result) (used_in book holder space)
          (used_change.painted r e range card holder space whole next c.in-Some-cover.is c.in-Some.is
          ∙ ap (λ (m : ℕ). used r holder space + used_of_card holder space range card m) (sym size))
          (used_take.painted r e range card holder space whole next c.in-Some-cover.is c.in-Some.is)
          (now.used holder space)
          (below_part (used_part r holder space whole) (below_part (part r holder space) (most r holder space whole)))
          (below_part (used_part (after_entry r e) holder space after) (below_part (part (after_entry r e) holder space) (most (after_entry r e) holder space after)));
    }
  where
    below_part : {a h : ℕ} → a ≤ h → h < 2 ^ 127 → a < 2 ^ 127
    below_part p q = omega arith

pub returns-then-is_of_nobodys-clause-holdings : goal.returns-then-is_of_nobodys-clause-holdings
returns-then-is_of_nobodys-clause-holdings c =
    λ rest h.
    let r : Register = register_with rest c.args.pieces.now c.args.subs.now in
    let e : PlainEntry = entry_in c.e.inside in
    let next : IsNextEntry r e = subst (λ (x : PlainEntry). IsNextEntry r x) (sym c.e.view_is) h.next.next in
    let whole : IsWholeRegister r = h.next.whole in
    let nobodys : is_of_nobodys e.request ≡ true = sym c.is_of_nobodys.ensures ∙ c.if-is_of_nobodys.true in
    let same = c.nobodys_numbers_change_no_holdings.ensures in
    subst (λ (x : PlainEntry). AreHoldingsIn (after_entry r x) c.args.holdings.now) c.e.view_is
    (unchanged_holdings r e c.args.holdings.now c.args.holdings.now h.holdings
    (λ holder space. same.held r e holder space whole next nobodys)
    (λ holder space. same.allocated r e holder space whole next nobodys)
    (λ holder space. same.used r e holder space whole next nobodys)
    (h.holdings.count ∙ same_length e.request e.day rest.holders.holders (adds_none e.request nobodys))
    (λ holder space. refl) (λ holder space. refl) (λ holder space. refl))
  where
    adds_none : (request : Request) → is_of_nobodys request ≡ true → (holder : Holder) → request ≡ AddHolder holder → ⊥
    adds_none request is holder e = both_ways false refl (subst (λ (q : Request). is_of_nobodys q ≡ true) e is)

pub returns-in-AddHolder-clause-holdings : goal.returns-in-AddHolder-clause-holdings
returns-in-AddHolder-clause-holdings c =
    λ rest h.
    let r : Register = register_with rest c.args.pieces.now c.args.subs.now in
    let e : PlainEntry = entry_in c.e.inside in
    let next : IsNextEntry r e = subst (λ (x : PlainEntry). IsNextEntry r x) (sym c.e.view_is) h.next.next in
    let whole : IsWholeRegister r = h.next.whole in
    let bare : e.card ≡ None = bare_card r e (AddHolder c.in-AddHolder.holder) (c.next_entries_have_covers_and_cards.ensures.card r e next) c.in-AddHolder.is refl in
    subst (λ (x : PlainEntry). AreHoldingsIn (after_entry r x) c.add.new.self) c.e.view_is
    (unchanged_holdings r e c.args.holdings.now c.add.new.self h.holdings
    (λ holder space. c.next_entries_change_holdings.ensures.same_held r e holder space whole next bare)
    (λ holder space. c.next_entries_change_holdings.ensures.same_allocated r e holder space whole next bare)
    (λ holder space. c.next_entries_change_use.ensures.same r e holder space whole next bare (ap (λ (q : Request). subs_after q c.e.inside.day rest.holders.holders c.args.subs.now.ranges) c.in-AddHolder.is))
    (added_count e.request e.day rest.holders.holders c.in-AddHolder.holder _ _ c.in-AddHolder.is c.add.ensures.count h.holdings.count)
    c.add.ensures.held c.add.ensures.allocated c.add.ensures.used)

pub returns-in-SubAssign-clause-holdings : goal.returns-in-SubAssign-clause-holdings
returns-in-SubAssign-clause-holdings c =
    λ rest h.
    let r : Register = register_with rest c.args.pieces.now c.args.subs.now in
    let e : PlainEntry = entry_in c.e.inside in
    let next : IsNextEntry r e = subst (λ (x : PlainEntry). IsNextEntry r x) (sym c.e.view_is) h.next.next in
    let whole : IsWholeRegister r = h.next.whole in
    let bare : e.card ≡ None = bare_card r e (SubAssign c.in-SubAssign.range c.in-SubAssign.handle) (c.next_entries_have_covers_and_cards.ensures.card r e next) c.in-SubAssign.is refl in
    subst (λ (x : PlainEntry). AreHoldingsIn (after_entry r x) c.use_more.new.holdings) c.e.view_is
    (used_holdings r e c.args.holdings.now c.use_more.new.holdings h.holdings
    (λ holder space. c.next_entries_change_holdings.ensures.same_held r e holder space whole next bare)
    (λ holder space. c.next_entries_change_holdings.ensures.same_allocated r e holder space whole next bare)
    (c.use_more.ensures.count ∙ h.holdings.count ∙ ap (λ (q : Request). length (holders_after q c.e.inside.day rest.holders.holders)) (sym c.in-SubAssign.is))
    c.use_more.ensures.held c.use_more.ensures.allocated
    (λ holder space. now_used (used (after_entry r e) holder space) (used r holder space)
    (used_of holder space c.in-SubAssign.range c.card_over-card.result c.size.result) (used_in c.args.holdings.now holder space) (used_in c.use_more.new.holdings holder space)
    (c.next_entries_change_use.ensures.assigned r e c.in-SubAssign.range c.in-SubAssign.handle holder space whole next c.in-SubAssign.is
    ∙ given_use (used r holder space) holder space c.in-SubAssign.range c.card_over-card.result (card_of r.pool (first_number c.in-SubAssign.range)) c.size.result
    c.card_over-card.ensures c.size.ensures)
    (h.holdings.used holder space) (c.use_more.ensures.used holder space)))

pub returns-in-SubReturn-clause-holdings : goal.returns-in-SubReturn-clause-holdings
returns-in-SubReturn-clause-holdings c =
    λ rest h.
    let r : Register = register_with rest c.args.pieces.now c.args.subs.now in
    let e : PlainEntry = entry_in c.e.inside in
    let next : IsNextEntry r e = subst (λ (x : PlainEntry). IsNextEntry r x) (sym c.e.view_is) h.next.next in
    let whole : IsWholeRegister r = h.next.whole in
    let bare : e.card ≡ None = bare_card r e (SubReturn c.in-SubReturn.range) (c.next_entries_have_covers_and_cards.ensures.card r e next) c.in-SubReturn.is refl in
    subst (λ (x : PlainEntry). AreHoldingsIn (after_entry r x) c.use_less.new.holdings) c.e.view_is
    (used_holdings r e c.args.holdings.now c.use_less.new.holdings h.holdings
    (λ holder space. c.next_entries_change_holdings.ensures.same_held r e holder space whole next bare)
    (λ holder space. c.next_entries_change_holdings.ensures.same_allocated r e holder space whole next bare)
    (c.use_less.ensures.count ∙ h.holdings.count ∙ ap (λ (q : Request). length (holders_after q c.e.inside.day rest.holders.holders)) (sym c.in-SubReturn.is))
    c.use_less.ensures.held c.use_less.ensures.allocated
    (λ holder space. no_longer_used (used (after_entry r e) holder space) (used r holder space)
    (used_of holder space c.in-SubReturn.range c.card_over-card-in-SubReturn.result c.size-in-SubReturn.result) (used_in c.args.holdings.now holder space) (used_in c.use_less.new.holdings holder space)
    (sym (given_use (used (after_entry r e) holder space) holder space c.in-SubReturn.range c.card_over-card-in-SubReturn.result (card_of r.pool (first_number c.in-SubReturn.range)) c.size-in-SubReturn.result
    c.card_over-card-in-SubReturn.ensures c.size-in-SubReturn.ensures)
    ∙ c.next_entries_change_use.ensures.returned r e c.in-SubReturn.range holder space whole next c.in-SubReturn.is)
    (h.holdings.used holder space) (c.use_less.ensures.used holder space)))

pub returns-in-Some-cover-clause-holdings : goal.returns-in-Some-cover-clause-holdings
returns-in-Some-cover-clause-holdings c =
    λ rest h.
    let r : Register = register_with rest c.args.pieces.now c.args.subs.now in
    let e : PlainEntry = entry_in c.e.inside in
    let next : IsNextEntry r e = subst (λ (x : PlainEntry). IsNextEntry r x) (sym c.e.view_is) h.next.next in
    let whole : IsWholeRegister r = h.next.whole in
    let range = c.in-Some-cover.range in
    let card : Card = c.in-Some.card in
    let change = c.next_entries_change_holdings.ensures in
    subst (λ (x : PlainEntry). AreHoldingsIn (after_entry r x) c.exchange.new.holdings) c.e.view_is
    (exchanged_holdings r e c.args.holdings.now c.exchange.new.holdings range c.card_over-former.result card c.numbers_inside-used.result h.holdings c.card_over-former.ensures c.numbers_inside-used.ensures
    (λ holder space. change.held r e range card holder space whole next c.in-Some-cover.is c.in-Some.is)
    (λ holder space. change.allocated r e range card holder space whole next c.in-Some-cover.is c.in-Some.is)
    (λ holder space. c.next_entries_change_use.ensures.painted r e range card holder space whole next c.in-Some-cover.is c.in-Some.is)
    (c.exchange.ensures.count ∙ h.holdings.count ∙ same_length e.request e.day rest.holders.holders c.in_default.not-AddHolder)
    c.exchange.ensures.held c.exchange.ensures.allocated c.exchange.ensures.used)

-- where a card is painted there is a cover
pub returns-in_default-cover-clause-holdings : goal.returns-in_default-cover-clause-holdings
returns-in_default-cover-clause-holdings c =
    λ rest h.
    let r : Register = register_with rest c.args.pieces.now c.args.subs.now in
    let e : PlainEntry = entry_in c.e.inside in
    let next : IsNextEntry r e = subst (λ (x : PlainEntry). IsNextEntry r x) (sym c.e.view_is) h.next.next in
    let some = c.next_entries_can_be_painted.ensures.cover r e c.in-Some.card h.next.whole next c.in-Some.is in
    absurd (both_ways false refl (subst (λ (o : Option PlainRange). IsSome o) c.in_default-cover.is some))

pub returns-in_default-card-clause-holdings : goal.returns-in_default-card-clause-holdings
returns-in_default-card-clause-holdings c =
    λ rest h.
    let r : Register = register_with rest c.args.pieces.now c.args.subs.now in
    let e : PlainEntry = entry_in c.e.inside in
    let next : IsNextEntry r e = subst (λ (x : PlainEntry). IsNextEntry r x) (sym c.e.view_is) h.next.next in
    let whole : IsWholeRegister r = h.next.whole in
    let bare : e.card ≡ None = c.in_default-card.is in
    subst (λ (x : PlainEntry). AreHoldingsIn (after_entry r x) c.args.holdings.now) c.e.view_is
    (unchanged_holdings r e c.args.holdings.now c.args.holdings.now h.holdings
    (λ holder space. c.next_entries_change_holdings.ensures.same_held r e holder space whole next bare)
    (λ holder space. c.next_entries_change_holdings.ensures.same_allocated r e holder space whole next bare)
    (λ holder space. c.next_entries_change_use.ensures.same r e holder space whole next bare
    (sym (same_subs e.request e.day rest.holders.holders c.args.subs.now.ranges c.in_default.not-SubAssign c.in_default.not-SubReturn)))
    (h.holdings.count ∙ same_length e.request e.day rest.holders.holders c.in_default.not-AddHolder) (λ holder space. refl) (λ holder space. refl) (λ holder space. refl))

pub add-requires : goal.add-requires
add-requires c = grind (arith, common_steps)
