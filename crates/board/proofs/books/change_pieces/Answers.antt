use Rattle.std.proofs.Common.{◌≡◌, None, refl, sym, ◌∙◌, ap, subst, arith}
use Rattle.std.proofs.lemmas.Grind.{elements}
use Rattle.reg_entry.specs.declared.request.Request.TheVariants.{Split}
use Rattle.reg_entry.specs.Entry.{PlainEntry}
use Rattle.reg_entry.specs.Next.{IsNextEntry}
use Rattle.reg_entry.specs.Register.{Register, pool_after}
use Rattle.reg_entry.specs.Whole.{IsWholeRegister}
use Rattle.board.specs.Kept.{register_with}
use Rattle.board.proofs.Touching.{touched_by, untouched_by}
use Rattle.board.proofs.Steps.{entry_in, bare_card, not_reshaped, pool_unpainted, pool_painted, split_place, split_room, paint_room}
use Rattle.board.proofs.books.change_pieces.Goals as goal

pub split-requires-clause-place : goal.split-requires-clause-place
split-requires-clause-place c =
    let r : Register = register_with c.requires.0 c.args.pieces.now c.requires.1 in
    let e : PlainEntry = entry_in c.e.inside in
    let next : IsNextEntry r e = subst (λ (x : PlainEntry). IsNextEntry r x) (sym c.e.view_is) c.requires.2.next in
    split_place c.args.pieces.now.partition c.in-Split.at (c.next_entries_split_delegated_pieces.ensures r e c.in-Split.at c.requires.2.whole next c.in-Split.is)

pub split-requires-clause-room : goal.split-requires-clause-room
split-requires-clause-room c =
    let r : Register = register_with c.requires.0 c.args.pieces.now c.requires.1 in
    let e : PlainEntry = entry_in c.e.inside in
    let next : IsNextEntry r e = subst (λ (x : PlainEntry). IsNextEntry r x) (sym c.e.view_is) c.requires.2.next in
    let whole : IsWholeRegister r = c.requires.2.whole in
    let bare : e.card ≡ None = bare_card r e (Split c.in-Split.at) (c.next_entries_have_covers_and_cards.ensures.card r e next) c.in-Split.is refl in
    split_room r e c.in-Split.at c.args.pieces.now.room whole (c.next_entry_keeps_whole.ensures r e whole next) c.in-Split.is bare c.requires.2.room
    (c.next_entries_split_delegated_pieces.ensures r e c.in-Split.at whole next c.in-Split.is)

pub join-requires : goal.join-requires
join-requires c =
    let r : Register = register_with c.requires.0 c.args.pieces.now c.requires.1 in
    let e : PlainEntry = entry_in c.e.inside in
    let next : IsNextEntry r e = subst (λ (x : PlainEntry). IsNextEntry r x) (sym c.e.view_is) c.requires.2.next in
    c.next_entries_join_equal_pieces.ensures r e c.in-Join.at c.requires.2.whole next c.in-Join.is

pub lay-requires : goal.lay-requires
lay-requires c =
    let r : Register = register_with c.requires.0 c.args.pieces.now c.requires.1 in
    let e : PlainEntry = entry_in c.e.inside in
    let next : IsNextEntry r e = subst (λ (x : PlainEntry). IsNextEntry r x) (sym c.e.view_is) c.requires.2.next in
    let whole : IsWholeRegister r = c.requires.2.whole in
    let paint = c.next_entries_can_be_painted.ensures in
    record {
      one = paint.one r e c.in-Some-cover.range c.in-Some.card whole next c.in-Some-cover.is c.in-Some.is;
      pooled = paint.pooled r e c.in-Some-cover.range c.in-Some.card whole next c.in-Some-cover.is c.in-Some.is;
      plain = paint.plain r e c.in-Some.card whole next c.in-Some.is;
      room = paint_room r e c.in-Some-cover.range c.in-Some.card c.args.pieces.now.room (c.next_entry_keeps_whole.ensures r e whole next) c.in-Some-cover.is c.in-Some.is
          (paint.alone r e c.in-Some.card whole next c.in-Some.is) c.requires.2.room;
    }

pub returns-in-Some-cover : goal.returns-in-Some-cover
returns-in-Some-cover c =
    let r : Register = register_with c.requires.0 c.args.pieces.now c.requires.1 in
    let e : PlainEntry = entry_in c.e.inside in
    let next : IsNextEntry r e = subst (λ (x : PlainEntry). IsNextEntry r x) (sym c.e.view_is) c.requires.2.next in
    let alone = c.next_entries_can_be_painted.ensures.alone r e c.in-Some.card c.requires.2.whole next c.in-Some.is in
    record {
      pieces = c.lay.ensures.pieces
          ∙ sym (pool_painted e.request e.cover e.card c.args.pieces.now.partition c.in-Some-cover.range c.in-Some.card c.in-Some-cover.is c.in-Some.is alone)
          ∙ ap (λ (x : PlainEntry). pool_after x.request x.cover x.card c.args.pieces.now.partition) c.e.view_is;
      room = c.lay.ensures.room;
      touched = touched_by c.args.pieces.now.partition c.lay.new.self.partition c.in-Some-cover.range.space _ c.lay.result.before.items c.lay.result.after.items
          c.lay.ensures.pieces c.lay.ensures.touched;
    }

pub returns-in-None : goal.returns-in-None
returns-in-None c =
    let e : PlainEntry = entry_in c.e.inside in
    record {
      pieces = sym (pool_unpainted e.request e.cover e.card c.args.pieces.now.partition c.in-None.is
          ∙ not_reshaped e.request c.args.pieces.now.partition c.in_default.not-Split c.in_default.not-Join)
          ∙ ap (λ (x : PlainEntry). pool_after x.request x.cover x.card c.args.pieces.now.partition) c.e.view_is;
      room = refl;
      touched = untouched_by c.args.pieces.now.partition c.untouched-in-None.result.before.items c.untouched-in-None.result.after.items
          c.untouched-in-None.ensures.before c.untouched-in-None.ensures.after;
    }

pub returns-in-None-cover : goal.returns-in-None-cover
returns-in-None-cover c = grind (arith, elements)
