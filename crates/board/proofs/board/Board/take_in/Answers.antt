use Rattle.std.proofs.Common.{◌≡◌, ℕ, ◌+◌, ◌<◌, ◌≤◌, List, length, sym, ◌∙◌, ap, subst, arith}
use Rattle.reg_entry.specs.declared.object.Object.{Object}
use Rattle.reg_entry.specs.declared.object.Act.{Act}
use Rattle.reg_entry.specs.declared.piece.Piece.{Piece}
use Rattle.reg_entry.specs.Entry.{PlainEntry}
use Rattle.reg_entry.specs.Next.{IsNextEntry}
use Rattle.reg_entry.specs.Operations.{PlainBoard, changes_of, board_after_entry}
use Rattle.reg_entry.specs.Register.{Register, after_entry, pool_after, holders_after, subs_after}
use Rattle.reg_entry.specs.Whole.{IsWholeRegister}
use Rattle.reg_laws.specs.Reached.{IsReached}
use Rattle.op_feed.specs.EntryChanges.{entry_changes}
use Rattle.op_feed.specs.ReachedBoard.{IsReachedBoard}
use Rattle.op_feed.specs.TouchedBy.{IsTouchedBy}
use Rattle.board.specs.Kept.{register_of, board_of, AreHoldingsIn}
use Rattle.board.specs.Noted.{PlainOperations}
use Rattle.board.proofs.Noting.{window_noted}
use Rattle.board.proofs.Steps.{register_is, register_in, entry_in, kept_by}
use Rattle.board.proofs.Taking.{rest_in, next_in, known_before, known_after, known_subs, board_is}
use Rattle.board.proofs.board.Board.take_in.Goals as goal

pub change_holdings-requires : goal.change_holdings-requires
change_holdings-requires c =
    let r : Register = register_in c.self.inside in
    let next : IsNextEntry r c.args.e.now = next_in c.self.inside c.args.self.now c.args.e.now c.self.view_is c.requires.next in
    let kept = c.self.invariant.books in (
      rest_in c.self.inside,
      record {
        next = record { whole = c.reached_registers_are_whole.ensures r kept.reached; next = next; room = kept.pieces };
        holdings = kept.holdings;
        room = kept.holding_room;
      },
    )

pub change_pieces-touched-requires : goal.change_pieces-touched-requires
change_pieces-touched-requires c =
    let r : Register = register_in c.self.inside in
    let next : IsNextEntry r c.args.e.now = next_in c.self.inside c.args.self.now c.args.e.now c.self.view_is c.requires.next in
    let kept = c.self.invariant.books in
    (rest_in c.self.inside, c.self.inside.subs, record { whole = c.reached_registers_are_whole.ensures r kept.reached; next = next; room = kept.pieces })

pub note_entry-requires : goal.note_entry-requires
note_entry-requires c =
    let r : Register = register_in c.self.inside in
    let e : PlainEntry = c.args.e.now in
    let next : IsNextEntry r e = next_in c.self.inside c.args.self.now e c.self.view_is c.requires.next in
    let kept = c.self.invariant in
    let whole : IsWholeRegister r = c.reached_registers_are_whole.ensures r kept.books.reached in
    let b : PlainBoard = board_of r c.self.inside.operations in
    let touched = c.change_pieces-touched.ensures in
    let before : List Piece = c.change_pieces-touched.result.before.items in
    let after : List Piece = c.change_pieces-touched.result.after.items in
    let is : IsTouchedBy r.pool (after_entry r e).pool before after = subst (λ pool. IsTouchedBy r.pool pool before after) touched.pieces touched.touched in
    let changes = c.next_changes.ensures r e before after whole next is in
    let more : IsReachedBoard (board_after_entry b e) = c.entries_reach_boards.ensures.next b e kept.board next in
    let bound : c.self.inside.operations.serial + length (changes_of r e) ≤ 288230376151711744 = c.reached_boards_number_operations.ensures.bound (board_after_entry b e) kept.books.rooms more in
    record {
      before = known_before r (after_entry r e).pool before after whole is;
      after = known_after r e before after whole next is;
      subs = known_subs r r.subs whole.subs;
      room = (let same = ap (λ (cs : List (Act × Object)). length cs) changes in omega arith);
    }

pub change_reverse-requires : goal.change_reverse-requires
change_reverse-requires c =
    let r : Register = register_in c.self.inside in
    let e : PlainEntry = entry_in c.e.inside in
    let next : IsNextEntry r e = subst (λ x. IsNextEntry r x) (sym c.e.view_is) (next_in c.self.inside c.args.self.now c.args.e.now c.self.view_is c.requires.next) in
    let kept = c.self.invariant.books in
    let whole : IsWholeRegister r = c.reached_registers_are_whole.ensures r kept.reached in
    let fit = c.next_entries_fit_reverses.ensures in
    record {
      free = λ range servers is new. fit.free r e range servers next is new;
      room = λ range servers is new. subst (λ (n : ℕ). length c.self.inside.reverse.ranges < n) (sym kept.reverse)
          (fit.room r e range servers next is new);
      there = λ range is. fit.there r e range next is;
      unstraddled = λ range handle is. fit.unstraddled r e range handle whole next is;
    }

pub change_subs-requires : goal.change_subs-requires
change_subs-requires c =
    let r : Register = register_in c.self.inside in
    let next : IsNextEntry r c.args.e.now = next_in c.self.inside c.args.self.now c.args.e.now c.self.view_is c.requires.next in
    let fit = c.next_entries_fit_subs.ensures in
    record {
      free = λ range handle is. fit.free r c.args.e.now range handle next is;
      room = λ range handle is. subst (λ (n : ℕ). length c.self.inside.subs.ranges < n) (sym c.self.invariant.books.subs) (fit.room r c.args.e.now range handle next is);
      there = λ range is. fit.there r c.args.e.now range next is;
    }

pub change_holders-requires : goal.change_holders-requires
change_holders-requires c =
    let r : Register = register_in c.self.inside in
    let next : IsNextEntry r c.args.e.now = next_in c.self.inside c.args.self.now c.args.e.now c.self.view_is c.requires.next in
    let know = c.next_entries_know_holders.ensures in
    record {
      new = λ holder is. know.new r c.args.e.now holder next is;
      room = λ holder is. subst (λ (n : ℕ). length c.self.inside.holders.holders < n) (sym c.self.invariant.books.holders) (know.room r c.args.e.now holder next is);
      edited = λ holder is. know.edited r c.args.e.now holder next is;
    }

pub invariant_of-self : goal.invariant_of-self
invariant_of-self c =
    let r : Register = register_in c.self.inside in
    let d : PlainEntry = c.args.e.now in
    let e : PlainEntry = entry_in c.e.inside in
    let next : IsNextEntry r d = next_in c.self.inside c.args.self.now c.args.e.now c.self.view_is c.requires.next in
    let kept = c.self.invariant in
    let whole : IsWholeRegister r = c.reached_registers_are_whole.ensures r kept.books.reached in
    let back = sym c.e.view_is in
    let touched = c.change_pieces-touched.ensures in
    let before : List Piece = c.change_pieces-touched.result.before.items in
    let after : List Piece = c.change_pieces-touched.result.after.items in
    let is : IsTouchedBy r.pool (after_entry r d).pool before after = subst (λ pool. IsTouchedBy r.pool pool before after) touched.pieces touched.touched in
    let changes = c.next_changes.ensures r d before after whole next is in
    let pool = subst (λ (x : PlainEntry). c.change_pieces-touched.new.pieces.partition ≡ pool_after x.request x.cover x.card c.self.inside.pieces.partition) back touched.pieces in
    let holders = subst (λ (x : PlainEntry). c.change_holders.new.holders.holders ≡ holders_after x.request x.day c.self.inside.holders.holders) back c.change_holders.ensures.holders in
    let subs = subst (λ (x : PlainEntry). c.change_subs.new.subs.ranges ≡ subs_after x.request x.day c.self.inside.holders.holders c.self.inside.subs.ranges) back c.change_subs.ensures.subs in
    let reverses = c.change_reverse.ensures.reverses in
    let same : register_of c.self.inside.rooms (c.self.inside.entries + 1) c.first_day_after-self-inside.result c.e.inside.day c.change_pieces-touched.new.pieces
    c.change_holders.new.holders c.change_subs.new.subs c.change_reverse.new.reverse ≡ after_entry r d =
    register_is c.self.inside.rooms c.self.inside.entries c.self.inside.first_day c.self.inside.last_day c.self.inside.pieces c.change_pieces-touched.new.pieces
    c.self.inside.holders c.change_holders.new.holders c.self.inside.subs c.change_subs.new.subs c.self.inside.reverse c.change_reverse.new.reverse e
    c.first_day_after-self-inside.result c.first_day_after-self-inside.ensures pool holders subs reverses ∙ ap (λ (x : PlainEntry). after_entry r x) c.e.view_is in
    let b : PlainBoard = board_of r c.self.inside.operations in
    let few : length c.self.inside.operations.kept ≤ r.rooms.window = (c.reached_boards_are_whole.ensures.whole b kept.board).window in
    let now : board_of (register_of c.self.inside.rooms (c.self.inside.entries + 1) c.first_day_after-self-inside.result c.e.inside.day c.change_pieces-touched.new.pieces
    c.change_holders.new.holders c.change_subs.new.subs c.change_reverse.new.reverse) c.note_entry.new.self ≡ board_after_entry b d =
    board_is r _ d c.self.inside.operations c.note_entry.new.self _ same c.note_entry.ensures changes kept.window few in
    let holdings = c.change_holdings.ensures.holdings (rest_in c.self.inside) (record {
      next = record { whole = whole; next = next; room = kept.books.pieces };
      holdings = kept.books.holdings;
      room = kept.books.holding_room;
    }) in
    let next_inside : IsNextEntry r e = subst (λ (x : PlainEntry). IsNextEntry r x) back next in
    let reached : IsReached (after_entry r e) = c.entries_reach_registers.ensures.next r e kept.books.reached next_inside in
    let more : IsReachedBoard (board_after_entry b d) = c.entries_reach_boards.ensures.next b d kept.board next in
    record {
      books = kept_by c.self.inside.rooms c.self.inside.entries c.self.inside.first_day c.self.inside.last_day c.self.inside.pieces c.change_pieces-touched.new.pieces
          c.self.inside.holders c.change_holders.new.holders c.self.inside.subs c.change_subs.new.subs c.self.inside.reverse c.change_reverse.new.reverse e
          c.first_day_after-self-inside.result c.self.inside.holdings c.change_holdings.new.holdings kept.books reached c.first_day_after-self-inside.ensures
          pool touched.room holders c.change_holders.ensures.room subs c.change_subs.ensures.room reverses c.change_reverse.ensures.room
          (subst (λ (x : PlainEntry). AreHoldingsIn (after_entry r x) c.change_holdings.new.holdings) back holdings) c.change_holdings.ensures.room;
      board = subst IsReachedBoard (sym now) more;
      window = ap (λ (x : PlainOperations). x.window) c.note_entry.ensures ∙ window_noted c.self.inside.operations (entry_changes r.holders r.subs r.reverses d.day before after d.request) ∙ kept.window;
    }

pub returns : goal.returns
returns c =
    let r : Register = register_in c.self.inside in
    let d : PlainEntry = c.args.e.now in
    let e : PlainEntry = entry_in c.e.inside in
    let next : IsNextEntry r d = next_in c.self.inside c.args.self.now c.args.e.now c.self.view_is c.requires.next in
    let kept = c.self.invariant in
    let whole : IsWholeRegister r = c.reached_registers_are_whole.ensures r kept.books.reached in
    let back = sym c.e.view_is in
    let touched = c.change_pieces-touched.ensures in
    let before : List Piece = c.change_pieces-touched.result.before.items in
    let after : List Piece = c.change_pieces-touched.result.after.items in
    let is : IsTouchedBy r.pool (after_entry r d).pool before after = subst (λ pool. IsTouchedBy r.pool pool before after) touched.pieces touched.touched in
    let changes = c.next_changes.ensures r d before after whole next is in
    let pool = subst (λ (x : PlainEntry). c.change_pieces-touched.new.pieces.partition ≡ pool_after x.request x.cover x.card c.self.inside.pieces.partition) back touched.pieces in
    let holders = subst (λ (x : PlainEntry). c.change_holders.new.holders.holders ≡ holders_after x.request x.day c.self.inside.holders.holders) back c.change_holders.ensures.holders in
    let subs = subst (λ (x : PlainEntry). c.change_subs.new.subs.ranges ≡ subs_after x.request x.day c.self.inside.holders.holders c.self.inside.subs.ranges) back c.change_subs.ensures.subs in
    let reverses = c.change_reverse.ensures.reverses in
    let same : register_of c.self.inside.rooms (c.self.inside.entries + 1) c.first_day_after-self-inside.result c.e.inside.day c.change_pieces-touched.new.pieces
    c.change_holders.new.holders c.change_subs.new.subs c.change_reverse.new.reverse ≡ after_entry r d =
    register_is c.self.inside.rooms c.self.inside.entries c.self.inside.first_day c.self.inside.last_day c.self.inside.pieces c.change_pieces-touched.new.pieces
    c.self.inside.holders c.change_holders.new.holders c.self.inside.subs c.change_subs.new.subs c.self.inside.reverse c.change_reverse.new.reverse e
    c.first_day_after-self-inside.result c.first_day_after-self-inside.ensures pool holders subs reverses ∙ ap (λ (x : PlainEntry). after_entry r x) c.e.view_is in
    let b : PlainBoard = board_of r c.self.inside.operations in
    let few : length c.self.inside.operations.kept ≤ r.rooms.window = (c.reached_boards_are_whole.ensures.whole b kept.board).window in
    let now : board_of (register_of c.self.inside.rooms (c.self.inside.entries + 1) c.first_day_after-self-inside.result c.e.inside.day c.change_pieces-touched.new.pieces
    c.change_holders.new.holders c.change_subs.new.subs c.change_reverse.new.reverse) c.note_entry.new.self ≡ board_after_entry b d =
    board_is r _ d c.self.inside.operations c.note_entry.new.self _ same c.note_entry.ensures changes kept.window few in
    now ∙ ap (λ (x : PlainBoard). board_after_entry x d) c.self.view_is
