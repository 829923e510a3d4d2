use Rattle.std.proofs.Common.{List, subst}
use Rattle.reg_entry.specs.Entry.{PlainEntry}
use Rattle.reg_entry.specs.Operations.{PlainBoard}
use Rattle.board.specs.Conserved.{IsConservedBy}
use Rattle.board.proofs.board.Board.conserves_numbers.Goals as goal

pub returns : goal.returns
returns c =
    let es : List PlainEntry = c.self.invariant.books.reached.0 in
    let of = c.self.invariant.books.reached.1 in
    let conserve = c.reached_registers_conserve.ensures in
    let count = c.reached_registers_count.ensures in
    subst (λ (b : PlainBoard). (es : List PlainEntry) × IsConservedBy b.register es) c.self.view_is (
      es,
      record {
        register = of;
        cards = λ n. conserve.cards _ es n of;
        once = λ n. conserve.once _ es n of;
        pooled = λ n. conserve.pooled _ es n of;
        sizes = λ space. conserve.sizes _ es space of;
        entries = count.entries _ es of;
        first_day = count.first_day _ es of;
        last_day = count.last_day _ es of;
      },
    )
