use Rattle.std.proofs.Common.{List, [], ◌∷◌, sym, ap, subst, ◌∙◌, rules}
use mathlib.Core.List.{IsPrefix}
use Rattle.reg_entry.specs.Entry.{PlainEntry}
use Rattle.entry_log.proofs.Fronts.{prefix_trans}
use Rattle.desk_book.specs.Book.{PlainBook}
use Rattle.desk_book.proofs.Publishing.{published_once}
use Rattle.desk_book.proofs.book.Book.submit.Goals as goal

pub returns-in-Refused-clause-published : goal.returns-in-Refused-clause-published
returns-in-Refused-clause-published g c = published_once c.args.self.now c.settle.new.self c.is_whole.ensures.published c.in-Ok.ensures.settled

pub returns-in-Ok-enter-clause-published : goal.returns-in-Ok-enter-clause-published
returns-in-Ok-enter-clause-published g c =
    let settled = published_once c.args.self.now c.settle.new.self c.is_whole.ensures.published c.in-Ok.ensures.settled in
    let all = ap (λ (b : PlainBook). b.published) c.in-Ok.ensures.settled in
    let same = ap (λ (b : PlainBook). b.entries) c.in-Ok.ensures.settled in
    let more = ap (λ (b : PlainBook). b.published) c.in-Ok-enter.ensures.answered in
    prefix_trans c.args.self.now.published c.settle.new.self.entries c.enter.new.self.published
    (subst (λ (l : List PlainEntry). IsPrefix c.args.self.now.published l) (all ∙ sym same) settled) (c.in-Accepted.entry ∷ [], sym more)

pub returns-clause-published : goal.returns-clause-published
returns-clause-published g c =
    subst (λ (l : List PlainEntry). IsPrefix c.args.self.now.published l) (sym c.in-Err-enter.ensures.owed)
    (published_once c.args.self.now c.settle.new.self c.is_whole.ensures.published c.in-Ok.ensures.settled)

pub returns-in-Refused-clause-reply : goal.returns-in-Refused-clause-reply
returns-in-Refused-clause-reply g c = search rules
