use Rattle.std.proofs.Common.{arith}
use Rattle.std.proofs.lemmas.Grind.{common_steps}
use Rattle.desk_book.proofs.Answering.{answered_on_some}
use Rattle.desk_book.proofs.Entering.{entered_behind_some}
use Rattle.desk_book.proofs.desk.Desk.submit.Goals as goal

pub returns-clause-answer : goal.returns-clause-answer
returns-clause-answer g c =
    answered_on_some c.args.pass.now.rooms g.N.Naming.rooms c.args.policy.now c.args.day c.args.who.now c.args.request.now c.args.pass.now.entries
    c.submit.new.pass.entries c.deref_mut.result.now.book.entries c.submit.result c.requires.named.1 c.submit.ensures.answer

pub returns-clause-entered : goal.returns-clause-entered
returns-clause-entered g c =
    entered_behind_some c.args.pass.now.rooms g.N.Naming.rooms c.args.policy.now c.args.day c.args.who.now c.args.request.now c.args.pass.now.entries
    c.deref_mut.result.now.book.entries c.submit.new.self.book.entries c.submit.result c.requires.named.1 c.submit.ensures.fault c.submit.ensures.entered

pub returns-clause-reply : goal.returns-clause-reply
returns-clause-reply g c = grind (arith, common_steps)

pub returns-clause-number : goal.returns-clause-number
returns-clause-number g c = grind (arith, common_steps)

pub returns-clause-accepted : goal.returns-clause-accepted
returns-clause-accepted g c = grind (arith, common_steps)

pub returns-clause-shut : goal.returns-clause-shut
returns-clause-shut g c = grind (arith, common_steps)

pub returns-clause-open : goal.returns-clause-open
returns-clause-open g c = grind (arith, common_steps)
