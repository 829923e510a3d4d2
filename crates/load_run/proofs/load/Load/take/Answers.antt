use Rattle.std.proofs.Common.{subst, sym, rules}
use Rattle.reg_entry.specs.Decision.{IfAccepted}
use Rattle.reg_entry.specs.Next.{IsNextEntry}
use Rattle.load_gen.specs.Load.{PlainLoad}
use Rattle.load_run.proofs.Drawn.{stays_drawn}
use Rattle.load_run.proofs.load.Load.take.Goals as goal

pub invariant_of-self : goal.invariant_of-self
invariant_of-self c = λ known.
    stays_drawn c.next_entries_conserve.ensures.cards c.self.inside.board.register c.apply.new.self.register c.args.reply.now _ c.in-Accepted.is c.is_whole.ensures.whole
    (subst (λ (l : PlainLoad). IfAccepted c.args.reply.now (IsNextEntry l.register)) (sym c.self.view_is) c.requires.next) c.apply.ensures.register
    (c.self.invariant known)

pub returns-in-Accepted-clause-load : goal.returns-in-Accepted-clause-load
returns-in-Accepted-clause-load c = search rules
