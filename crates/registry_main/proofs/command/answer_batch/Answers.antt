use Rattle.std.proofs.Common.{Option, List, ℕ, subst}
use Rattle.std.specs.Io.KnownBytes.{Keeps}
use Rattle.registry_main.specs.Session.{PlainSession}
use Rattle.registry_main.specs.Batch.{BeginsWith, IsUpToDate, known}
use Rattle.registry_main.proofs.Written.{batch_replies}
use Rattle.registry_main.proofs.command.answer_batch.Goals as goal

pub returns-clause-answered : goal.returns-clause-answered
returns-clause-answered g c = (
  c.day.result,
  c.day.ensures,
  record {
    front = subst (λ (text : Option (List ℕ)). BeginsWith text (g.K.Sink.written c.answer_over-exit.new.out))
        (batch_replies _ _ _ _ _ c.in-Ok.ensures) c.answer_over-exit.ensures.front;
    done = λ e.
        let it = c.answer_over-exit.ensures.done e in
        (subst (λ (text : Option (List ℕ)). Keeps text (g.K.Sink.written c.answer_over-exit.new.out)) (batch_replies _ _ _ _ _ c.in-Ok.ensures) it.0, it.1);
    read = λ e. subst (λ (s : PlainSession). IsUpToDate s
        (known (g.T.Source.taken c.args.script.now) (g.T.Source.left c.args.script.now) (g.K.Sink.written c.args.out.now))
        (known (g.T.Source.taken c.answer_over-exit.new.script) (g.T.Source.left c.answer_over-exit.new.script) (g.K.Sink.written c.answer_over-exit.new.out)))
        c.in-Ok.ensures (c.answer_over-exit.ensures.up_to_date e);
  },
)
