use Rattle.std.proofs.Common.{sym, subst}
use Rattle.std.specs.Result.{OnErr}
use Rattle.command_words.specs.declared.command.Publication.{Publication}
use Rattle.registry_main.specs.Batch.{IsFrontWritten}
use Rattle.registry_main.specs.Published.{session_text}
use Rattle.registry_main.proofs.publish.write_publication.Goals as goal

pub returns-in-Statistics-clause-err : goal.returns-in-Statistics-clause-err
returns-in-Statistics-clause-err g c =
    subst (λ (what : Publication). OnErr c.write_statistics.result
    (IsFrontWritten (g.K.Sink.written c.args.out.now) (session_text what c.args.session.now) (g.K.Sink.written c.write_statistics.new.out)))
    (sym c.in-Statistics.is) c.write_statistics.ensures.err

pub returns-in-Zones-clause-err : goal.returns-in-Zones-clause-err
returns-in-Zones-clause-err g c =
    subst (λ (what : Publication). OnErr c.write_zones.result
    (IsFrontWritten (g.K.Sink.written c.args.out.now) (session_text what c.args.session.now) (g.K.Sink.written c.write_zones.new.out)))
    (sym c.in-Zones.is) c.write_zones.ensures.err
