use Rattle.std.proofs.Common.{List, ℕ, subst, ◌∙◌}
use Rattle.std.specs.Result.{OnErr}
use Rattle.registry_main.specs.Batch.{IsFrontWritten}
use Rattle.registry_main.proofs.Published.{zone_is_there}
use Rattle.registry_main.proofs.publish.write_zone_of.Goals as goal

pub returns-clause-err : goal.returns-clause-err
returns-clause-err g c =
    subst (λ (text : List ℕ). OnErr c.write_all.result (IsFrontWritten (g.K.Sink.written c.args.out.now) text (g.K.Sink.written c.write_all.new.out)))
    (zone_is_there c.args.session.now c.args.apex c.bytes.result.now c.has_zone.result c.has_zone.ensures c.if-not-has_zone.false
    (c.bytes.ensures ∙ c.in_ok-zone.ensures))
    c.write_all.ensures.err
