use Rattle.std.proofs.Common.{◌≡◌, None}
use Rattle.registry_main.proofs.Fed.{FedHere}
use Rattle.registry_main.proofs.mirror.feed_script.Given as goal

abbrev pub invariant-pieces : goal.invariant-pieces
invariant-pieces g l = record {
  reads : g.T.Source.faults l.script ≡ g.T.Source.faults l.initial.script;
  sound : l.mirror.fault ≡ None;
  fed : FedHere l.initial.mirror (g.T.Source.left l.initial.script) l.mirror (g.T.Source.left l.script);
}

abbrev pub decreases-pieces : goal.decreases-pieces
decreases-pieces g l = g.T.Source.budget l.script
