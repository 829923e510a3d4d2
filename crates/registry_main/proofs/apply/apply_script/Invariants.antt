use Rattle.std.proofs.Common.{◌≡◌}
use Rattle.registry_main.proofs.Applied.{LeadsHere}
use Rattle.registry_main.proofs.apply.apply_script.Given as goal

abbrev pub invariant-pieces : goal.invariant-pieces
invariant-pieces g l = record {
  reads : g.T.Source.faults l.script ≡ g.T.Source.faults l.initial.script;
  session : LeadsHere l.initial.session (g.T.Source.left l.initial.script) l.session l.line (g.T.Source.left l.script);
}

abbrev pub decreases-pieces : goal.decreases-pieces
decreases-pieces g l = g.T.Source.budget l.script
