use Rattle.std.proofs.Common.{◌≡◌}
use Rattle.hall.specs.Standing.{Standing}
use Rattle.hall.specs.Turn.{terms}
use Rattle.hall.proofs.Ending.{HasTalked}
use Rattle.hall.specs.Conversation.{known}
use Rattle.hall.proofs.connection.serve.Given as goal

abbrev pub invariant-pieces : goal.invariant-pieces
invariant-pieces g l = record {
  rooms : g.B.Backend.rooms l.backend ≡ g.B.Backend.rooms l.initial.backend;
  reference : g.B.Backend.reference l.backend ≡ g.B.Backend.reference l.initial.backend;
  faults : g.L.Source.faults l.link ≡ g.L.Source.faults l.initial.link;
  talked : (before : Standing) → g.B.Backend.stands l.initial.backend before → (now : Standing) × g.B.Backend.stands l.backend now
      × HasTalked (terms (g.B.Backend.rooms l.initial.backend) l.policy (g.C.Clock.states l.clock) g.B.Backend.goes_on g.B.Backend.may_fail) before
      (known (g.L.Source.taken l.initial.link) (g.L.Source.left l.initial.link) (g.L.Sink.written l.initial.link))
      (known (g.L.Source.taken l.link) (g.L.Source.left l.link) (g.L.Sink.written l.link)) l.framer.bytes now;
}

abbrev pub decreases-pieces : goal.decreases-pieces
decreases-pieces g l = g.L.Source.budget l.link
