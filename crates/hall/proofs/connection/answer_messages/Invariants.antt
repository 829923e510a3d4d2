use Rattle.std.proofs.Common.{◌≡◌, List, length}
use Rattle.hall.specs.Standing.{Standing}
use Rattle.hall.specs.Turn.{terms, Turn}
use Rattle.hall.specs.Written.{read_side}
use Rattle.hall.proofs.Serving.{IsUnderWay}
use Rattle.hall.proofs.connection.answer_messages.Given as goal

abbrev pub invariant-messages : goal.invariant-messages
invariant-messages g l = record {
  rooms : g.B.Backend.rooms l.backend ≡ g.B.Backend.rooms l.initial.backend;
  reference : g.B.Backend.reference l.backend ≡ g.B.Backend.reference l.initial.backend;
  faults : g.L.Source.faults l.link ≡ g.L.Source.faults l.initial.link;
  reading : read_side (g.L.Source.taken l.link) (g.L.Source.left l.link) (g.L.Source.budget l.link)
      ≡ read_side (g.L.Source.taken l.initial.link) (g.L.Source.left l.initial.link) (g.L.Source.budget l.initial.link);
  end : g.L.Source.has_ended l.initial.link → g.L.Source.has_ended l.link;
  served : (before : Standing) → g.B.Backend.stands l.initial.backend before → (now : Standing) × g.B.Backend.stands l.backend now
      × ((turns : List Turn) × IsUnderWay (terms (g.B.Backend.rooms l.initial.backend) l.policy (g.C.Clock.states l.clock) g.B.Backend.goes_on g.B.Backend.may_fail)
      before l.initial.framer.bytes l.framer.bytes (g.L.Sink.written l.initial.link) (g.L.Sink.written l.link) now turns);
}

abbrev pub decreases-messages : goal.decreases-messages
decreases-messages g l = length l.framer.bytes
