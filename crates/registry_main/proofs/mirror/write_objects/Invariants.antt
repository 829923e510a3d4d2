use Rattle.std.proofs.Common.{◌≡◌}
use Rattle.std.specs.Io.KnownBytes.{append_known, Keeps}
use Rattle.mirror_core.specs.Objects.{objects_text}
use Rattle.registry_main.proofs.Fed.{still}
use Rattle.registry_main.proofs.mirror.write_objects.Given as goal

abbrev pub invariant-loop-attributes : goal.invariant-loop-attributes
invariant-loop-attributes g l = record {
  next : (goal.iterator-loop-attributes g).can_next l.attributes-iterator;
  finite : (goal.iterator-loop-attributes g).is_finite l.attributes-iterator;
  faults : g.K.Sink.faults l.out ≡ g.K.Sink.faults l.fn.out;
  kept : Keeps (append_known (g.K.Sink.written l.fn.out) (objects_text l.objects)) (still (g.K.Sink.written l.out) l.block l.attributes-iterator);
}
