use Rattle.std.proofs.Common.{◌≡◌}
use Rattle.std.specs.List.{flat_map, AllByRecursion}
use Rattle.std.specs.Io.KnownBytes.{append_known, Keeps}
use Rattle.reverse_zone.specs.Apex.{IsApex}
use Rattle.reverse_zone.specs.Zone.{apexes}
use Rattle.registry_main.specs.Published.{zone_or_none}
use Rattle.registry_main.proofs.publish.write_zones.Given as goal

abbrev pub invariant-loop-apex : goal.invariant-loop-apex
invariant-loop-apex g l = record {
  next : (goal.iterator-loop-apex g).can_next l.apex-iterator;
  finite : (goal.iterator-loop-apex g).is_finite l.apex-iterator;
  faults : g.K.Sink.faults l.out ≡ g.K.Sink.faults l.fn.out;
  valid : AllByRecursion IsApex l.apex-iterator;
  kept : Keeps (append_known (g.K.Sink.written l.fn.out) (flat_map (zone_or_none l.session) apexes))
      (append_known (g.K.Sink.written l.out) (flat_map (zone_or_none l.session) l.apex-iterator));
}
