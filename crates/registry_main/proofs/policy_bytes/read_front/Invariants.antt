use Rattle.std.proofs.Common.{◌≡◌, ◌+◌, ◌≤◌, length}
use Rattle.std.specs.Io.KnownBytes.{Consumes}
use Rattle.registry_main.proofs.policy_bytes.read_front.Given as goal

abbrev pub invariant-pieces : goal.invariant-pieces
invariant-pieces g l = record {
  room : length l.piece ≡ 4096;
  within : length l.bytes.items ≤ 65537;
  spent : g.S.Source.budget l.source + length l.bytes.items ≡ g.S.Source.budget l.initial.source;
  reads : g.S.Source.faults l.source ≡ g.S.Source.faults l.initial.source;
  consumed : Consumes (g.S.Source.left l.initial.source) (g.S.Source.left l.source) l.bytes.items;
}

abbrev pub decreases-pieces : goal.decreases-pieces
decreases-pieces g l = g.S.Source.budget l.source
