use Rattle.std.proofs.Common.{◌≡◌, take}
use Rattle.nrtm_stream.specs.Stream.{capitals}
use Rattle.nrtm_stream.proofs.source.capitals.Given as goal

abbrev pub invariant-loop-b : goal.invariant-loop-b
invariant-loop-b l = l.source.items ≡ capitals (take l.b-index l.b-items)
