use Rattle.std.proofs.Common.{rules}
use Rattle.wire_http.proofs.Steps.{unsearched}
use Rattle.wire_http.proofs.framer.Framer.new.Goals as goal

pub invariant_of-result : goal.invariant_of-result
invariant_of-result c = record { within = search rules; fits = search rules; room = search rules; searched = unsearched _ }
