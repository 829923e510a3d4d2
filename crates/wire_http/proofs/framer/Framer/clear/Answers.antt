use Rattle.std.proofs.Common.{rules}
use Rattle.wire_http.proofs.Steps.{unsearched}
use Rattle.wire_http.proofs.framer.Framer.clear.Goals as goal

pub invariant_of-self : goal.invariant_of-self
invariant_of-self c = record { within = search rules; fits = search rules; room = search rules; searched = unsearched _ }
