use Rattle.std.proofs.Common.{rules}
use Rattle.reader_edge.proofs.edge.EdgeReader.enter.Goals as goal

pub returns-in-Ok-clause-refusals : goal.returns-in-Ok-clause-refusals
returns-in-Ok-clause-refusals g c = cc

pub returns-in-Err-clause-stays : goal.returns-in-Err-clause-stays
returns-in-Err-clause-stays g c = search rules
