use Rattle.reader_edge.proofs.edge.EdgeReader.refuse.Goals as goal

pub returns-clause-refusals : goal.returns-clause-refusals
returns-clause-refusals g c = cc
