use Rattle.reader_edge.proofs.edge.EdgeReader.leave.Goals as goal

pub returns-clause-view : goal.returns-clause-view
returns-clause-view g c = cc
