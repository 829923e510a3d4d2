use Rattle.link_face.proofs.mem_sink.MemSinkSink.write.Goals as goal

pub returns-in-Ok-clause-ok : goal.returns-in-Ok-clause-ok
returns-in-Ok-clause-ok c = cc
