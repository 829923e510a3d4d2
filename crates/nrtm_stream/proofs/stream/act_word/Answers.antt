use Rattle.nrtm_stream.proofs.stream.act_word.Goals as goal

pub returns-in-Del : goal.returns-in-Del
returns-in-Del c = cc
