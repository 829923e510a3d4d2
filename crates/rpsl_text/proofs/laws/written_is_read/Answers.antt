use Rattle.rpsl_text.proofs.ReadBack.{read_back}
use Rattle.rpsl_text.proofs.laws.written_is_read.Goals as goal

pub returns : goal.returns
returns c = read_back
