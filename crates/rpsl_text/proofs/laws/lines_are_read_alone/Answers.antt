use Rattle.rpsl_text.proofs.ReadBack.{lines_alone}
use Rattle.rpsl_text.proofs.laws.lines_are_read_alone.Goals as goal

pub returns : goal.returns
returns c = lines_alone
