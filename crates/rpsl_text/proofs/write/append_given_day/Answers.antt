use Rattle.std.proofs.Common.{rules}
use Rattle.rpsl_text.proofs.write.append_given_day.Goals as goal

pub returns : goal.returns
returns c = search rules
