use Rattle.std.proofs.Common.{rules}
use Rattle.desk_text.proofs.entry_text.append_holder_number.Goals as goal

pub returns-in-Some-clause-text : goal.returns-in-Some-clause-text
returns-in-Some-clause-text g c = search rules
