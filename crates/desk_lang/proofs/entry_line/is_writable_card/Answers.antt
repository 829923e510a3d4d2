use Rattle.std.proofs.Common.{rules}
use Rattle.desk_lang.proofs.entry_line.is_writable_card.Goals as goal

pub returns-in-None-Some : goal.returns-in-None-Some
returns-in-None-Some c = search rules
