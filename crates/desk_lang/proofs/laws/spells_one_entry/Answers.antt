use Rattle.desk_lang.proofs.ReadEntries.{entry_once}
use Rattle.desk_lang.proofs.laws.spells_one_entry.Goals as goal

pub returns : goal.returns
returns c = entry_once
