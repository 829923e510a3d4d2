use Rattle.std.proofs.Common.{rules}
use Rattle.desk_lang.proofs.rest.Rest.next_word.Goals as goal

pub returns-in_default : goal.returns-in_default
returns-in_default c = search rules
