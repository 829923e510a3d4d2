use Rattle.std.proofs.Common.{rules}
use Rattle.command_words.proofs.number.read_number_up_to.Goals as goal

pub returns : goal.returns
returns c = search rules
