use Rattle.std.proofs.Common.{rules}
use Rattle.command_words.proofs.command.Command.read_row.Goals as goal

pub returns-then-eq-3 : goal.returns-then-eq-3
returns-then-eq-3 c = search rules
