use Rattle.std.proofs.Common.{◌∙◌, ap}
use Rattle.command_words.specs.Command.{command_of}
use Rattle.command_words.proofs.Spelled.{command_found, command_spelled}
use Rattle.command_words.proofs.laws.commands_have_one_list_of_words.Goals as goal

pub returns : goal.returns
returns c = λ words command. (command_spelled words command, λ spelled. ap command_of spelled.0 ∙ command_found command spelled.1)
