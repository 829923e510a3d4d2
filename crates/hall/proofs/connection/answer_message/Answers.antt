use Rattle.std.proofs.Common.{rules}
use Rattle.hall.proofs.connection.answer_message.Goals as goal

pub returns-clause-answered : goal.returns-clause-answered
returns-clause-answered g c = search rules
