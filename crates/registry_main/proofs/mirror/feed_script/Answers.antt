use Rattle.std.proofs.Common.{rules}
use Rattle.registry_main.proofs.mirror.feed_script.Goals as goal

pub returns-in-Ok-eq0-clause-refused : goal.returns-in-Ok-eq0-clause-refused
returns-in-Ok-eq0-clause-refused g c = search rules
