use Rattle.std.proofs.Common.{rules}
use Rattle.rpsl_text.proofs.write.append_servers.Goals as goal

pub loop-server-init : goal.loop-server-init
loop-server-init c = search rules
