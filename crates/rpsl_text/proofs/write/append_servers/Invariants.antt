use Rattle.std.proofs.Common.{◌≡◌, ◌++◌, map, take}
use Rattle.rpsl_text.specs.Object.{attributes_text, server_attribute}
use Rattle.rpsl_text.proofs.write.append_servers.Given as goal

abbrev pub invariant-loop-server : goal.invariant-loop-server
invariant-loop-server l = l.body ≡ l.fn.body ++ attributes_text (map server_attribute (take l.server-index l.server-items))
