use Rattle.std.proofs.Common.{◌≡◌, ◌++◌, take}
use Rattle.std.specs.List.{flat_map}
use Rattle.reverse_zone.specs.Zone.{server_line}
use Rattle.reverse_zone.proofs.lines.append_servers.Given as goal

abbrev pub invariant-loop-server : goal.invariant-loop-server
invariant-loop-server l = l.body ≡ l.fn.body ++ flat_map (server_line l.name) (take l.server-index l.server-items)
