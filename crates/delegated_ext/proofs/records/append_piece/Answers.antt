use Rattle.std.proofs.Common.{rules}
use Rattle.delegated_ext.proofs.records.append_piece.Goals as goal

pub returns-in-Ipv6 : goal.returns-in-Ipv6
returns-in-Ipv6 c = search rules
