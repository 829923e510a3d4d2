use Rattle.std.proofs.Common.{rules}
use Rattle.cidr_cover.proofs.cut_walk.cut_length.Goals as goal

pub returns-in-Ipv6-clause-cut : goal.returns-in-Ipv6-clause-cut
returns-in-Ipv6-clause-cut c = search rules

pub returns-in-Ipv4-clause-least : goal.returns-in-Ipv4-clause-least
returns-in-Ipv4-clause-least c = search rules

pub returns-in_default-clause-cut : goal.returns-in_default-clause-cut
returns-in_default-clause-cut c = cc
