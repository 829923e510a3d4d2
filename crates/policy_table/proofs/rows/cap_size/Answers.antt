use Rattle.policy_table.proofs.rows.cap_size.Goals as goal

pub returns-in-Ipv6 : goal.returns-in-Ipv6
returns-in-Ipv6 c = cc
