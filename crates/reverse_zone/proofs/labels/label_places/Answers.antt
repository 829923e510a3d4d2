use Rattle.reverse_zone.proofs.labels.label_places.Goals as goal

pub returns-in-Ipv4-clause-places : goal.returns-in-Ipv4-clause-places
returns-in-Ipv4-clause-places c = cc

pub returns-in-Ipv6-clause-places : goal.returns-in-Ipv6-clause-places
returns-in-Ipv6-clause-places c = cc
