use Rattle.reverse_zone.proofs.zone.part_inside.Goals as goal

pub returns : goal.returns
returns c = cc
