use Rattle.registry_main.proofs.apply.apply_line.Goals as goal

pub returns : goal.returns
returns c = c.take.ensures
