use Rattle.load_gen.proofs.draw.Draw.at.Goals as goal

pub returns : goal.returns
returns c = cc
