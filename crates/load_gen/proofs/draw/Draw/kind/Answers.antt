use Rattle.load_gen.proofs.draw.Draw.kind.Goals as goal

pub returns-clause-kind : goal.returns-clause-kind
returns-clause-kind c = cc
