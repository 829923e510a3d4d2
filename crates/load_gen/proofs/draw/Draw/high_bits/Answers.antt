use Rattle.load_gen.proofs.draw.Draw.high_bits.Goals as goal

pub returns-clause-bits : goal.returns-clause-bits
returns-clause-bits c = cc
