use Rattle.rpsl_text.proofs.read.read_object.Goals as goal

pub lines-init : goal.lines-init
lines-init c = cc
