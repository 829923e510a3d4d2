use Rattle.door_face.proofs.outcome.Outcome.is_back.Goals as goal

pub returns-in_default : goal.returns-in_default
returns-in_default g c = cc
