use Rattle.std.proofs.Common.{Some, length, ap, refl, arith}
use Rattle.std.proofs.lemmas.Grind.{common_steps}
use Rattle.door_face.specs.MemGate.{the_door, links_of}
use Rattle.door_face.proofs.mem_gate.MemGateGate.way.Goals as goal

pub returns-in-Some-clause-to_come : goal.returns-in-Some-clause-to_come
returns-in-Some-clause-to_come g c = (
  length c.in-Some.way.to_come,
  links_of (the_door c.give.new.self c.args.door).to_come,
  ap links_of c.in-Some.ensures.way.1,
  ap (λ w. Some (length w.to_come)) c.given_for.ensures,
  refl,
)

pub returns-in-Some-clause-other : goal.returns-in-Some-clause-other
returns-in-Some-clause-other g c = grind (arith, common_steps)

pub returns-in-None-clause-given : goal.returns-in-None-clause-given
returns-in-None-clause-given g c = grind (arith, common_steps)

pub returns-in-None-clause-cause : goal.returns-in-None-clause-cause
returns-in-None-clause-cause g c = grind (arith, common_steps)
