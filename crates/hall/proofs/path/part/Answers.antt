use Rattle.std.proofs.Common.{◌∙◌, ap}
use Rattle.hall.specs.Path.{parts_of}
use Rattle.hall.proofs.Parts.{parts_first, parts_only}
use Rattle.hall.proofs.path.part.Goals as goal

pub returns-in-Some : goal.returns-in-Some
returns-in-Some c = ap parts_of c.in-Some.ensures.parts ∙ parts_first _ _ c.in-Some.ensures.first

pub returns-in-None : goal.returns-in-None
returns-in-None c = parts_only _ c.in-None.ensures.none
