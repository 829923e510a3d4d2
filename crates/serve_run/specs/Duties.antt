-- Duties that are made of ways and passes, one after another.
use Rattle.std.specs.Prelude.{◌≡◌, ◌++◌, ℕ, All, List, map}
use Rattle.door_face.specs.declared.door.Door.{Door}
use Rattle.serve_run.specs.Along.{PlainWay}
use Rattle.serve_run.specs.Gate.{PlainGate, HasGiven}

-- The duties are made so: each of one more of the passes, with a way that was given at the door. These passes are left.
pub record AreDuties {H D P : Type 0} (make : H → D) (way_of : H → PlainWay) (pass_of : H → P) (Good : H → Type 0) (door : Door) (port : ℕ)
    (old : PlainGate) (passes left : List P) (duties : List D) (new : PlainGate) : Type 0 where
  pub parts : List H
  pub made : duties ≡ map make parts
  pub given : HasGiven door port old (map way_of parts) new
  pub passes_are : map pass_of parts ++ left ≡ passes
  pub good : All Good parts
