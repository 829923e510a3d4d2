-- As what contracts see a `MemWay`.
use Rattle.std.specs.Prelude.{ℕ, List}
use Rattle.door_face.specs.declared.door.Door.{Door}
use Rattle.door_face.specs.Doors.{LinkRecord}

-- the door and the port that it was given for, the links to come, how many are given and not back, and those that are back
pub record MemWayState : Type 0 where
  pub door : Door
  pub port : ℕ
  pub to_come : List LinkRecord
  pub lent : ℕ
  pub returned : List LinkRecord
