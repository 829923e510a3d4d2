-- As what contracts see a `MemGate`.
use Rattle.std.specs.Prelude.{◌≡◌, ℕ, List, [], length, map}
use Rattle.door_face.specs.declared.door.Door.{Door}
use Rattle.door_face.specs.Doors.{WayRecord, way_record, at_door}
use Rattle.door_face.specs.MemWay.{MemWayState}
use Rattle.std.specs.Prelude.{Some}

-- one door: the ways to come, and how many were given
pub record MemDoorState : Type 0 where
  pub to_come : List MemWayState
  pub given : ℕ

-- the two doors, how many ways are given and not back, those that are back, and how often it was asked for a way that it hadn't
pub record MemGateState : Type 0 where
  pub http : MemDoorState
  pub line : MemDoorState
  pub lent : ℕ
  pub returned : List MemWayState
  pub faults : ℕ

-- a way that has given and taken nothing
abbrev pub IsUnused : MemWayState → Type 0
IsUnused way = (way.lent ≡ 0) × (way.returned ≡ [])

-- one of the doors
abbrev pub the_door : MemGateState → Door → MemDoorState
the_door gate door = at_door gate.http gate.line door

-- how many links the ways have
abbrev pub links_of : List MemWayState → List ℕ
links_of ways = map (λ way. length way.to_come) ways

abbrev pub records_of : List MemWayState → List WayRecord
records_of ways = map (λ way. way_record way.door way.port (Some way.returned)) ways
