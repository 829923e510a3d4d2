-- A gate as contracts see it, and the ways that it gave for the workers of a door.
use Rattle.std.specs.Prelude.{◌≡◌, ◌≢◌, ◌+◌, ◌++◌, ℕ, All, List, [], Option, Some, IfSome, length, map}
use Rattle.door_face.specs.declared.door.Door.{Door}
use Rattle.door_face.specs.Doors.{WayRecord, more_by}
use Rattle.serve_run.specs.Along.{PlainWay}

-- how many ways were given at each door, how many links the ways to come have, how many ways are given and not back, those
-- that are back, and how often it has failed
pub record PlainGate : Type 0 where
  pub given : Door → ℕ
  pub to_come : Door → Option (List ℕ)
  pub lent : Option ℕ
  pub returned : Option (List WayRecord)
  pub faults : ℕ

abbrev pub plain_gate : (Door → ℕ) → (Door → Option (List ℕ)) → Option ℕ → Option (List WayRecord) → ℕ → PlainGate
plain_gate given to_come lent returned faults =
    record { given = given; to_come = to_come; lent = lent; returned = returned; faults = faults }

-- a way for the door and the port on which nothing has happened
pub record IsNewWay (door : Door) (port : ℕ) (way : PlainWay) : Type 0 where
  pub door_is : way.door ≡ door
  pub port_is : way.port ≡ port
  pub lent : IfSome way.lent (λ n. n ≡ 0)
  pub returned : IfSome way.returned (λ links. links ≡ [])
  pub faults : way.faults ≡ 0

-- the ways to come have at first these numbers of links, which the given ways have left
pub record IsFrontGiven (ways : List PlainWay) (after : Option (List ℕ)) (numbers : List ℕ) : Type 0 where
  pub front : List ℕ
  pub rest : List ℕ
  pub numbers_are : numbers ≡ front ++ rest
  pub front_is : map (λ way. way.links_left) ways ≡ map Some front
  pub rest_is : after ≡ Some rest

-- these ways were given at the door, one after another, and nothing else has changed
pub record HasGiven (door : Door) (port : ℕ) (old : PlainGate) (ways : List PlainWay) (new : PlainGate) : Type 0 where
  pub fresh : All (IsNewWay door port) ways
  pub given : new.given door ≡ old.given door + length ways
  pub to_come : IfSome (old.to_come door) (IsFrontGiven ways (new.to_come door))
  pub other : (other : Door) → other ≢ door → (new.to_come other ≡ old.to_come other) × (new.given other ≡ old.given other)
  pub lent : new.lent ≡ more_by (length ways) old.lent
  pub returned : new.returned ≡ old.returned
  pub faults : new.faults ≡ old.faults
