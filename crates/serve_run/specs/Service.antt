-- What serving both doors leaves: of each way its links, served one after another from an empty register on.
use Rattle.std.specs.Prelude.{◌≡◌, ◌+◌, ◌++◌, ℕ, List, [], ◌∷◌, Option, Some, IfSome, min, map, length, ⊤}
use Rattle.std.specs.List.{sum_by}
use Rattle.logbook.specs.Pages.{Book}
use Rattle.reg_entry.specs.Next.{IsLegal}
use Rattle.reg_entry.specs.Policy.{PlainPolicy}
use Rattle.reg_entry.specs.declared.rooms.Rooms.{Rooms}
use Rattle.door_face.specs.declared.door.Door.{Door}
use Rattle.door_face.specs.declared.door.Door.TheVariants.{Http, Line}
use Rattle.door_face.specs.Doors.{LinkRecord, WayRecord}
use Rattle.snapshot_pub.specs.Pass.{PlainPass}
use Rattle.hall.specs.Desk.{among_others}
use Rattle.serve_run.specs.Along.{AreServed, with_more}
use Rattle.serve_run.specs.Served.{HasServedConnection, HasServedLine}
use Rattle.serve_run.specs.Gate.{PlainGate}
use Rattle.serve_run.specs.Back.{most}

-- a pass of an empty register, which was never shut
abbrev pub pass_of_none : Book → Rooms → PlainPass
pass_of_none book rooms = record { book = book; rooms = rooms; entries = []; shuts = 0 }

-- The links of one way were served one after another with one pass, which began with none and has seen a legal list then;
-- the way is told by these, for its door and port.
pub record IsServedWay (serves : PlainPass → LinkRecord → PlainPass → Type 0) (first : PlainPass) (door : Door) (port : ℕ)
    (links : List LinkRecord) (way : WayRecord) (last : PlainPass) : Type 0 where
  pub served : AreServed serves first links last
  pub legal : IsLegal last.rooms last.entries
  pub door_is : way.door ≡ door
  pub port_is : way.port ≡ port
  pub links_are : IfSome way.links (λ told. told ≡ links)

-- each of the ways was served so
abbrev pub AreServedWays : (PlainPass → LinkRecord → PlainPass → Type 0) → PlainPass → Door → ℕ
    → List (List LinkRecord) → List WayRecord → Type 0
AreServedWays serves first door port [] [] = ⊤
AreServedWays serves first door port (links ∷ more) (way ∷ ways) =
    ((last : PlainPass) × IsServedWay serves first door port links way last) × AreServedWays serves first door port more ways
AreServedWays serves first door port more ways = ⊥

-- the ways to come had at first as many links as these
abbrev pub AreAllOf : List (List LinkRecord) → Option (List ℕ) → List ℕ → Type 0
AreAllOf links after numbers = (rest : List ℕ) × (numbers ≡ map length links ++ rest) × (after ≡ Some rest)

-- So many ways were given at the door, each was served, and where the gate told how many links they had, they are all of them.
pub record IsServedDoor (serves : PlainPass → LinkRecord → PlainPass → Type 0) (first : PlainPass) (door : Door) (port workers : ℕ)
    (old new : PlainGate) (links : List (List LinkRecord)) (ways : List WayRecord) : Type 0 where
  pub each : AreServedWays serves first door port links ways
  pub number : length links ≡ workers
  pub given : new.given door ≡ old.given door + workers
  pub all : IfSome (old.to_come door) (AreAllOf links (new.to_come door))

-- Both doors were served: the ways of all workers were given and taken back, and the connections are as many as their links.
pub record IsServed (rooms : Rooms) (policy : PlainPolicy) (is_day : ℕ → Type 0) (http line workers : ℕ) (old new : PlainGate) (count : ℕ)
    : Type 0 where
  pub book : Book
  pub http_links : List (List LinkRecord)
  pub http_ways : List WayRecord
  pub line_links : List (List LinkRecord)
  pub line_ways : List WayRecord
  pub at_http : IsServedDoor (λ before end after. HasServedConnection (among_others before.rooms policy is_day) before end after)
      (pass_of_none book rooms) Http http workers old new http_links http_ways
  pub at_line : IsServedDoor (λ before end after. HasServedLine policy.registry before end after)
      (pass_of_none book rooms) Line line workers old new line_links line_ways
  pub returned : new.returned ≡ with_more old.returned (http_ways ++ line_ways)
  pub lent : new.lent ≡ old.lent
  pub faults : new.faults ≡ old.faults
  pub number : count ≡ min (sum_by (λ links. length links) (http_links ++ line_links)) most
