-- What gates and ways tell: the links that a way took back, and the ways that a gate took back.
use Rattle.std.specs.Prelude.{◌≡◌, ℕ, ◌+◌, List, [], ◌∷◌, ◌++◌, Option, None, Some, IfSome, Result, Ok, Err, option_map}
use Rattle.door_face.specs.declared.door.Door.{Door}
use Rattle.door_face.specs.declared.door.Door.TheVariants.{Http, Line}

-- a link: the bytes read from it, those that it has left, and those written to it, each where it tells them, and its count of faults
pub record LinkRecord : Type 0 where
  pub taken : Option (List ℕ)
  pub left : Option (List ℕ)
  pub written : Option (List ℕ)
  pub faults : ℕ

-- a way: the door and the port that it was given for, and the links that it took back, in order, where it tells them
pub record WayRecord : Type 0 where
  pub door : Door
  pub port : ℕ
  pub links : Option (List LinkRecord)

abbrev pub link_record : Option (List ℕ) → Option (List ℕ) → Option (List ℕ) → ℕ → LinkRecord
link_record taken left written faults = record { taken = taken; left = left; written = written; faults = faults }

abbrev pub way_record : Door → ℕ → Option (List LinkRecord) → WayRecord
way_record door port links = record { door = door; port = port; links = links }

-- nothing was read from the link and nothing written to it, and its count is 0
abbrev pub IsFresh : LinkRecord → Type 0
IsFresh r = IfSome r.taken (λ bytes. bytes ≡ []) × IfSome r.written (λ bytes. bytes ≡ []) × (r.faults ≡ 0)

-- a told number, and so many more
abbrev pub more_by : ℕ → Option ℕ → Option ℕ
more_by n told = option_map (λ k. k + n) told

-- a told list, and one behind it
abbrev pub with_last : {X : Type 0} → Option (List X) → X → Option (List X)
with_last told x = option_map (λ xs. xs ++ x ∷ []) told

-- how many links an accept gave
abbrev pub links_given : {L E : Type 0} → Result (Option L) E → ℕ
links_given (Ok (Some link)) = 1
links_given (Ok None) = 0
links_given (Err e) = 0

-- how many ways were given
abbrev pub ways_given : {W E : Type 0} → Result W E → ℕ
ways_given (Ok way) = 1
ways_given (Err e) = 0

-- what stands at a door
abbrev pub at_door : {X : Type 0} → X → X → Door → X
at_door http line Http = http
at_door http line Line = line
