-- The links along one way, served one after another.
use Rattle.std.specs.Prelude.{◌≡◌, ℕ, ◌-◌, ◌^◌, Bool, true, false, List, [], ◌∷◌, ◌++◌, length, min, Option, IfSome, option_map}
use Rattle.door_face.specs.declared.door.Door.{Door}
use Rattle.door_face.specs.Doors.{LinkRecord}
use Rattle.link_face.specs.Faults.{HasRisen}
use Rattle.snapshot_pub.specs.Pass.{PlainPass}

-- what a way tells: the door and the port that it was given for, how many links it has left, how many are given and not
-- back, those that are back, and how often it has failed
pub record PlainWay : Type 0 where
  pub door : Door
  pub port : ℕ
  pub links_left : Option ℕ
  pub lent : Option ℕ
  pub returned : Option (List LinkRecord)
  pub faults : ℕ

abbrev pub plain_way : Door → ℕ → Option ℕ → Option ℕ → Option (List LinkRecord) → ℕ → PlainWay
plain_way door port links_left lent returned faults =
    record { door = door; port = port; links_left = links_left; lent = lent; returned = returned; faults = faults }

-- the first link was served from what the pass had seen before, and each other from what the link before it left
abbrev pub AreServed : (PlainPass → LinkRecord → PlainPass → Type 0) → PlainPass → List LinkRecord → PlainPass → Type 0
AreServed serves before [] after = after ≡ before
AreServed serves before (link ∷ links) after = (middle : PlainPass) × serves before link middle × AreServed serves middle links after

-- a told list, and more behind it
abbrev pub with_more : {X : Type 0} → Option (List X) → List X → Option (List X)
with_more told more = option_map (λ xs. xs ++ more) told

-- the way failed, or it has no more links than these
abbrev pub HasEnded : Bool → PlainWay → List LinkRecord → PlainWay → Type 0
HasEnded true old links new = HasRisen old.faults new.faults
HasEnded false old links new = (new.faults ≡ old.faults) × IfSome old.links_left (λ n. n ≡ length links)

-- the way was served to its end: these are its links, each was served and given back, and their number was counted, up to
-- the greatest number of the type
pub record IsWayServed (serves : PlainPass → LinkRecord → PlainPass → Type 0) (before : PlainPass) (old : PlainWay) (count : ℕ)
    (has_failed : Bool) (new : PlainWay) (after : PlainPass) (links : List LinkRecord) : Type 0 where
  pub served : AreServed serves before links after
  pub returned : new.returned ≡ with_more old.returned links
  pub number : count ≡ min (length links) (2 ^ 64 - 1)
  pub end : HasEnded has_failed old links new
  pub lent : new.lent ≡ old.lent
  pub place : (new.door ≡ old.door) × (new.port ≡ old.port)

abbrev pub HasServedWay : (PlainPass → LinkRecord → PlainPass → Type 0) → PlainPass → PlainWay → ℕ → Bool → PlainWay → PlainPass → Type 0
HasServedWay serves before old count has_failed new after =
    (links : List LinkRecord) × IsWayServed serves before old count has_failed new after links
