-- What becomes of the ways of the workers, and how their connections are counted.
use Rattle.std.specs.Prelude.{◌≡◌, ◌-◌, ◌^◌, ◌<◌, ◌≤◌, ℕ, Bool, true, false, List, [], ◌∷◌, Option, None, Some, min, map, length, ⊤}
use Rattle.std.specs.List.{list_any, sum_by}
use Rattle.door_face.specs.declared.door.Door.{Door}
use Rattle.door_face.specs.declared.outcome.Outcome.{Outcome}
use Rattle.door_face.specs.declared.outcome.Outcome.TheVariants.{Ended, Back}
use Rattle.door_face.specs.Doors.{WayRecord, way_record, more_by}
use Rattle.link_face.specs.Faults.{HasRisen}
use Rattle.serve_run.specs.Along.{PlainWay, with_more}
use Rattle.serve_run.specs.Gate.{PlainGate}
use Rattle.serve_run.specs.declared.back.Tally.{Tally}

-- what a worker leaves: how many connections were counted, whether the way failed, and the way
pub record PlainEnd : Type 0 where
  pub connections : ℕ
  pub has_failed : Bool
  pub way : PlainWay

abbrev pub plain_end : ℕ → Bool → PlainWay → PlainEnd
plain_end connections has_failed way = record { connections = connections; has_failed = has_failed; way = way }

-- the end of a worker, where the duty was worked
abbrev pub end_by : {D : Type 0} → (D → PlainEnd) → Outcome D → Option PlainEnd
end_by end_of (Ended x) = Some (end_of x)
end_by end_of Back = None

-- a way that failed has counted that, and one that didn't has counted none
pub record IsTold (end : PlainEnd) : Type 0 where
  pub failed : end.has_failed ≡ true → 0 < end.way.faults
  pub well : end.has_failed ≡ false → end.way.faults ≡ 0

abbrev pub IfWorked : (PlainEnd → Type 0) → Option PlainEnd → Type 0
IfWorked holds None = ⊤
IfWorked holds (Some end) = holds end

-- those that were worked
abbrev pub worked_ends : List (Option PlainEnd) → List PlainEnd
worked_ends [] = []
worked_ends (None ∷ ends) = worked_ends ends
worked_ends (Some end ∷ ends) = end ∷ worked_ends ends

abbrev pub came_back : Option PlainEnd → Bool
came_back None = true
came_back (Some end) = false

-- what a gate tells of a way that it took back
abbrev pub record_of : PlainEnd → WayRecord
record_of end = way_record end.way.door end.way.port end.way.returned

-- the greatest count
abbrev pub most : ℕ
most = 2 ^ 64 - 1

-- no door has another number of ways given or to come
abbrev pub IsAsFull : PlainGate → PlainGate → Type 0
IsAsFull old new = (door : Door) → (new.given door ≡ old.given door) × (new.to_come door ≡ old.to_come door)

-- The ways of the duties that were worked went back to the gate, in order, and were counted.
pub record AreTakenBack (old : PlainGate) (ends : List (Option PlainEnd)) (new : PlainGate) (tally : Tally) : Type 0 where
  pub returned : new.returned ≡ with_more old.returned (map record_of (worked_ends ends))
  pub lent : old.lent ≡ more_by (length (worked_ends ends)) new.lent
  pub connections : tally.connections ≡ min (sum_by (λ end. end.connections) (worked_ends ends)) most
  pub has_failed : tally.has_failed ≡ list_any (λ end. end.has_failed) (worked_ends ends)
  pub any_back : tally.any_back ≡ list_any came_back ends
  pub full : IsAsFull old new
  pub kept : old.faults ≤ new.faults
  pub well : tally.has_failed ≡ false → new.faults ≡ old.faults
  pub failed : tally.has_failed ≡ true → HasRisen old.faults new.faults
