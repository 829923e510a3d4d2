-- How duties end.
use Rattle.std.specs.Prelude.{Bool, false, true, ⊤}
use Rattle.door_face.specs.declared.outcome.Outcome.{Outcome}
use Rattle.door_face.specs.declared.outcome.Outcome.TheVariants.{Ended, Back}

-- a duty that was worked ends with a Done that stands in its relation
abbrev pub EndsAs : {W D : Type 0} → (W → D → Type 0) → W → Outcome D → Type 0
EndsAs done duty (Ended x) = done duty x
EndsAs done duty Back = ⊤

-- a duty came back
abbrev pub is_back : {D : Type 0} → Outcome D → Bool
is_back (Ended x) = false
is_back Back = true
