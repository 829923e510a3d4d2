-- A step with what was learnt on the way: of how many bytes it is known that they have no head.
use Rattle.std.specs.Prelude.{ℕ, Bool, List}
use Rattle.wire_http.specs.declared.first_step.Found.{Found}
use Rattle.wire_http.specs.Head.{IsSearched}
use Rattle.wire_http.specs.Step.{IsFirst}

pub record IsFound (found : Found) (bytes : List ℕ) (ended : Bool) : Type 0 where
  pub step : IsFirst found.step bytes ended
  pub searched : IsSearched found.seen bytes
