-- Which calls of a test object fail.
use Rattle.std.specs.Prelude.{ℕ, ◌+◌, ◌-◌, ◌^◌, min, List, Contains}

-- the numbers of the calls that fail, and the number of the next call; the first call is 0
pub record PlanState : Type 0 where
  pub calls : List ℕ
  pub next : ℕ

-- the next call is one that fails
abbrev pub FailsNext : PlanState → Type 0
FailsNext p = Contains p.calls p.next

-- one more, as far as the count goes
abbrev pub count_after : ℕ → ℕ
count_after n = min (n + 1) (2 ^ 64 - 1)

-- the plan after a call
abbrev pub plan_after : PlanState → PlanState
plan_after p = record { calls = p.calls; next = count_after p.next }
