-- The counts of faults, and what a failed call owes.
use Rattle.std.specs.Prelude.{◌≡◌, ℕ, ◌-◌, ◌^◌, ◌<◌, ◌≤◌, ◌⊎◌, Result, OnOk, OnErr}

-- the count rose, or stands at the end of a u64
abbrev pub HasRisen : ℕ → ℕ → Type 0
HasRisen before now = (before < now) ⊎ (2 ^ 64 - 1 ≤ now)

-- no fault is forgotten, one of this call stands behind an Err, and none behind an Ok
pub record HasCause {T E : Type 0} (before now : ℕ) (result : Result T E) : Type 0 where
  pub kept : before ≤ now
  pub risen : OnErr result (HasRisen before now)
  pub same : OnOk result (now ≡ before)
