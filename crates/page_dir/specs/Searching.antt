-- Finding a place by halving, and what it costs.
use Rattle.std.specs.Prelude.{◌≡◌, ℕ, ◌+◌, ◌-◌, ◌*◌, ◌<◌, ◌≤◌, Bool, true, false, nat_le, if◌then◌else◌, List}
use Rattle.std.specs.declared.cmp.Ordering.{Ordering}
use Rattle.std.specs.Ordering.{is_le, is_lt}
use Rattle.std.specs.List.{slice_get}
use Rattle.std.specs.Option.{IsSomeAnd}
use Rattle.page_dir.specs.declared.locating.Side.{Side}
use Rattle.page_dir.specs.declared.locating.Side.TheVariants.{Below, UpTo}

-- whether a key stands before the place that is looked for
abbrev pub stands_before : {K : Type 0} → (K → K → Ordering) → Side → K → K → Bool
stands_before cmp Below limit key = is_lt (cmp key limit)
stands_before cmp UpTo limit key = is_le (cmp key limit)

-- the item at the place passes the test, or fails it
abbrev pub PassesAt : {T : Type 0} → (T → Bool) → List T → ℕ → Type 0
PassesAt test ts i = IsSomeAnd (slice_get ts i) (λ t. test t ≡ true)

abbrev pub FailsAt : {T : Type 0} → (T → Bool) → List T → ℕ → Type 0
FailsAt test ts i = IsSomeAnd (slice_get ts i) (λ t. test t ≡ false)

-- where an item passes, all before it do
abbrev pub IsDown : {T : Type 0} → (T → Bool) → List T → Type 0
IsDown test ts = (i j : ℕ) → i ≤ j → PassesAt test ts j → PassesAt test ts i

-- between the item before a place and the item at it the test changes
pub record IsTurn (passes fails : ℕ → Type 0) (count place : ℕ) : Type 0 where
  pub within : place ≤ count
  pub before : 0 < place → passes (place - 1)
  pub after : place < count → fails place

-- the turn is in a window of so many places, from one on: at it, or behind one of them
pub record IsWindow (passes fails : ℕ → Type 0) (count low left : ℕ) : Type 0 where
  pub some : 1 ≤ left
  pub within : low + left ≤ count
  pub before : 0 < low → passes low
  pub after : low + left < count → fails (low + left)

-- 2 to the number of the halvings that leave one place of so many is at most this
abbrev pub power_bound : ℕ → ℕ
power_bound count = if nat_le count 1 then 1 else 2 * (count - 1)

-- after halvings: 2 to their number, the places left, and the places in all
pub record IsHalved (power left all : ℕ) : Type 0 where
  pub rest : power * left ≤ all
  pub spent : power ≤ 2 * all + 1
