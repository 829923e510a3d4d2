-- What the pool is once a value that it lent is given back.
use Rattle.std.specs.Prelude.{ℕ, List, Option, Some, slice_set}
use Rattle.std.specs.Borrow.{Lends, MutBor, Fml, RattleType}
use Rattle.slot_pool.specs.contracts.pool.Pool.{the_row}

-- the slot has the last value that was written, and nothing else changed
abbrev pub lends_value : (T : RattleType) → MutBor (List (Option T.Denot)) → ℕ → MutBor T.Denot → Fml
lends_value T s slot r = Lends (the_row T) T s r (λ w. slice_set s.now slot (Some w))
