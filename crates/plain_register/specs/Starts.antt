-- Where the block of a delegation may start.
use Rattle.std.specs.Prelude.{◌≡◌, ℕ, ◌+◌, ◌-◌, ◌≤◌, true, Option, Some}
use Rattle.num_range.specs.Space.{top_of}
use Rattle.reg_entry.specs.declared.request.Request.{Request}
use Rattle.reg_entry.specs.declared.request.Request.TheVariants.{Delegate}
use Rattle.reg_entry.specs.Request.{amount_size, has_size}

-- the block of a Delegate that starts there has a size and lies within its space
abbrev pub MayStartAt : Request → Option ℕ → Type 0
MayStartAt (Delegate space amount status handle) (Some x) =
    (has_size space amount ≡ true) × (x + (amount_size space amount - 1) ≤ top_of space)
MayStartAt request start = Unit {0}
