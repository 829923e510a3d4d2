-- The holder of a number.
use Rattle.std.specs.Prelude.{ℕ, List, Option}
use Rattle.std.specs.List.{slice_get}
use Rattle.std.specs.Option.{option_and_then, option_map}
use Rattle.reg_entry.specs.declared.holder.Holder.{Holder}

abbrev pub holder_of : List (Holder × ℕ) → Option ℕ → Option Holder
holder_of holders number = option_map (λ held. held.0) (option_and_then (slice_get holders) number)
