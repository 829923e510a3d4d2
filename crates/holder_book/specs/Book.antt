-- A book of holders as contracts see it: the holders in the order of their numbers, and how many there may be.
use Rattle.std.specs.Prelude.{ℕ, List}
use Rattle.reg_entry.specs.declared.holder.Holder.{Holder}

pub record PlainHolderBook : Type 0 where
  pub holders : List (Holder × ℕ)
  pub room : ℕ
