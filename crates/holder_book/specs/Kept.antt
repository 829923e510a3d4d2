-- What each book of holders keeps: distinct handles, their index, and room in it for as many as there may be.
use Rattle.std.specs.Prelude.{ℕ, ◌^◌, ◌≤◌, List, length}
use Rattle.reg_entry.specs.declared.holder.Holder.{Holder}
use Rattle.reg_entry.specs.Holders.{HaveDistinctHandles}
use Rattle.holder_book.specs.Index.{IsHolderIndex}

pub record IsHolderBook (hs : List (Holder × ℕ)) (ps : List (ℕ × ℕ)) (room index_room : ℕ) : Type 0 where
  pub distinct : HaveDistinctHandles hs
  pub index : IsHolderIndex hs ps
  pub within : length hs ≤ room
  pub at_most : room ≤ 2 ^ 30
  pub reserved : room ≤ index_room
