-- What each register on vectors keeps: it is that of a legal list of entries, and each vector has room for one more than may be
-- in it.
use Rattle.std.specs.Prelude.{◌≡◌, ℕ, ◌+◌, ◌≤◌, List}
use Rattle.num_range.specs.Range.{PlainRange}
use Rattle.reg_entry.specs.declared.holder.Holder.{Holder}
use Rattle.reg_entry.specs.declared.rooms.Rooms.{Rooms}
use Rattle.reg_entry.specs.declared.sub_card.SubCard.{SubCard}
use Rattle.reg_entry.specs.Rooms.{AreRooms}
use Rattle.reg_entry.specs.Partition.{Partition}
use Rattle.reg_entry.specs.Register.{Register}
use Rattle.reg_laws.specs.Reached.{IsReached}

-- the register of these parts
abbrev pub register_of : Rooms → ℕ → ℕ → ℕ → Partition → List (Holder × ℕ) → List (PlainRange × SubCard) → List (PlainRange × List (List ℕ)) → Register
register_of rooms entries first_day last_day pool holders subs reverses = record {
  rooms = rooms;
  entries = entries;
  first_day = first_day;
  last_day = last_day;
  pool = pool;
  holders = holders;
  subs = subs;
  reverses = reverses;
}

pub record IsKept (r : Register) (room holders subs reverses : ℕ) : Type 0 where
  pub reached : IsReached r
  pub rooms : AreRooms r.rooms
  pub pieces : room ≡ r.rooms.pieces
  pub holders_room : r.rooms.holders + 1 ≤ holders
  pub subs_room : r.rooms.subs + 1 ≤ subs
  pub reverses_room : r.rooms.reverse + 1 ≤ reverses
