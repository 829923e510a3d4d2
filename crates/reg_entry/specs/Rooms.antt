-- Rooms: how much a register may keep.
use Rattle.std.specs.Prelude.{◌^◌, ◌≤◌}
use Rattle.reg_entry.specs.declared.rooms.Rooms.{Rooms}

-- each is at least 1, and no count and no serial leaves its type
pub record AreRooms (rooms : Rooms) : Type 0 where
  pub pieces : (1 ≤ rooms.pieces) × (rooms.pieces ≤ 2 ^ 30)
  pub holders : (1 ≤ rooms.holders) × (rooms.holders ≤ 2 ^ 30)
  pub subs : (1 ≤ rooms.subs) × (rooms.subs ≤ 2 ^ 30)
  pub reverse : (1 ≤ rooms.reverse) × (rooms.reverse ≤ 2 ^ 20)
  pub entries : (1 ≤ rooms.entries) × (rooms.entries ≤ 2 ^ 26)
  pub window : 1 ≤ rooms.window
