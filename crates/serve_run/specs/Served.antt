-- A link that was served, and what the pass has seen by then.
use Rattle.std.specs.Prelude.{◌≡◌, ◌≢◌, ◌⊎◌, ℕ, Bool, List, Option}
use Rattle.std.specs.Io.KnownBytes.{IsAtEnd}
use mathlib.Core.List.{IsPrefix}
use Rattle.door_face.specs.Doors.{LinkRecord, IsFresh}
use Rattle.link_face.specs.Faults.{HasRisen}
use Rattle.wire_http.specs.declared.message.ConnEnd.{ConnEnd}
use Rattle.wire_http.specs.declared.message.ConnEnd.TheVariants.{Closed, ReadFault, WriteFault, Shut}
use Rattle.reg_entry.specs.Next.{IsLegal}
use Rattle.reader_edge.specs.Refusals.{raised}
use Rattle.snapshot_pub.specs.Pass.{PlainPass}
use Rattle.hall.specs.Turn.{Terms}
use Rattle.hall.specs.Desk.{seen_by}
use Rattle.hall.specs.Conversation.{Known, known, HasConversation}
use Rattle.hall.specs.Stream.{HasAnsweredLine}
use Rattle.serve_run.specs.Along.{PlainWay, HasServedWay}

-- the pass is of the same snapshots, and has seen a legal list that begins with what it had seen
pub record HasSeenMore (before after : PlainPass) : Type 0 where
  pub book_is : after.book ≡ before.book
  pub rooms_are : after.rooms ≡ before.rooms
  pub seen : IsPrefix before.entries after.entries
  pub legal : IsLegal after.rooms after.entries

-- what a conversation says of a link
abbrev pub known_of : LinkRecord → Known
known_of link = known link.taken link.left link.written

-- the link's count rose where a read or a write failed, and where the connection was closed none has
pub record IsCounted (outcome : ConnEnd) (start end : LinkRecord) : Type 0 where
  pub fault : (outcome ≡ ReadFault) ⊎ (outcome ≡ WriteFault) → HasRisen start.faults end.faults
  pub closed : outcome ≡ Closed → end.faults ≡ start.faults

-- ---- a link of the door `Http`

-- Nothing had passed on the link, and it was left as one connection leaves it, which ended so. Where the input had ended,
-- nothing is left of it.
pub record IsConnection (t : Terms) (before : PlainPass) (end : LinkRecord) (after : PlainPass) (start : LinkRecord) (outcome : ConnEnd) : Type 0 where
  pub fresh : IsFresh start
  pub conversation : HasConversation t (seen_by before) (known_of start) outcome (IsAtEnd end.left) (known_of end) (seen_by after)
  pub outcomes : (outcome ≡ Closed) ⊎ (outcome ≡ ReadFault) ⊎ (outcome ≡ WriteFault)
  pub counted : IsCounted outcome start end
  pub more : HasSeenMore before after

abbrev pub HasServedConnection : Terms → PlainPass → LinkRecord → PlainPass → Type 0
HasServedConnection t before end after = (start : LinkRecord) × (outcome : ConnEnd) × IsConnection t before end after start outcome

-- ---- a link of the door `Line`

-- Nothing had passed on the link, and it was left as one line and its answer leave it; the number is that of the entries
-- that were looked at.
pub record IsLine (registry : List ℕ) (before : PlainPass) (end : LinkRecord) (after : PlainPass) (start : LinkRecord) (outcome : ConnEnd)
    (number : Option ℕ) : Type 0 where
  pub fresh : IsFresh start
  pub line : HasAnsweredLine registry before (known_of start) outcome number (IsAtEnd end.left) (known_of end) after
  pub counted : IsCounted outcome start end
  pub shut : outcome ≡ Shut → after.shuts ≡ raised before.shuts
  pub still_open : outcome ≢ Shut → after.shuts ≡ before.shuts
  pub more : HasSeenMore before after

abbrev pub HasServedLine : List ℕ → PlainPass → LinkRecord → PlainPass → Type 0
HasServedLine registry before end after =
    (start : LinkRecord) × (outcome : ConnEnd) × (number : Option ℕ) × IsLine registry before end after start outcome number

-- ---- a way

-- the way was served to its end with the pass
pub record IsWorked (serves : PlainPass → LinkRecord → PlainPass → Type 0) (before : PlainPass) (old : PlainWay) (count : ℕ) (has_failed : Bool)
    (new : PlainWay) (after : PlainPass) : Type 0 where
  pub along : HasServedWay serves before old count has_failed new after
  pub more : HasSeenMore before after
