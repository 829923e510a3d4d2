-- What becomes of what is published when an entry is taken in.
use Rattle.std.specs.Prelude.{if◌then◌else◌}
use Rattle.reg_entry.specs.Entry.{PlainEntry}
use Rattle.reg_entry.specs.Operations.{PlainBoard, board_after_entry}
use Rattle.reg_entry.specs.Next.{may_come_next}
use Rattle.snapshot_pub.specs.declared.put.Put.{Put}
use Rattle.snapshot_pub.specs.Shown.{PlainShown}

-- the board after an entry that may come next; any other changes nothing
abbrev pub board_if_next : PlainBoard → PlainEntry → PlainBoard
board_if_next b e = if may_come_next b.register e then board_after_entry b e else b

abbrev pub applied : PlainShown → Put → PlainShown
applied x p = record { board = board_if_next x.board p.entry; front = p.front }
