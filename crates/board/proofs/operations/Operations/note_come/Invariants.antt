use Rattle.std.proofs.Common.{◌≡◌, ◌+◌, length}
use Rattle.reg_entry.specs.Objects.{blocks_of}
use Rattle.op_feed.specs.PieceChanges.{pieces_come}
use Rattle.op_feed.specs.EntryChanges.{adds}
use Rattle.board.specs.Noted.{all_noted, HaveHolders}
use Rattle.board.proofs.operations.Operations.note_come.Given as goal

abbrev pub invariant-loop-left : goal.invariant-loop-left
invariant-loop-left l = record {
  known : HaveHolders l.holders.holders l.left;
  noted : all_noted l.self (adds (blocks_of l.holders.holders (pieces_come l.before l.left)))
      ≡ all_noted l.initial.self (adds (blocks_of l.holders.holders (pieces_come l.before l.initial.left)));
  serial : l.self.serial + length (adds (blocks_of l.holders.holders (pieces_come l.before l.left)))
      ≡ l.initial.self.serial + length (adds (blocks_of l.holders.holders (pieces_come l.before l.initial.left)));
}

abbrev pub decreases-loop-left : goal.decreases-loop-left
decreases-loop-left l = length l.left
