use Rattle.std.proofs.Common.{◌≡◌, ◌+◌, length}
use Rattle.reg_entry.specs.Objects.{blocks_of}
use Rattle.op_feed.specs.PieceChanges.{pieces_gone}
use Rattle.op_feed.specs.EntryChanges.{dels}
use Rattle.board.specs.Noted.{all_noted, HaveHolders}
use Rattle.board.proofs.operations.Operations.note_gone.Given as goal

abbrev pub invariant-loop-left : goal.invariant-loop-left
invariant-loop-left l = record {
  known : HaveHolders l.holders.holders l.left;
  noted : all_noted l.self (dels (blocks_of l.holders.holders (pieces_gone l.left l.after)))
      ≡ all_noted l.initial.self (dels (blocks_of l.holders.holders (pieces_gone l.initial.left l.after)));
  serial : l.self.serial + length (dels (blocks_of l.holders.holders (pieces_gone l.left l.after)))
      ≡ l.initial.self.serial + length (dels (blocks_of l.holders.holders (pieces_gone l.initial.left l.after)));
}

abbrev pub decreases-loop-left : goal.decreases-loop-left
decreases-loop-left l = length l.left
