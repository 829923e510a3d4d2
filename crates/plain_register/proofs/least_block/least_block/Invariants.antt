use Rattle.std.proofs.Common.{◌≡◌, drop}
use Rattle.reg_entry.specs.Blocks.{least_block}
use Rattle.plain_register.proofs.least_block.least_block.Given as goal

abbrev pub invariant-loop-piece : goal.invariant-loop-piece
invariant-loop-piece l = least_block (drop l.piece-index l.pieces) l.space l.size ≡ least_block l.pieces l.space l.size
