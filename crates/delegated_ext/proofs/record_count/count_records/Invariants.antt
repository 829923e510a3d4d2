use Rattle.reg_entry.specs.Partition.{pieces_in}
use Rattle.delegated_ext.proofs.Counted.{IsCounting}
use Rattle.delegated_ext.proofs.record_count.count_records.Given as goal

abbrev pub invariant-loop-piece : goal.invariant-loop-piece
invariant-loop-piece l = IsCounting l.count l.piece-iterator (pieces_in l.pieces.partition l.fn.space)
