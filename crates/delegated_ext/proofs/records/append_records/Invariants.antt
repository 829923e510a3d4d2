use Rattle.std.specs.List.{flat_map, AllByRecursion}
use Rattle.reg_entry.specs.declared.piece.Piece.{Piece}
use Rattle.reg_entry.specs.Partition.{pieces_in}
use Rattle.delegated_ext.specs.Records.{piece_records}
use Rattle.delegated_ext.specs.StatisticsText.{record_text}
use Rattle.delegated_ext.specs.Writable.{IsWritable}
use Rattle.delegated_ext.proofs.Appended.{IsAppended}
use Rattle.delegated_ext.proofs.records.append_records.Given as goal

abbrev pub invariant-loop-piece : goal.invariant-loop-piece
invariant-loop-piece l = record {
  text : IsAppended (λ (p : Piece). flat_map (record_text l.registry l.holders.holders) (piece_records p)) l.fn.body l.body l.piece-iterator
      (pieces_in l.pieces.partition l.fn.space);
  writable : AllByRecursion IsWritable l.piece-iterator;
}
