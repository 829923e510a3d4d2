use Rattle.std.proofs.Common.{◌^◌, ◌<◌}
use Rattle.std.specs.List.{AllByRecursion}
use Rattle.num_range.specs.Range.{PlainRange, size_of}
use Rattle.num_range.specs.Cover.{least_cover}
use Rattle.delegated_ext.specs.Records.{record_line}
use Rattle.delegated_ext.specs.StatisticsText.{record_text}
use Rattle.delegated_ext.proofs.Appended.{IsAppended}
use Rattle.delegated_ext.proofs.records.append_blocks.Given as goal

abbrev pub invariant-loop-block : goal.invariant-loop-block
invariant-loop-block l = record {
  text : IsAppended (λ (b : PlainRange). record_text l.registry l.holders.holders (record_line l.piece.card b)) l.fn.body l.body l.block-iterator
      (least_cover l.piece.range);
  counted : AllByRecursion (λ (b : PlainRange). size_of b < 2 ^ 128) l.block-iterator;
}
