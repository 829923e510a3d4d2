use Rattle.std.proofs.Common.{◌≡◌, ◌++◌, ℕ, List, sym, ◌∙◌, ap, subst}
use Rattle.std.specs.List.{AllByRecursion}
use Rattle.reg_entry.specs.Partition.{pieces_in}
use Rattle.delegated_ext.specs.Records.{piece_records}
use Rattle.delegated_ext.specs.StatisticsText.{record_text}
use Rattle.delegated_ext.specs.Writable.{IsWritable}
use Rattle.delegated_ext.proofs.Appended.{none_appended, one_appended, all_appended, texts_of_lists}
use Rattle.delegated_ext.proofs.records.append_records.Goals as goal

pub loop-piece-init : goal.loop-piece-init
loop-piece-init c =
    let same : c.into_iter-piece-iterator.result ≡ pieces_in c.args.pieces.now.partition c.args.space
    = c.into_iter-piece-iterator.ensures.into_iter_gives ∙ c.walk-piece-items.ensures.pieces in
    record { text = none_appended _ _ _ _ same; writable = subst (AllByRecursion IsWritable) (sym same) c.requires }

pub append_piece-requires : goal.append_piece-requires
append_piece-requires c = (subst (AllByRecursion IsWritable) c.in-Some.ensures.steps c.loop-piece.invariant.writable).0

pub loop-piece-preserved : goal.loop-piece-preserved
loop-piece-preserved c = record {
  text = one_appended _ _ _ _ _ _ _ _ c.in-Some.ensures.steps c.in_ok-append_piece.ensures c.loop-piece.invariant.text;
  writable = (subst (AllByRecursion IsWritable) c.in-Some.ensures.steps c.loop-piece.invariant.writable).1;
}

pub returns : goal.returns
returns c =
    all_appended _ _ _ _ _ c.in-None.ensures.steps.0 c.loop-piece.invariant.text
    ∙ ap (λ (us : List ℕ). c.args.body.now ++ us)
    (sym (texts_of_lists (record_text c.args.registry.now c.args.holders.now.holders) piece_records (pieces_in c.args.pieces.now.partition c.args.space)))
