use Rattle.std.proofs.Common.{◌≡◌, ◌++◌, ℕ, List, sym, ◌∙◌, ap, ◌^◌, ◌<◌, subst}
use Rattle.std.specs.List.{AllByRecursion}
use Rattle.num_range.specs.Range.{PlainRange, size_of}
use Rattle.num_range.specs.Cover.{least_cover}
use Rattle.delegated_ext.specs.Records.{record_line}
use Rattle.delegated_ext.specs.StatisticsText.{record_text}
use Rattle.delegated_ext.proofs.Appended.{none_appended, one_appended, all_appended, blocks_counted, texts_of_mapped}
use Rattle.delegated_ext.proofs.records.append_blocks.Goals as goal

pub loop-block-init : goal.loop-block-init
loop-block-init c =
    let same : c.into_iter-block-iterator.result ≡ least_cover c.args.piece.now.range = c.into_iter-block-iterator.ensures.into_iter_gives ∙ c.cover-block-items.ensures in
    record {
      text = none_appended _ _ _ _ same;
      counted = subst (AllByRecursion (λ (b : PlainRange). size_of b < 2 ^ 128)) (sym same)
          (blocks_counted c.cover_is_exact.ensures.sizes c.args.piece.now.range c.first-valid.ensures.valid c.requires.1);
    }

pub append_range-requires : goal.append_range-requires
append_range-requires c =
    let counted = subst (AllByRecursion (λ (b : PlainRange). size_of b < 2 ^ 128)) c.in-Some.ensures.steps c.loop-block.invariant.counted in
    record { date = c.requires.0; counted = counted.0 }

pub loop-block-preserved : goal.loop-block-preserved
loop-block-preserved c =
    let counted = subst (AllByRecursion (λ (b : PlainRange). size_of b < 2 ^ 128)) c.in-Some.ensures.steps c.loop-block.invariant.counted in
    record {
      text = one_appended _ _ _ _ _ _ _ _ c.in-Some.ensures.steps c.in_ok-append_range.ensures c.loop-block.invariant.text;
      counted = counted.1;
    }

pub returns : goal.returns
returns c =
    all_appended _ _ _ _ _ c.in-None.ensures.steps.0 c.loop-block.invariant.text
    ∙ ap (λ (us : List ℕ). c.args.body.now ++ us)
    (sym (texts_of_mapped (record_text c.args.registry.now c.args.holders.now.holders) (record_line c.args.piece.now.card) (least_cover c.args.piece.now.range)))
