use Rattle.std.proofs.Common.{◌≡◌, option_to_list, refl, ◌∙◌}
use Rattle.num_range.specs.Number.{PlainNumber}
use Rattle.reg_entry.specs.Entries.{last_card}
use Rattle.reg_entry.specs.Partition.{IsPartition}
use Rattle.delegated_ext.specs.Records.{record_lines}
use Rattle.delegated_ext.specs.Conserved.{record_has, cards_in_records}
use Rattle.delegated_ext.proofs.Lists.{any_of_option, no_two}
use Rattle.delegated_ext.proofs.Pieces.{CoverLaws, pool_cards, pool_sizes}
use Rattle.delegated_ext.proofs.laws.records_conserve.Goals as goal

pub returns : goal.returns
returns c r es of =
    let laws : CoverLaws = record {
      exact = c.cover_is_exact.ensures.exact;
      rises = c.cover_is_exact.ensures.rises;
      sizes = c.cover_is_exact.ensures.sizes;
      holds = c.tests_are_relations.ensures.holds;
    } in
    let conserve = c.reached_registers_conserve.ensures in
    let pool : IsPartition r.pool = (c.reached_registers_are_whole.ensures r (es, of)).pieces in
    let cards : (n : PlainNumber) → cards_in_records (record_lines r) n ≡ option_to_list (last_card es n)
    = λ n. pool_cards laws r pool n n.space refl ∙ conserve.once r es n of in
    record {
      disjoint = λ i j d lt within n a b. no_two (record_has n) (λ l. l.card) (record_lines r) (last_card es n) (cards n) i j d lt within a b;
      exact = λ n. any_of_option (record_has n) (λ l. l.card) (record_lines r) (last_card es n) (cards n) ∙ conserve.pooled r es n of;
      cards = cards;
      sizes = λ space. pool_sizes laws r pool space ∙ conserve.sizes r es space of;
    }
