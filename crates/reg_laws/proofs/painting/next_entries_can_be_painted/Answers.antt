use Rattle.std.proofs.Common.{Option, IsSome, refl, sym, subst}
use Rattle.num_range.specs.Range.{PlainRange}
use Rattle.reg_laws.proofs.Paints.{next_painting, paints_in_one, paints_in_pool}
use Rattle.reg_laws.proofs.painting.next_entries_can_be_painted.Goals as goal

pub returns : goal.returns
returns c = record {
  one = λ r e range d h next cover card. paints_in_one r e range d h.pieces next cover card;
  pooled = λ r e range d h next cover card. paints_in_pool r e range d h.pieces next cover card;
  cover = λ r e d h next card. let p = next_painting r e d h.pieces next card in subst (λ (o : Option PlainRange). IsSome o) (sym p.covers) refl;
  plain = λ r e d h next card. (next_painting r e d h.pieces next card).plain;
  alone = λ r e d h next card. (next_painting r e d h.pieces next card).alone;
}
