use Rattle.reverse_zone.proofs.Parts.{CutLaws}
use Rattle.reverse_zone.proofs.Zoned.{zones_delegate}
use Rattle.reverse_zone.proofs.laws.zones_delegate.Goals as goal

pub returns : goal.returns
returns c r reached =
    let laws : CutLaws = record {
      cuts = c.cuts_are_widest.ensures.cuts;
      rises = c.cuts_are_widest.ensures.rises;
      inside = c.tests_are_relations.ensures.inside;
      meets = c.tests_are_relations.ensures.meets;
    } in
    zones_delegate laws r (c.reached_registers_are_whole.ensures r reached)
