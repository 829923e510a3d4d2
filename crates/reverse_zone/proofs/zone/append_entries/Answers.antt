use Rattle.std.proofs.Common.{◌≡◌, ℕ, List, ◌++◌, true, ap, sym, ◌∙◌, subst}
use Rattle.std.specs.List.{AllByRecursion}
use Rattle.num_range.specs.Range.{ranges_meet}
use Rattle.sub_book.specs.Book.{ranges_meeting}
use Rattle.reverse_zone.specs.Apex.{apex_range}
use Rattle.reverse_zone.proofs.Appended.{none_appended, all_appended}
use Rattle.reverse_zone.proofs.Parts.{CutLaws}
use Rattle.reverse_zone.proofs.ZoneLines.{lines_of_met, met_pass}
use Rattle.reverse_zone.proofs.zone.append_entries.Goals as goal

pub loop-range-init : goal.loop-range-init
loop-range-init c =
    let same : c.into_iter-range-iterator.result ≡ ranges_meeting c.args.reverses.now.ranges (apex_range c.args.apex)
    = c.into_iter-range-iterator.ensures.into_iter_gives ∙ c.walk-range-items.ensures ∙ ap (ranges_meeting c.args.reverses.now.ranges) c.range.ensures in
    record {
      text = none_appended _ _ _ _ same;
      met = subst (AllByRecursion (λ p. ranges_meet p.0 (apex_range c.args.apex) ≡ true)) (sym same)
          (met_pass (apex_range c.args.apex) c.args.reverses.now.ranges);
    }

pub returns : goal.returns
returns c =
    let laws : CutLaws = record {
      cuts = c.cuts_are_widest.ensures.cuts;
      rises = c.cuts_are_widest.ensures.rises;
      inside = c.tests_are_relations.ensures.inside;
      meets = c.tests_are_relations.ensures.meets;
    } in
    all_appended _ _ _ _ _ c.in-None.ensures.steps.0 c.loop-range.invariant.text
    ∙ ap (λ (us : List ℕ). c.args.body.now ++ us) (lines_of_met laws c.args.apex c.args.reverses.now.ranges)
