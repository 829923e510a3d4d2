use Rattle.std.proofs.Common.{ℕ, List, ◌++◌, ap, ◌∙◌}
use Rattle.num_range.specs.Cover.{reverse_cuts}
use Rattle.reverse_zone.specs.Part.{part_inside}
use Rattle.reverse_zone.proofs.Appended.{none_appended, one_appended, all_appended}
use Rattle.reverse_zone.proofs.Parts.{CutLaws}
use Rattle.reverse_zone.proofs.ZoneLines.{lines_of_part}
use Rattle.reverse_zone.proofs.zone.append_cuts.Goals as goal

pub loop-cut-init : goal.loop-cut-init
loop-cut-init c =
    none_appended _ _ _ _
    (c.into_iter-cut-iterator.ensures.into_iter_gives ∙ c.cuts-cut-items.ensures
    ∙ ap reverse_cuts (c.part_inside.ensures ∙ ap (λ a. part_inside c.args.range.now a) c.range.ensures))

pub loop-cut-preserved : goal.loop-cut-preserved
loop-cut-preserved c = one_appended _ _ _ _ _ _ _ _ c.in-Some.ensures.steps c.in_ok-append_cut.ensures c.loop-cut.invariant

pub returns : goal.returns
returns c =
    let laws : CutLaws = record {
      cuts = c.cuts_are_widest.ensures.cuts;
      rises = c.cuts_are_widest.ensures.rises;
      inside = c.tests_are_relations.ensures.inside;
      meets = c.tests_are_relations.ensures.meets;
    } in
    all_appended _ _ _ _ _ c.in-None.ensures.steps.0 c.loop-cut.invariant
    ∙ ap (λ (us : List ℕ). c.args.body.now ++ us) (lines_of_part laws c.args.apex c.args.range.now c.args.servers.now c.requires.met)
