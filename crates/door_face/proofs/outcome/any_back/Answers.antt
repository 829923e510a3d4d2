use Rattle.std.proofs.Common.{◌≡◌, ◌+◌, ◌||◌, false, drop, slice_index_or, sym, ap, ◌∙◌}
use Rattle.std.proofs.lemmas.List.{drop_more}
use Rattle.std.specs.List.{list_any}
use Rattle.door_face.specs.Duties.{is_back}
use Rattle.door_face.proofs.outcome.any_back.Goals as goal

pub loop-outcome-preserved : goal.loop-outcome-preserved
loop-outcome-preserved g c =
    let all = c.args.outcomes.now in
    let at = c.loop-outcome.outcome-index in
    let item = c.outcome-item.result in
    let ended : is_back (slice_index_or all at item) ≡ false = ap is_back (sym c.outcome-item.is) ∙ sym c.is_back.ensures ∙ c.if-is_back.false in
    sym (ap (λ b. b || list_any is_back (drop (at + 1) all)) ended) ∙ sym (ap (list_any is_back) (drop_more all at item c.loop-outcome-test.true))
    ∙ c.loop-outcome.invariant
