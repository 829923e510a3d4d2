use Rattle.std.proofs.Common.{◌^◌, ◌<◌, arith}
use Rattle.std.proofs.lemmas.Bool.Decides.{nat_tests}
use Rattle.std.proofs.lemmas.List.Elements.{All-push}
use Rattle.std.proofs.lemmas.Grind.{common_steps}
use Rattle.reverse_zone.specs.Zone.{label_bits}
use Rattle.mirror_core.proofs.Parted.{goes_on, stops, overflows, ends, last_stops, last_overflows}
use Rattle.mirror_core.proofs.names.labels_of.Goals as goal

pub returns-in_err-label-clause-none : goal.returns-in_err-label-clause-none
returns-in_err-label-clause-none c =
    let parts = c.in-Some.ensures in
    rw c.from_residual.ensures (stops _ _ _ _ _ _ c.labels.invariant.read parts.parts parts.first c.in_err-label.ensures.label)

pub returns-then-is_full-clause-none : goal.returns-then-is_full-clause-none
returns-then-is_full-clause-none c =
    let parts = c.in-Some.ensures in
    overflows _ _ _ _ _ _ c.labels.invariant.read parts.parts parts.first (grind (arith, nat_tests))

pub labels-preserved : goal.labels-preserved
labels-preserved c =
    let parts = c.in-Some.ensures in
    record {
      read = rw c.push.ensures.items (goes_on _ _ _ _ _ _ c.labels.invariant.read parts.parts parts.first _ c.in_ok-label.ensures.label);
      bounds = rw c.push.ensures.items (All-push (λ label. label < 2 ^ label_bits c.args.space) _ _ c.labels.invariant.bounds c.in_ok-label.ensures.bound);
    }

pub returns-in_err-label-2-clause-none : goal.returns-in_err-label-2-clause-none
returns-in_err-label-2-clause-none c =
    rw c.from_residual-in_err-label-2.ensures (last_stops _ _ _ _ c.labels.invariant.read c.in_default.ensures.none c.in_err-label-2.ensures.label)

pub returns-then-is_full-2-clause-none : goal.returns-then-is_full-2-clause-none
returns-then-is_full-2-clause-none c =
    last_overflows _ _ _ _ c.labels.invariant.read c.in_default.ensures.none (grind (arith, nat_tests))

pub returns-clause-some : goal.returns-clause-some
returns-clause-some c =
    rw c.push-2.ensures.items (ends _ _ _ _ c.labels.invariant.read c.in_default.ensures.none _ c.in_ok-label-2.ensures.label)

pub labels-smaller : goal.labels-smaller
labels-smaller c = grind (arith, common_steps)

pub returns-clause-bounds : goal.returns-clause-bounds
returns-clause-bounds c = grind (arith, common_steps)
