use Rattle.std.proofs.Common.{◌≡◌, All, sym, subst}
use Rattle.snapshot_pub.specs.Press.{PlainPress}
use Rattle.snapshot_pub.specs.Opening.{new_pass}
use Rattle.snapshot_pub.proofs.opening.open_snapshots.Goals as goal

pub returns-clause-passes : goal.returns-clause-passes
returns-clause-passes g c =
    subst (λ (press : PlainPress). All (λ p. p ≡ new_pass press) c.with_passes.result.1.items) (sym c.with_passes.ensures.press) c.with_passes.ensures.passes
