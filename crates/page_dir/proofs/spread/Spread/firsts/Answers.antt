use Rattle.std.proofs.Common.{ap, subst, sym}
use Rattle.page_dir.specs.Spread.{BeginWith, pages_in}
use Rattle.page_dir.proofs.spread.Spread.firsts.Goals as goal

pub returns : goal.returns
returns g c =
    subst (λ keys. BeginWith keys (pages_in c.args.self.now)) (sym c.deref.ensures.value)
    (subst (BeginWith c.self.inside.firsts.items) (ap pages_in c.self.view_is) c.self.invariant.begin)
