use Rattle.std.proofs.Common.{subst}
use Rattle.page_dir.specs.Pages.{AreDistinct}
use Rattle.page_dir.specs.Spread.{PlainSpread}
use Rattle.page_dir.proofs.Spreads.{slots_differ}
use Rattle.page_dir.proofs.spread.Spread.order.Goals as goal

pub returns-clause-distinct : goal.returns-clause-distinct
returns-clause-distinct g c = subst (λ (s : PlainSpread (g.row.K.Denot × g.row.V.Denot)). AreDistinct s.order) c.self.view_is (slots_differ c.self.invariant)
