use Rattle.std.proofs.Common.{subst}
use Rattle.page_dir.specs.Pages.{AreDistinct}
use Rattle.page_dir.specs.Directory.{PlainDir}
use Rattle.page_dir.proofs.directory.PageDir.order.Goals as goal

pub returns-clause-distinct : goal.returns-clause-distinct
returns-clause-distinct g c = subst (λ (d : PlainDir g.row.K.Denot g.row.V.Denot). AreDistinct d.order) c.self.view_is c.order.ensures.distinct
