use Rattle.std.proofs.Common.{◌∙◌, sym}
use Rattle.page_dir.proofs.PagePools.{spare_seen}
use Rattle.page_dir.proofs.page_pool.PagePool.spare.Goals as goal

pub returns : goal.returns
returns g c = c.spare.ensures ∙ sym (spare_seen c.self.inside.cells.items c.self.inside.lens c.args.self.now c.self.view_is)
