use Rattle.page_dir.specs.Pages.{joined}
use Rattle.page_dir.specs.declared.locating.Side.TheVariants.{UpTo}
use Rattle.page_dir.specs.Spread.{pages_in}
use Rattle.page_dir.proofs.Places.{down_from_rises}
use Rattle.page_dir.proofs.locating.pages_up_to.Goals as goal

pub pages_before-requires-clause-down : goal.pages_before-requires-clause-down
pages_before-requires-clause-down g c =
    down_from_rises g.met.K.Ord.total UpTo c.args.key.now (joined (pages_in c.args.spread.now)) c.requires.rises
