use Rattle.std.proofs.Common.{◌+◌, ◌∙◌, ◌++◌, ap, sym, drop, take, refl}
use Rattle.std.proofs.lemmas.List.{drop_at, drop-drop}
use Rattle.page_dir.specs.Pages.{joined}
use Rattle.page_dir.specs.Spread.{pages_in, start}
use Rattle.page_dir.proofs.Joining.{joined-split}
use Rattle.page_dir.proofs.walk.PageWalk.over.Goals as goal

pub returns : goal.returns
returns g c =
    let ps = pages_in c.args.spread.now in
    let front = joined (take c.args.page ps) in
    let rest = joined (drop c.args.page ps) in
    ap (drop c.args.at) (sym (drop_at front rest (start ps c.args.page) refl))
    ∙ drop-drop c.args.at (start ps c.args.page) (front ++ rest)
    ∙ ap (drop (start ps c.args.page + c.args.at)) (joined-split ps c.args.page)
