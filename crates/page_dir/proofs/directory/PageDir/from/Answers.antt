use Rattle.std.proofs.Common.{◌<◌, ◌∙◌, Some, length, get_or, arith, ap, sym}
use Rattle.std.specs.List.{slice_get}
use Rattle.std.proofs.lemmas.Option.{slice_get-get_or}
use Rattle.std.proofs.lemmas.Grind.{elements, common_steps}
use Rattle.page_dir.specs.Directory.{PlainDir}
use Rattle.page_dir.specs.Pages.{joined, page_of}
use Rattle.page_dir.specs.Sorted.{rank}
use Rattle.page_dir.specs.Spread.{pages_in}
use Rattle.page_dir.proofs.Places.{joined_at}
use Rattle.page_dir.proofs.directory.PageDir.from.Goals as goal

pub returns : goal.returns
returns g c =
    let ps = pages_in c.self.inside.spread in
    let page = c.first_from-page.result.0 in
    let at = c.first_from-page.result.1 in
    let there : page < length ps = omega (arith, c.first_from-page.ensures.place.there, c.len.ensures, c.if-page-len.false) in
    let within : at < length (page_of ps page) = c.first_from-page.ensures.place.inside there in
    sym (ap (λ (d : PlainDir g.row.K.Denot g.row.V.Denot). slice_get d.pairs (rank g.K.Ord.cmp c.args.key.now d.pairs)) (sym c.self.view_is)
    ∙ ap (slice_get (joined ps)) (sym c.first_from-page.ensures.before)
    ∙ joined_at ps page at there within
    ∙ slice_get-get_or (page_of ps page) at c.index-page-at.result within
    ∙ ap (λ xs. Some (get_or xs at c.index-page-at.result)) (sym c.page.ensures.items)
    ∙ ap (λ p. Some p) (sym c.index-page-at.is))

pub returns-then-page-len : goal.returns-then-page-len
returns-then-page-len g c = grind (arith, elements)

pub offset_bounds-page-at : goal.offset_bounds-page-at
offset_bounds-page-at g c = grind (arith, elements)

pub bounds-page-at : goal.bounds-page-at
bounds-page-at g c = grind (arith, common_steps)
