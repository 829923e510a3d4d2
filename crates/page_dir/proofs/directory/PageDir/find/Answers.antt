use Rattle.std.proofs.Common.{◌≡◌, ◌+◌, ◌-◌, ◌<◌, ◌∙◌, suc, Some, length, get_or, arith, ap, sym}
use Rattle.std.proofs.lemmas.Grind.{common_steps}
use Rattle.std.specs.List.{prefix_len}
use Rattle.std.proofs.lemmas.Option.{slice_get-get_or}
use Rattle.page_dir.specs.Directory.{PlainDir}
use Rattle.page_dir.specs.Pages.{joined, page_of}
use Rattle.page_dir.specs.Searching.{stands_before}
use Rattle.page_dir.specs.declared.locating.Side.TheVariants.{UpTo}
use Rattle.page_dir.specs.Sorted.{last_at_most}
use Rattle.page_dir.specs.Spread.{pages_in, start}
use Rattle.page_dir.proofs.Enough.{place_inside}
use Rattle.page_dir.proofs.Looking.{item_before, last_by-front}
use Rattle.page_dir.proofs.Places.{down_from_rises, joined_at}
use Rattle.page_dir.proofs.directory.PageDir.find.Goals as goal

pub returns-then-at-eq0-clause-found : goal.returns-then-at-eq0-clause-found
returns-then-at-eq0-clause-found g c =
    let test = λ (p : g.row.K.Denot × g.row.V.Denot). stands_before g.K.Ord.cmp UpTo c.args.key.now p.0 in
    let ps = pages_in c.self.inside.spread in
    let none : prefix_len test (joined ps) ≡ 0 = (
    let zero_page = c.locate-page.ensures.front c.if-at-eq0.true in
    let e : start ps c.locate-page.result.0 ≡ 0 = ap (start ps) zero_page in
    omega (arith, c.locate-page.ensures.before, e, c.if-at-eq0.true)) in
    sym (ap (λ (d : PlainDir g.row.K.Denot g.row.V.Denot). last_at_most g.K.Ord.cmp c.args.key.now d.pairs) (sym c.self.view_is)
    ∙ last_by-front test (joined ps) (down_from_rises g.met.K.Ord.total UpTo c.args.key.now (joined ps) c.self.invariant.rises)
    ∙ ap (item_before (joined ps)) none)

pub returns-clause-found : goal.returns-clause-found
returns-clause-found g c =
    let test = λ (p : g.row.K.Denot × g.row.V.Denot). stands_before g.K.Ord.cmp UpTo c.args.key.now p.0 in
    let ps = pages_in c.self.inside.spread in
    let page = c.locate-page.result.0 in
    let at = c.locate-page.result.1 in
    let there = place_inside ps page at c.locate-page.ensures.place c.if-at-eq0.false in
    let within : at - 1 < length (page_of ps page) = omega (arith, c.locate-page.ensures.place.within) in
    let more : prefix_len test (joined ps) ≡ suc (start ps page + (at - 1)) = omega (arith, c.locate-page.ensures.before) in
    sym (ap (λ (d : PlainDir g.row.K.Denot g.row.V.Denot). last_at_most g.K.Ord.cmp c.args.key.now d.pairs) (sym c.self.view_is)
    ∙ last_by-front test (joined ps) (down_from_rises g.met.K.Ord.total UpTo c.args.key.now (joined ps) c.self.invariant.rises)
    ∙ ap (item_before (joined ps)) more
    ∙ joined_at ps page (at - 1) there within
    ∙ slice_get-get_or (page_of ps page) (at - 1) c.index-page-at.result within
    ∙ ap (λ xs. Some (get_or xs (at - 1) c.index-page-at.result)) (sym c.page.ensures.items)
    ∙ ap (λ p. Some p) (sym c.index-page-at.is))

pub page-requires : goal.page-requires
page-requires g c = grind (arith, common_steps)

pub offset_bounds-page-at : goal.offset_bounds-page-at
offset_bounds-page-at g c = grind (arith, common_steps)

pub bounds-page-at : goal.bounds-page-at
bounds-page-at g c = grind (arith, common_steps)

pub returns-clause-cost : goal.returns-clause-cost
returns-clause-cost g c = grind (arith, common_steps)
