use Rattle.std.proofs.Common.{◌≡◌, ◌+◌, ◌-◌, ◌<◌, ap, length, arith, subst}
use Rattle.page_dir.specs.Pages.{joined, page_of}
use Rattle.page_dir.specs.Searching.{FailsAt, IsTurn, PassesAt, stands_before}
use Rattle.page_dir.specs.Spread.{pages_in}
use Rattle.page_dir.proofs.Counting.{half_of_pages, page-le-items}
use Rattle.page_dir.proofs.Halving.{both_halved, bound_within}
use Rattle.page_dir.proofs.Places.{place_at_front, place_in_page, place_is_inside, down_from_rises, pages-le-items}
use Rattle.page_dir.proofs.locating.locate.Goals as goal

pub returns-then-pages-eq0-clause-before : goal.returns-then-pages-eq0-clause-before
returns-then-pages-eq0-clause-before g c =
    let ps = pages_in c.args.spread.now in
    place_at_front (λ p. stands_before g.K.Ord.cmp c.args.side c.args.key.now p.0) ps (λ i h. (c.requires.enough i h).filled)
    (subst (λ k. IsTurn (λ i. PassesAt (λ p. stands_before g.K.Ord.cmp c.args.side c.args.key.now p.0) (page_of ps i) 0) (λ i. FailsAt (λ p. stands_before g.K.Ord.cmp c.args.side c.args.key.now p.0) (page_of ps i) 0) (length ps) k)
    c.if-pages-eq0.true c.pages_before-pages.ensures.turn)

pub returns-then-pages-eq0-clause-cost : goal.returns-then-pages-eq0-clause-cost
returns-then-pages-eq0-clause-cost g c =
    let few = pages-le-items (pages_in c.args.spread.now) (λ i h. (c.requires.enough i h).filled) in
    let all = bound_within (length (pages_in c.args.spread.now)) in
    omega (arith, few, all, c.pages_before-pages.ensures.cost)

pub returns-clause-before : goal.returns-clause-before
returns-clause-before g c =
    let ps = pages_in c.args.spread.now in
    let pages = c.pages_before-pages.result in
    let turn = c.pages_before-pages.ensures.turn in
    let next : pages ≡ pages - 1 + 1 = omega arith in
    place_in_page (λ p. stands_before g.K.Ord.cmp c.args.side c.args.key.now p.0) ps (λ i h. (c.requires.enough i h).filled) (pages - 1) c.pairs_before-at.result (omega (arith, turn.within))
    (down_from_rises g.met.K.Ord.total c.args.side c.args.key.now (joined ps) c.requires.rises)
    (turn.before (omega arith))
    (subst (λ k. k < length ps → FailsAt (λ p. stands_before g.K.Ord.cmp c.args.side c.args.key.now p.0) (page_of ps k) 0) next turn.after)
    (subst (λ page. IsTurn (PassesAt (λ p. stands_before g.K.Ord.cmp c.args.side c.args.key.now p.0) page) (FailsAt (λ p. stands_before g.K.Ord.cmp c.args.side c.args.key.now p.0) page) (length page) c.pairs_before-at.result) c.page.ensures.items c.pairs_before-at.ensures.turn)

pub returns-clause-cost : goal.returns-clause-cost
returns-clause-cost g c =
    let ps = pages_in c.args.spread.now in
    let inside = page-le-items ps (c.pages_before-pages.result - 1) in
    both_halved c.args.steps.now c.pages_before-pages.new.steps c.pairs_before-at.new.steps (length ps) (length c.page.result.now)
    (length (joined ps)) c.pages_before-pages.ensures.counted c.pairs_before-at.ensures.counted
    c.pages_before-pages.ensures.cost c.pairs_before-at.ensures.cost c.page.ensures.within
    (let same = ap length c.page.ensures.items in omega (arith, same, inside))
    (half_of_pages ps c.requires.enough)

pub returns-clause-front : goal.returns-clause-front
returns-clause-front g c = λ none.
    let ps = pages_in c.args.spread.now in
    let pages = c.pages_before-pages.result in
    let turn = c.pages_before-pages.ensures.turn in
    let more = place_is_inside (λ p. stands_before g.K.Ord.cmp c.args.side c.args.key.now p.0) ps (λ i h. (c.requires.enough i h).filled) (pages - 1) c.pairs_before-at.result (omega (arith, turn.within)) (turn.before (omega arith))
    (subst (λ page. IsTurn (PassesAt (λ p. stands_before g.K.Ord.cmp c.args.side c.args.key.now p.0) page) (FailsAt (λ p. stands_before g.K.Ord.cmp c.args.side c.args.key.now p.0) page) (length page) c.pairs_before-at.result) c.page.ensures.items c.pairs_before-at.ensures.turn) in
    absurd (omega (arith, more, none))

pub pages_before-pages-requires-clause-down : goal.pages_before-pages-requires-clause-down
pages_before-pages-requires-clause-down g c =
    down_from_rises g.met.K.Ord.total c.args.side c.args.key.now (joined (pages_in c.args.spread.now)) c.requires.rises
