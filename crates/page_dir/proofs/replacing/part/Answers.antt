use Rattle.std.proofs.Common.{◌-◌, ◌<◌, ◌∙◌, ◌++◌, length, arith, ap, drop, set, take}
use Rattle.std.proofs.lemmas.Grind.{common_steps, moves, elements}
use Rattle.std.proofs.lemmas.List.{take_rest}
use Rattle.page_dir.specs.Pages.{page_of}
use Rattle.page_dir.specs.Splices.{spliced}
use Rattle.page_dir.specs.Spread.{pages_in}
use Rattle.page_dir.proofs.Enough.{place_inside, tidy-parted}
use Rattle.page_dir.proofs.Joining.{parted_joined}
use Rattle.page_dir.proofs.replacing.part.Goals as goal

pub returns-clause-joined : goal.returns-clause-joined
returns-clause-joined g c =
    let page = c.page-page.result.now in
    let there : c.args.i < length (pages_in c.args.spread.now) = place_inside _ _ _ c.requires.place c.if-at-eq0.false in
    let len = ap length c.page-page.ensures.items in
    let back = c.deref.ensures.value ∙ c.append.ensures.items ∙ ap (λ xs. xs ++ take (length page - c.args.at) (drop c.args.at page)) c.clear.ensures.items
    ∙ take_rest page c.args.at ∙ ap (drop c.args.at) c.page-page.ensures.items in
    parted_joined (pages_in c.args.spread.now) (pages_in c.splice.new.self) (pages_in c.add.new.self) c.args.i c.args.at (length page - c.args.at)
    c.deref.result.now there (omega (arith, len, c.requires.place.within)) back
    (c.splice.ensures.pages
    ∙ ap (λ none. set (pages_in c.args.spread.now) c.args.i (spliced c.args.at (length page - c.args.at) none (page_of (pages_in c.args.spread.now) c.args.i))) c.no_items.ensures)
    c.add.ensures.pages

pub returns-clause-tidy : goal.returns-clause-tidy
returns-clause-tidy g c =
    let there : c.args.i < length (pages_in c.args.spread.now) = place_inside _ _ _ c.requires.place c.if-at-eq0.false in
    tidy-parted (pages_in c.args.spread.now) (pages_in c.splice.new.self) (pages_in c.add.new.self) c.args.i _ c.deref.result.now there c.requires.enough
    c.splice.ensures.pages c.add.ensures.pages

pub page-page-requires : goal.page-page-requires
page-page-requires g c = grind (arith, common_steps)

pub returns-then-at-len-clause-there : goal.returns-then-at-len-clause-there
returns-then-at-len-clause-there g c = grind (arith, common_steps)

pub returns-then-at-len-clause-place : goal.returns-then-at-len-clause-place
returns-then-at-len-clause-place g c = grind (arith, common_steps)

pub returns-then-at-len-clause-tidy : goal.returns-then-at-len-clause-tidy
returns-then-at-len-clause-tidy g c = grind (arith, common_steps)

pub splice-requires-clause-page : goal.splice-requires-clause-page
splice-requires-clause-page g c = grind (arith, common_steps)

pub add-requires-clause-place : goal.add-requires-clause-place
add-requires-clause-place g c = grind (arith, common_steps)

pub returns-clause-there : goal.returns-clause-there
returns-clause-there g c = grind (arith, common_steps)

pub returns-clause-place : goal.returns-clause-place
returns-clause-place g c = grind (arith, common_steps)

pub returns-clause-count : goal.returns-clause-count
returns-clause-count g c = grind (arith, common_steps)

pub add-requires-clause-some : goal.add-requires-clause-some
add-requires-clause-some g c = grind (arith, common_steps)

pub offset_bounds-page-at : goal.offset_bounds-page-at
offset_bounds-page-at g c = grind (arith, moves)

pub slice_bounds-append-count : goal.slice_bounds-append-count
slice_bounds-append-count g c = grind (arith, elements)

pub slice_bounds-append-start : goal.slice_bounds-append-start
slice_bounds-append-start g c = grind (arith, moves)

pub overflow_sub-len : goal.overflow_sub-len
overflow_sub-len g c = grind (arith, moves)

pub splice-requires-clause-there : goal.splice-requires-clause-there
splice-requires-clause-there g c = grind (arith, moves)

pub splice-requires-clause-fits : goal.splice-requires-clause-fits
splice-requires-clause-fits g c = grind (arith, moves)

pub add-requires-clause-few : goal.add-requires-clause-few
add-requires-clause-few g c = grind (arith, elements)
