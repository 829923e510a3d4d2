use Rattle.std.proofs.Common.{◌≡◌, ◌∙◌, ◌++◌, ◌-◌, ◌<◌, ap, arith, length, sym}
use Rattle.std.proofs.lemmas.Grind.{common_steps}
use Rattle.std.specs.List.{remove}
use Rattle.page_dir.specs.Pages.{joined, page_of}
use Rattle.page_dir.specs.Splices.{spliced}
use Rattle.page_dir.specs.Spread.{pages_in}
use Rattle.page_dir.proofs.Enough.{tidy-merged, tidy-removed, tidy_next}
use Rattle.page_dir.proofs.Joining.{joined-merged, joined-remove_empty}
use Rattle.page_dir.proofs.Splicing.{spliced_end}
use Rattle.page_dir.proofs.tidying.settle.Goals as goal

pub returns-then-here-eq0-clause-joined : goal.returns-then-here-eq0-clause-joined
returns-then-here-eq0-clause-joined g c =
    ap joined c.remove.ensures.pages
    ∙ joined-remove_empty (pages_in c.args.spread.now) c.args.i c.requires.there (sym (ap length c.page-here.ensures.items) ∙ c.if-here-eq0.true)

pub returns-then-here-eq0-clause-tidy : goal.returns-then-here-eq0-clause-tidy
returns-then-here-eq0-clause-tidy g c = λ until high t.
    rw c.remove.ensures.pages (tidy-removed (pages_in c.args.spread.now) c.args.i until c.args.i (omega arith) high c.requires.there t)

pub returns-clause-joined : goal.returns-clause-joined
returns-clause-joined g c =
    let ps = pages_in c.args.spread.now in
    let both = spliced (length c.page-before.result.now) 0 c.deref.result.now (page_of ps (c.args.i - 1)) in
    let more : 0 < c.args.i = omega arith in
    let is : both ≡ page_of ps (c.args.i - 1) ++ page_of ps c.args.i =
    spliced_end c.deref.result.now (page_of ps (c.args.i - 1)) (length c.page-before.result.now) (ap length c.page-before.ensures.items)
    ∙ ap (λ xs. page_of ps (c.args.i - 1) ++ xs)
    (c.deref.ensures.value ∙ c.append.ensures.items ∙ ap (λ xs. xs ++ c.page.result.now) c.clear.ensures.items ∙ c.page.ensures.items) in
    ap joined c.remove-2.ensures.pages ∙ ap (λ qs. joined (remove qs c.args.i)) c.splice.ensures.pages ∙ joined-merged ps c.args.i both more c.requires.there is

pub returns-clause-tidy : goal.returns-clause-tidy
returns-clause-tidy g c = λ until high t.
    let ps = pages_in c.args.spread.now in
    let both = spliced (length c.page-before.result.now) 0 c.deref.result.now (page_of ps (c.args.i - 1)) in
    let more : 0 < c.args.i = omega arith in
    let is : both ≡ page_of ps (c.args.i - 1) ++ page_of ps c.args.i =
    spliced_end c.deref.result.now (page_of ps (c.args.i - 1)) (length c.page-before.result.now) (ap length c.page-before.ensures.items)
    ∙ ap (λ xs. page_of ps (c.args.i - 1) ++ xs)
    (c.deref.ensures.value ∙ c.append.ensures.items ∙ ap (λ xs. xs ++ c.page.result.now) c.clear.ensures.items ∙ c.page.ensures.items) in
    rw (c.remove-2.ensures.pages, c.splice.ensures.pages) (tidy-merged ps c.args.i until both more c.requires.there high is t)

pub returns-then-before-here-gt64-clause-tidy : goal.returns-then-before-here-gt64-clause-tidy
returns-then-before-here-gt64-clause-tidy g c = λ until high t.
    let here = ap length c.page-here.ensures.items in
    let before = ap length c.page-before.ensures.items in
    tidy_next t (record { filled = omega (arith, here); both = λ more. omega (arith, here, before) })

pub returns-then-here-eq0-clause-count : goal.returns-then-here-eq0-clause-count
returns-then-here-eq0-clause-count g c = grind (arith, common_steps)

pub returns-then-here-eq0-clause-fewer : goal.returns-then-here-eq0-clause-fewer
returns-then-here-eq0-clause-fewer g c = grind (arith, common_steps)

pub returns-then-i-eq0-clause-tidy : goal.returns-then-i-eq0-clause-tidy
returns-then-i-eq0-clause-tidy g c = grind (arith, common_steps)

pub returns-clause-count : goal.returns-clause-count
returns-clause-count g c = grind (arith, common_steps)

pub returns-clause-fewer : goal.returns-clause-fewer
returns-clause-fewer g c = grind (arith, common_steps)

pub splice-requires-clause-there : goal.splice-requires-clause-there
splice-requires-clause-there g c = let before = ap length c.page-before.ensures.items in omega (arith, before)

pub splice-requires-clause-fits : goal.splice-requires-clause-fits
splice-requires-clause-fits g c =
    let here = ap length c.page-here.ensures.items in
    let before = ap length c.page-before.ensures.items in
    let carried = ap length (c.deref.ensures.value ∙ c.append.ensures.items ∙ ap (λ xs. xs ++ c.page.result.now) c.clear.ensures.items ∙ c.page.ensures.items) in
    omega (arith, here, before, carried)

pub remove-requires-2 : goal.remove-requires-2
remove-requires-2 g c = grind (arith, common_steps)
