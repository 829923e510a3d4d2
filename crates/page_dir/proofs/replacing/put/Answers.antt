use Rattle.std.proofs.Common.{◌≡◌, ◌+◌, ◌-◌, ◌∙◌, length, arith, ap, subst}
use Rattle.std.proofs.lemmas.Grind.{common_steps, moves, elements}
use Rattle.std.specs.List.{insert}
use Rattle.page_dir.specs.Pages.{joined, page_of}
use Rattle.page_dir.specs.Splices.{spliced}
use Rattle.page_dir.specs.Spread.{AreTidy, pages_in}
use Rattle.page_dir.proofs.Enough.{tidy-grown, tidy-inserted, tidy_wider}
use Rattle.page_dir.proofs.Joining.{joined-appended}
use Rattle.page_dir.proofs.Splicing.{length-spliced}
use Rattle.page_dir.proofs.replacing.put.Goals as goal

pub returns-then-before-new-le64-clause-joined : goal.returns-then-before-new-le64-clause-joined
returns-then-before-new-le64-clause-joined g c =
    let ps = pages_in c.args.spread.now in
    let before = ap length c.page-before.ensures.items in
    ap joined c.splice.ensures.pages
    ∙ joined-appended ps c.args.i (length c.page-before.result.now) c.args.new.now (omega arith) c.requires.there before

pub returns-then-before-new-le64-clause-tidy : goal.returns-then-before-new-le64-clause-tidy
returns-then-before-new-le64-clause-tidy g c =
    let ps = pages_in c.args.spread.now in
    let page = page_of ps (c.args.i - 1) in
    let at = length c.page-before.result.now in
    let before = ap length c.page-before.ensures.items in
    let size = length-spliced at 0 c.args.new.now page (omega (arith, before)) in
    rw c.splice.ensures.pages (tidy_wider (omega arith)
    (tidy-grown ps (c.args.i - 1) (c.args.i + 2) (c.args.i - 1) (spliced at 0 c.args.new.now page) (omega (arith, c.requires.there)) (omega (arith, size)) c.requires.tidy))

pub returns-clause-tidy : goal.returns-clause-tidy
returns-clause-tidy g c =
    let ps = pages_in c.args.spread.now in
    let i = c.args.i in
    let to : i + 2 + 1 ≡ i + 3 = omega arith in
    rw c.add.ensures.pages (subst (λ k. AreTidy (insert ps i c.args.new.now) (i - 1) k) to
    (tidy-inserted ps (i - 1) (i + 2) i c.args.new.now (omega arith) (omega arith) c.requires.there c.requires.tidy))

pub returns-clause-joined : goal.returns-clause-joined
returns-clause-joined g c = grind (arith, common_steps)

pub returns-clause-count : goal.returns-clause-count
returns-clause-count g c = grind (arith, common_steps)

pub splice-requires-clause-there : goal.splice-requires-clause-there
splice-requires-clause-there g c = grind (arith, moves)

pub splice-requires-clause-fits : goal.splice-requires-clause-fits
splice-requires-clause-fits g c = grind (arith, moves)

pub returns-then-before-new-le64-clause-count : goal.returns-then-before-new-le64-clause-count
returns-then-before-new-le64-clause-count g c = grind (arith, elements)
