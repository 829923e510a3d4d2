use Rattle.std.proofs.Common.{◌∙◌, ◌++◌, ◌+◌, ◌-◌, ◌≤◌, length, ap, sym, arith, refl, length-append}
use Rattle.std.proofs.lemmas.Grind.{common_steps}
use Rattle.page_dir.specs.Regions.{region}
use Rattle.page_dir.specs.Splices.{spliced}
use Rattle.page_dir.proofs.Regions.{behind, length-behind, region_elsewhere, region_written, shifted, spliced_more}
use Rattle.page_dir.proofs.page_pool.splice.Goals as goal

pub returns-then-n-new-clause-here : goal.returns-then-n-new-clause-here
returns-then-n-new-clause-here g c =
    let cells = c.args.cells.now.items in
    let new = c.args.new.now in
    let start = c.args.start in
    let n = c.args.n in
    let k = c.args.len - n + length new in
    let fits : start + c.args.len ≤ length cells = omega (arith, c.requires.cells, c.requires.within) in
    let back = behind cells new start c.args.len c.args.at n c.requires.there fits in
    let size = length-behind cells new start c.args.len c.args.at n c.requires.there fits in
    let both = length-append new back in
    ap (λ cs. region cs start k) (
    c.write.ensures.items ∙ ap (λ m. spliced (start + c.args.at) m new cells) (sym c.if-n-new.true)
    ∙ spliced_more cells new start c.args.len c.args.at n c.requires.there fits)
    ∙ region_written cells new start c.args.len c.args.at n c.requires.there fits (new ++ back) (n + length back) k refl
    (omega (arith, both, c.if-n-new.true)) (omega (arith, size, c.if-n-new.true, c.requires.there))

pub returns-then-n-new-clause-elsewhere : goal.returns-then-n-new-clause-elsewhere
returns-then-n-new-clause-elsewhere g c = λ i k apart.
    ap (λ cs. region cs i k) c.write.ensures.items
    ∙ region_elsewhere c.args.cells.now.items c.args.new.now (c.args.start + c.args.at) (length c.args.new.now)
    (omega (arith, c.requires.cells, c.requires.within, c.requires.there, c.if-n-new.true)) refl c.args.start (omega arith)
    (omega (arith, c.requires.within, c.requires.there, c.if-n-new.true)) i k apart

pub returns-clause-here : goal.returns-clause-here
returns-clause-here g c =
    let cells = c.args.cells.now.items in
    let new = c.args.new.now in
    let start = c.args.start in
    let n = c.args.n in
    let k = c.args.len - n + length new in
    let fits : start + c.args.len ≤ length cells = omega (arith, c.requires.cells, c.requires.within) in
    let back = behind cells new start c.args.len c.args.at n c.requires.there fits in
    let size = length-behind cells new start c.args.len c.args.at n c.requires.there fits in
    let both = length-append new back in
    ap (λ cs. region cs start k) (
    c.write-2.ensures.items ∙ ap (spliced (start + c.args.at) (length new) new) c.copy_within.ensures.items
    ∙ shifted cells new start c.args.len c.args.at n c.requires.there fits c.requires.fits c.requires.cells)
    ∙ region_written cells new start c.args.len c.args.at n c.requires.there fits (new ++ back) (length new + length back) k refl
    (omega (arith, both)) (omega (arith, size, c.requires.there))

pub returns-clause-elsewhere : goal.returns-clause-elsewhere
returns-clause-elsewhere g c = λ i k apart.
    let cells = c.args.cells.now.items in
    let new = c.args.new.now in
    let start = c.args.start in
    let n = c.args.n in
    let fits : start + c.args.len ≤ length cells = omega (arith, c.requires.cells, c.requires.within) in
    let back = behind cells new start c.args.len c.args.at n c.requires.there fits in
    let size = length-behind cells new start c.args.len c.args.at n c.requires.there fits in
    let both = length-append new back in
    ap (λ cs. region cs i k) (
    c.write-2.ensures.items ∙ ap (spliced (start + c.args.at) (length new) new) c.copy_within.ensures.items
    ∙ shifted cells new start c.args.len c.args.at n c.requires.there fits c.requires.fits c.requires.cells)
    ∙ region_elsewhere cells (new ++ back) (start + c.args.at) (length new + length back)
    (omega (arith, size, c.requires.there, c.requires.cells, c.requires.fits, c.requires.within)) (omega (arith, both)) start (omega arith)
    (omega (arith, size, c.requires.there, c.requires.fits, c.requires.within)) i k apart

pub returns-clause-count : goal.returns-clause-count
returns-clause-count g c = grind (arith, common_steps)
