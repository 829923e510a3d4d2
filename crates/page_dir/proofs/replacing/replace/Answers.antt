use Rattle.std.proofs.Common.{◌≡◌, ◌+◌, ◌-◌, ◌∙◌, length, arith, ap, sym, drop, take, subst, [], rules}
use Rattle.std.proofs.lemmas.Grind.{common_steps, moves, elements}
use Rattle.page_dir.specs.Pages.{joined, page_of}
use Rattle.page_dir.specs.Splices.{spliced}
use Rattle.page_dir.specs.Spread.{AreTidy, pages_in, start}
use Rattle.page_dir.proofs.Enough.{enough_grown, tidy-set}
use Rattle.page_dir.proofs.Joining.{joined-replaced, joined-spliced, joined-split}
use Rattle.page_dir.proofs.Splicing.{length-spliced}
use Rattle.std.proofs.lemmas.Bool.{eqb-true}
use Rattle.std.proofs.lemmas.List.{length-append, nil_from_length}
use Rattle.page_dir.proofs.replacing.replace.Goals as goal

pub returns-then-here-new-clause-joined : goal.returns-then-here-new-clause-joined
returns-then-here-new-clause-joined g c =
    let ps = pages_in c.args.spread.now in
    let here = ap length c.page-here.ensures.items in
    c.tidy.ensures.joined ∙ ap joined c.splice.ensures.pages
    ∙ joined-spliced ps c.args.i c.args.at c.args.n c.args.new.now (omega arith) (omega (arith, here))

pub returns-then-n-new-clause-joined : goal.returns-then-n-new-clause-joined
returns-then-n-new-clause-joined g c =
    let ps = pages_in c.args.spread.now in
    let here = ap length c.page-here.ensures.items in
    ap joined c.splice.ensures.pages ∙ joined-spliced ps c.args.i c.args.at c.args.n c.args.new.now (omega arith) (omega (arith, here))

pub returns-then-n-new-clause-enough : goal.returns-then-n-new-clause-enough
returns-then-n-new-clause-enough g c =
    let ps = pages_in c.args.spread.now in
    let page = page_of ps c.args.i in
    let here = ap length c.page-here.ensures.items in
    let len = length-spliced c.args.at c.args.n c.args.new.now page (omega (arith, here)) in
    enough_grown ps (pages_in c.splice.new.self) c.args.i (spliced c.args.at c.args.n c.args.new.now page) c.splice.ensures.pages (omega arith)
    (omega (arith, len)) c.requires.enough

pub cut-requires-clause-enough : goal.cut-requires-clause-enough
cut-requires-clause-enough g c =
    let ps = pages_in c.part-i.new.spread in
    let r = c.part-i.result in
    let whole = ap length (joined-split ps r ∙ c.part-i.ensures.joined) in
    let sum = length-append (joined (take r ps)) (joined (drop r ps)) in
    omega (arith, whole, sum, c.part-i.ensures.place, c.requires.there)

pub tidy-requires-clause-tidy : goal.tidy-requires-clause-tidy
tidy-requires-clause-tidy g c =
    let ps = pages_in c.args.spread.now in
    rw c.splice.ensures.pages (tidy-set ps c.args.i (c.args.i + 2) c.args.i (spliced c.args.at c.args.n c.args.new.now (page_of ps c.args.i)) (omega arith) (omega arith)
    (record { below = λ k h. c.requires.enough k (omega arith); above = λ k h within. c.requires.enough k within }))

pub tidy-requires-2-clause-tidy : goal.tidy-requires-2-clause-tidy
tidy-requires-2-clause-tidy g c =
    let r = c.part-i.result in
    let from : r - 1 ≡ c.saturating_sub-2.result = omega arith in
    subst (λ k. AreTidy (pages_in c.put.new.spread) k (r + 3)) from c.put.ensures.tidy

pub returns-clause-joined : goal.returns-clause-joined
returns-clause-joined g c =
    let ps = pages_in c.part-i.new.spread in
    let r = c.part-i.result in
    c.tidy-2.ensures.joined ∙ c.put.ensures.joined
    ∙ joined-replaced ps (pages_in c.cut.new.spread) r c.args.n c.args.new.now c.cut.ensures.front c.cut.ensures.rest
    ∙ ap (λ k. spliced k c.args.n c.args.new.now (joined ps)) c.part-i.ensures.place
    ∙ ap (spliced (start (pages_in c.args.spread.now) c.args.i + c.args.at) c.args.n c.args.new.now) c.part-i.ensures.joined

pub returns-then-is_empty-clause-joined : goal.returns-then-is_empty-clause-joined
returns-then-is_empty-clause-joined g c =
    let ps = pages_in c.part-i.new.spread in
    let qs = pages_in c.cut.new.spread in
    let r = c.part-i.result in
    let at = start (pages_in c.args.spread.now) c.args.i + c.args.at in
    c.tidy-then-is_empty.ensures.joined ∙ sym (joined-split qs r)
    ∙ joined-replaced ps qs r c.args.n [] c.cut.ensures.front c.cut.ensures.rest
    ∙ ap (λ k. spliced k c.args.n [] (joined ps)) c.part-i.ensures.place
    ∙ ap (spliced at c.args.n []) c.part-i.ensures.joined
    ∙ ap (λ new. spliced at c.args.n new (joined (pages_in c.args.spread.now))) (sym (nil_from_length c.args.new.now (eqb-true (length c.args.new.now) 0 (sym c.if-is_empty.ensures))))

pub splice-requires-clause-fits : goal.splice-requires-clause-fits
splice-requires-clause-fits g c = search rules

pub splice-requires-clause-there : goal.splice-requires-clause-there
splice-requires-clause-there g c = grind (arith, common_steps)

pub returns-then-here-new-clause-count : goal.returns-then-here-new-clause-count
returns-then-here-new-clause-count g c = grind (arith, common_steps)

pub returns-then-is_empty-clause-enough : goal.returns-then-is_empty-clause-enough
returns-then-is_empty-clause-enough g c = grind (arith, common_steps)

pub put-requires-clause-some : goal.put-requires-clause-some
put-requires-clause-some g c = grind (arith, common_steps)

pub put-requires-clause-tidy : goal.put-requires-clause-tidy
put-requires-clause-tidy g c = grind (arith, common_steps)

pub returns-clause-enough : goal.returns-clause-enough
returns-clause-enough g c = grind (arith, common_steps)

pub returns-then-n-new-clause-count : goal.returns-then-n-new-clause-count
returns-then-n-new-clause-count g c = grind (arith, moves)

pub returns-then-here-new-clause-enough : goal.returns-then-here-new-clause-enough
returns-then-here-new-clause-enough g c = grind (arith, moves)

pub part-i-requires-clause-enough : goal.part-i-requires-clause-enough
part-i-requires-clause-enough g c = grind (arith, moves)

pub cut-requires-clause-tidy : goal.cut-requires-clause-tidy
cut-requires-clause-tidy g c = grind (arith, elements)

pub tidy-requires-then-is_empty-clause-tidy : goal.tidy-requires-then-is_empty-clause-tidy
tidy-requires-then-is_empty-clause-tidy g c = grind (arith, moves)
