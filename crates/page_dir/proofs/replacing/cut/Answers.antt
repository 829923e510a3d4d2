use Rattle.std.proofs.Common.{◌≡◌, ◌+◌, ◌-◌, ◌∙◌, [], length, arith, ap, drop, take, length-set, set}
use Rattle.std.proofs.lemmas.Grind.{common_steps}
use Rattle.std.specs.List.{remove}
use Rattle.std.proofs.lemmas.List.{take-set-le}
use Rattle.std.proofs.lemmas.List.Edits.{length-remove}
use Rattle.page_dir.specs.Pages.{joined, page_of}
use Rattle.page_dir.specs.Splices.{spliced}
use Rattle.page_dir.specs.Spread.{pages_in}
use Rattle.page_dir.proofs.Enough.{tidy-removed, tidy-set}
use Rattle.page_dir.proofs.Joining.{cut_inside, cut_removed, cut_spliced, take-remove, length-joined-remove}
use Rattle.page_dir.proofs.replacing.cut.Goals as goal

pub loop-left-smaller-then-here-left : goal.loop-left-smaller-then-here-left
loop-left-smaller-then-here-left g c =
    let kept = c.loop-left.invariant in
    let ps = pages_in c.loop-left.spread in
    let there = cut_inside ps c.args.i c.loop-left.left (omega arith) kept.enough in
    let fewer = length-remove ps c.args.i there in
    let is : length (pages_in c.remove.new.self) ≡ length (remove ps c.args.i) = ap length c.remove.ensures.pages in
    omega (arith, fewer, is)

pub loop-left-preserved-then-here-left : goal.loop-left-preserved-then-here-left
loop-left-preserved-then-here-left g c =
    let kept = c.loop-left.invariant in
    let ps = pages_in c.loop-left.spread in
    let there = cut_inside ps c.args.i c.loop-left.left (omega arith) kept.enough in
    let fewer = length-remove ps c.args.i there in
    let is : length (pages_in c.remove.new.self) ≡ length (remove ps c.args.i) = ap length c.remove.ensures.pages in
    let here : length c.page-here.result.now ≡ length (page_of ps c.args.i) = ap length c.page-here.ensures.items in
    let less = length-joined-remove ps c.args.i (length c.page-here.result.now) there here in
    record {
      there = omega (arith, fewer, is);
      front = ap (take c.args.i) c.remove.ensures.pages ∙ take-remove ps c.args.i there ∙ kept.front;
      rest = ap (λ qs. drop (c.loop-left.left - length c.page-here.result.now) (joined (drop c.args.i qs))) c.remove.ensures.pages
          ∙ cut_removed ps c.args.i c.loop-left.left (length c.page-here.result.now) there here c.if-here-left.true ∙ kept.rest;
      enough = let joined_is = ap (λ qs. length (joined (drop c.args.i qs))) c.remove.ensures.pages in omega (arith, less, joined_is, kept.enough);
      count = omega (arith, kept.count, fewer, is, c.remove.ensures.spare);
      spare = omega (arith, kept.spare, c.remove.ensures.spare);
      tidy = rw c.remove.ensures.pages (tidy-removed ps (c.args.i - 1) (c.args.i + 2) c.args.i (omega arith) (omega arith) there kept.tidy);
    }

pub loop-left-preserved : goal.loop-left-preserved
loop-left-preserved g c =
    let kept = c.loop-left.invariant in
    let ps = pages_in c.loop-left.spread in
    let there = cut_inside ps c.args.i c.loop-left.left (omega arith) kept.enough in
    let page = spliced 0 c.loop-left.left [] (page_of ps c.args.i) in
    let written : pages_in c.splice.new.self ≡ set ps c.args.i page =
    c.splice.ensures.pages ∙ ap (λ none. set ps c.args.i (spliced 0 c.loop-left.left none (page_of ps c.args.i))) c.no_items.ensures in
    let is : length (pages_in c.splice.new.self) ≡ length ps = ap length written ∙ length-set ps c.args.i page in
    let here : length c.page-here.result.now ≡ length (page_of ps c.args.i) = ap length c.page-here.ensures.items in
    record {
      there = omega (arith, is);
      front = ap (take c.args.i) written ∙ take-set-le c.args.i ps c.args.i page (omega arith) ∙ kept.front;
      rest = ap (λ qs. joined (drop c.args.i qs)) written ∙ cut_spliced ps c.args.i c.loop-left.left there (omega (arith, here)) ∙ kept.rest;
      enough = omega arith;
      count = omega (arith, kept.count, is, c.splice.ensures.spare);
      spare = omega (arith, kept.spare, c.splice.ensures.spare);
      tidy = rw written (tidy-set ps (c.args.i - 1) (c.args.i + 2) c.args.i page (omega arith) (omega arith) kept.tidy);
    }

pub page-here-requires : goal.page-here-requires
page-here-requires g c = grind (arith, common_steps)

pub remove-requires : goal.remove-requires
remove-requires g c = grind (arith, common_steps)

pub splice-requires-clause-page : goal.splice-requires-clause-page
splice-requires-clause-page g c = grind (arith, common_steps)

pub splice-requires-clause-there : goal.splice-requires-clause-there
splice-requires-clause-there g c = grind (arith, common_steps)

pub splice-requires-clause-fits : goal.splice-requires-clause-fits
splice-requires-clause-fits g c = grind (arith, common_steps)
