use Rattle.std.proofs.Common.{◌≡◌, ◌+◌, ◌≤◌, ◌∙◌, length, cond, [], List, sym, ap, subst, arith}
use Rattle.std.specs.declared.cmp.Ordering.{Ordering}
use Rattle.page_dir.specs.Sorted.{Rises, rank}
use Rattle.page_dir.specs.Splices.{spliced}
use Rattle.piece_book.specs.declared.free.key.FreeKey.{FreeKey}
use Rattle.piece_book.specs.Free.{key_cmp, passing}
use Rattle.piece_book.proofs.FreePairs.{rises_without}
use Rattle.piece_book.proofs.FreeChange.{key_order, stands, passing_without}
use Rattle.piece_book.proofs.FreeOrder.{derived_order}
use Rattle.piece_book.proofs.free.keys.remove.Goals as goal

abbrev without_key : (FreeKey → FreeKey → Ordering) → FreeKey → List (FreeKey × Unit {0}) → List (FreeKey × Unit {0})
without_key cmp key ps = spliced (rank cmp key ps) 1 [] ps

pub replace_run-requires-clause-there : goal.replace_run-requires-clause-there
replace_run-requires-clause-there c =
    let here = (stands c.args.key.now c.args.keys.now.pairs c.requires.rises c.requires.there).within in
    subst (λ (R : FreeKey → FreeKey → Ordering). rank R c.args.key.now c.args.keys.now.pairs + 1 ≤ length c.args.keys.now.pairs) (sym derived_order) (omega arith)

pub replace_run-requires-clause-rises : goal.replace_run-requires-clause-rises
replace_run-requires-clause-rises c =
    subst (λ (R : FreeKey → FreeKey → Ordering). Rises R (without_key R c.args.key.now c.args.keys.now.pairs)) (sym derived_order)
    (rises_without key_order (rank key_cmp c.args.key.now c.args.keys.now.pairs) 1 c.args.keys.now.pairs c.requires.rises)

pub returns-clause-rises : goal.returns-clause-rises
returns-clause-rises c =
    subst (Rises key_cmp) (sym c.replace_run.ensures.pairs)
    (subst (λ (R : FreeKey → FreeKey → Ordering). Rises key_cmp (without_key R c.args.key.now c.args.keys.now.pairs)) (sym derived_order)
    (rises_without key_order (rank key_cmp c.args.key.now c.args.keys.now.pairs) 1 c.args.keys.now.pairs c.requires.rises))

pub returns-clause-counts : goal.returns-clause-counts
returns-clause-counts c = λ passes.
    ap (λ ps. passing passes ps + cond (passes c.args.key.now) 1 0) c.replace_run.ensures.pairs
    ∙ subst (λ (R : FreeKey → FreeKey → Ordering). ◌≡◌ (passing passes (without_key R c.args.key.now c.args.keys.now.pairs) + cond (passes c.args.key.now) 1 0) (passing passes c.args.keys.now.pairs))
    (sym derived_order)
    (passing_without c.args.key.now c.args.keys.now.pairs c.requires.rises c.requires.there passes)
