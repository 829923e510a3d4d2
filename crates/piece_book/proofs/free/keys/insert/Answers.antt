use Rattle.std.proofs.Common.{◌+◌, ◌≤◌, length, [], ◌∷◌, List, sym, subst}
use Rattle.std.specs.declared.cmp.Ordering.{Ordering}
use Rattle.page_dir.specs.Sorted.{Rises, rank}
use Rattle.page_dir.specs.Splices.{spliced}
use Rattle.piece_book.specs.declared.free.key.FreeKey.{FreeKey}
use Rattle.piece_book.specs.Free.{key_cmp}
use Rattle.piece_book.proofs.FreeChange.{place_within, rises_with}
use Rattle.piece_book.proofs.FreeOrder.{derived_order}
use Rattle.piece_book.proofs.free.keys.insert.Goals as goal

abbrev with_key : (FreeKey → FreeKey → Ordering) → FreeKey → List (FreeKey × Unit {0}) → List (FreeKey × Unit {0})
with_key cmp key ps = spliced (rank cmp key ps) 0 ((key, tt) ∷ []) ps

pub replace_run-requires-clause-there : goal.replace_run-requires-clause-there
replace_run-requires-clause-there c =
    subst (λ (R : FreeKey → FreeKey → Ordering). rank R c.args.key.now c.args.keys.now.pairs + 0 ≤ length c.args.keys.now.pairs) (sym derived_order)
    (place_within c.args.key.now c.args.keys.now.pairs)

pub replace_run-requires-clause-rises : goal.replace_run-requires-clause-rises
replace_run-requires-clause-rises c =
    subst (λ (R : FreeKey → FreeKey → Ordering). Rises R (with_key R c.args.key.now c.args.keys.now.pairs)) (sym derived_order)
    (rises_with c.args.key.now c.args.keys.now.pairs c.requires.rises c.requires.new)

pub returns-clause-rises : goal.returns-clause-rises
returns-clause-rises c =
    subst (Rises key_cmp) (sym c.replace_run.ensures.pairs)
    (subst (λ (R : FreeKey → FreeKey → Ordering). Rises key_cmp (with_key R c.args.key.now c.args.keys.now.pairs)) (sym derived_order)
    (rises_with c.args.key.now c.args.keys.now.pairs c.requires.rises c.requires.new))
