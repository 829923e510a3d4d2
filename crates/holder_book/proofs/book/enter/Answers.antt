use Rattle.std.proofs.Common.{sym, subst, arith}
use Rattle.std.specs.Ordering.{is_lt, nat_cmp}
use Rattle.std.proofs.lemmas.List.Sums.{prefix_len-le-length}
use Rattle.page_dir.specs.Sorted.{Rises}
use Rattle.holder_book.proofs.Indexing.{entered_rises}
use Rattle.holder_book.proofs.book.enter.Goals as goal

pub replace_run-requires-clause-there : goal.replace_run-requires-clause-there
replace_run-requires-clause-there c =
    let least = prefix_len-le-length (λ p. is_lt (nat_cmp p.0 c.args.key)) c.args.numbers.now.pairs in omega (arith, least)

pub replace_run-requires-clause-rises : goal.replace_run-requires-clause-rises
replace_run-requires-clause-rises c =
    entered_rises c.args.key c.args.number c.args.numbers.now.pairs c.splices_rise.ensures.ends c.splices_rise.ensures.from c.ranks_are_places.ensures.least c.requires.rises c.requires.absent

pub returns-clause-rises : goal.returns-clause-rises
returns-clause-rises c =
    subst (Rises nat_cmp) (sym c.replace_run.ensures.pairs)
    (entered_rises c.args.key c.args.number c.args.numbers.now.pairs c.splices_rise.ensures.ends c.splices_rise.ensures.from c.ranks_are_places.ensures.least c.requires.rises c.requires.absent)
