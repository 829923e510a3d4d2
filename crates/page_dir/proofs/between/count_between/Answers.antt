use Rattle.std.proofs.Common.{arith}
use Rattle.std.proofs.lemmas.List.Sums.{prefix_len-le-length}
use Rattle.std.specs.Ordering.{is_lt}
use Rattle.page_dir.specs.Pages.{joined}
use Rattle.page_dir.specs.Spread.{pages_in}
use Rattle.page_dir.proofs.Starts.{later_page}
use Rattle.page_dir.proofs.between.count_between.Goals as goal

pub returns-then-last-first : goal.returns-then-last-first
returns-then-last-first g c =
    let later = later_page (pages_in c.args.spread.now) c.first_from-first.result.0 c.first_from-first.result.1 c.first_from-last.result.0 c.first_from-last.result.1 c.if-last-first.true
    c.first_from-first.ensures.place.there c.first_from-last.ensures.place in
    omega (arith, later, c.first_from-first.ensures.before, c.first_from-last.ensures.before)

pub overflow_add-items_between : goal.overflow_add-items_between
overflow_add-items_between g c =
    let within = prefix_len-le-length (λ p. is_lt (g.K.Ord.cmp p.0 c.args.until.now)) (joined (pages_in c.args.spread.now)) in
    omega (arith, within, c.first_from-last.ensures.before, c.items_between.ensures, c.requires.small)

pub overflow_cast-result : goal.overflow_cast-result
overflow_cast-result g c =
    let within = prefix_len-le-length (λ p. is_lt (g.K.Ord.cmp p.0 c.args.until.now)) (joined (pages_in c.args.spread.now)) in
    omega (arith, within, c.first_from-last.ensures.before, c.items_between.ensures, c.saturating_sub.ensures, c.requires.small)
