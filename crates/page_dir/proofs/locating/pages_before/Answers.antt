use Rattle.std.proofs.Common.{subst, ◌*◌, ◌^◌, ◌-◌, ◌≤◌}
use Rattle.page_dir.specs.Searching.{power_bound, stands_before}
use Rattle.page_dir.specs.Spread.{pages_in}
use Rattle.page_dir.proofs.Firsts.{down_of_firsts, keys_of_pages, turn_of_pages}
use Rattle.page_dir.proofs.locating.pages_before.Goals as goal

pub returns-clause-turn : goal.returns-clause-turn
returns-clause-turn g c =
    turn_of_pages (stands_before g.K.Ord.cmp c.args.side c.args.key.now) c.firsts.result.now (pages_in c.args.spread.now) c.rows_before.result
    c.firsts.ensures c.requires.filled c.rows_before.ensures.turn

pub returns-clause-cost : goal.returns-clause-cost
returns-clause-cost g c =
    subst (λ n. 2 ^ (c.rows_before.new.steps - c.args.steps.now) ≤ 32 * power_bound n)
    (keys_of_pages c.firsts.result.now (pages_in c.args.spread.now) c.firsts.ensures) c.rows_before.ensures.cost

pub rows_before-requires : goal.rows_before-requires
rows_before-requires g c =
    down_of_firsts (stands_before g.K.Ord.cmp c.args.side c.args.key.now) c.firsts.result.now (pages_in c.args.spread.now) c.firsts.ensures c.requires.filled c.requires.down
