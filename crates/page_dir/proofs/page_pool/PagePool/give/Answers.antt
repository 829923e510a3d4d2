use Rattle.std.proofs.Common.{◌∙◌, ◌+◌, ap, refl, set, sym, None}
use Rattle.slot_pool.proofs.Places.{live_within}
use Rattle.page_dir.specs.Regions.{page_in, placed}
use Rattle.page_dir.proofs.PagePools.{live_len, pages-set, pool_given, spare_pages, spare_seen}
use Rattle.page_dir.proofs.page_pool.PagePool.give.Goals as goal

pub give-requires : goal.give-requires
give-requires g c = live_len c.self.inside.cells.items c.self.inside.lens c.args.self.now c.self.view_is c.args.slot.now c.requires

pub invariant_of-self : goal.invariant_of-self
invariant_of-self g c =
    let live = live_len c.self.inside.cells.items c.self.inside.lens c.args.self.now c.self.view_is c.args.slot.now c.requires in
    rw c.give.ensures.given (pool_given c.self.invariant c.args.slot.now (live_within c.self.inside.lens c.args.slot.now live))

pub returns-clause-given : goal.returns-clause-given
returns-clause-given g c =
    ap (placed (page_in c.self.inside.cells.items)) c.give.ensures.given
    ∙ pages-set c.self.inside.cells.items c.self.inside.cells.items c.self.inside.lens c.args.slot.now (λ j head ne e. refl) None
    ∙ ap (λ pages. set pages c.args.slot.now None) c.self.view_is

pub returns-clause-count : goal.returns-clause-count
returns-clause-count g c =
    spare_pages c.self.inside.cells.items c.give.new.self ∙ c.give.ensures.count
    ∙ ap (λ n. n + 1) (sym (spare_seen c.self.inside.cells.items c.self.inside.lens c.args.self.now c.self.view_is))
