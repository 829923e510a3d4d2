use Rattle.std.proofs.Common.{◌≡◌, ◌<◌, ◌∙◌, length, arith, ap, sym, set, subst, None}
use Rattle.std.proofs.lemmas.Grind.{common_steps}
use Rattle.std.specs.List.{remove}
use Rattle.slot_pool.specs.Cells.{held}
use Rattle.page_dir.specs.Pages.{pages_at}
use Rattle.page_dir.specs.Spread.{BeginWith, pages_in}
use Rattle.page_dir.proofs.Firsts.{begin_removed, keys_of_pages}
use Rattle.page_dir.proofs.Spreads.{length-pages_at, pages_removed, slot_lives, spread_removed}
use Rattle.page_dir.proofs.spread.Spread.remove.Goals as goal

pub invariant_of-self : goal.invariant_of-self
invariant_of-self g c =
    let pool = c.self.inside.pool in
    let order = c.self.inside.order.items in
    let slot = c.remove-slot.result in
    let seen : pages_at pool order ≡ pages_in c.args.self.now = ap pages_in c.self.view_is in
    let len = length-pages_at pool order in
    let i : c.args.i < length order = omega (arith, c.requires, ap length seen, len) in
    let lives = slot_lives pool order c.self.inside.firsts.items _ _ c.args.i slot c.self.invariant i in
    let live = ap (held pool) c.remove-slot.ensures.value ∙ lives.1 in
    let firsts = c.self.inside.firsts.items in
    let begin : BeginWith (remove firsts c.args.i) (pages_at (set pool slot None) (remove order c.args.i)) =
    subst (BeginWith (remove firsts c.args.i)) (sym (pages_removed pool slot lives.0 live c.args.i slot c.self.invariant i (sym c.remove-slot.ensures.value)))
    (begin_removed firsts (pages_at pool order) c.args.i c.self.invariant.begin) in
    rw (c.give.ensures.given, c.remove-slot.ensures.items, c.remove.ensures.items) (
    spread_removed pool slot lives.0 live c.args.i slot (remove firsts c.args.i) c.self.invariant begin i (sym c.remove-slot.ensures.value)
    (omega (arith, c.remove-slot.ensures.capacity)) (omega (arith, c.remove.ensures.capacity)))

pub remove-requires : goal.remove-requires
remove-requires g c =
    let seen : pages_at c.self.inside.pool c.self.inside.order.items ≡ pages_in c.args.self.now = ap pages_in c.self.view_is in
    let keys = keys_of_pages c.self.inside.firsts.items (pages_at c.self.inside.pool c.self.inside.order.items) c.self.invariant.begin in
    omega (arith, c.requires, ap length seen, keys)

pub returns-clause-pages : goal.returns-clause-pages
returns-clause-pages g c =
    let pool = c.self.inside.pool in
    let order = c.self.inside.order.items in
    let slot = c.remove-slot.result in
    let seen : pages_at pool order ≡ pages_in c.args.self.now = ap pages_in c.self.view_is in
    let len = length-pages_at pool order in
    let i : c.args.i < length order = omega (arith, c.requires, ap length seen, len) in
    let lives = slot_lives pool order c.self.inside.firsts.items _ _ c.args.i slot c.self.invariant i in
    let live = ap (held pool) c.remove-slot.ensures.value ∙ lives.1 in
    ap (λ p. pages_at p c.remove-slot.new.self.items) c.give.ensures.given
    ∙ ap (pages_at (set pool slot None)) c.remove-slot.ensures.items
    ∙ pages_removed pool slot lives.0 live c.args.i slot c.self.invariant i (sym c.remove-slot.ensures.value)
    ∙ ap (λ pages. remove pages c.args.i) seen

pub remove-slot-requires : goal.remove-slot-requires
remove-slot-requires g c = grind (arith, common_steps)
