use Rattle.std.proofs.Common.{◌≡◌, ◌≤◌, ◌∙◌, Some, length, get_or, set, arith, ap, sym, subst}
use Rattle.std.proofs.lemmas.Grind.{common_steps, moves}
use Rattle.std.specs.List.{insert}
use Rattle.page_dir.specs.Pages.{pages_at}
use Rattle.page_dir.specs.Spread.{BeginWith, pages_in}
use Rattle.page_dir.proofs.Firsts.{begin_inserted, begins_at_first, keys_of_pages}
use Rattle.page_dir.proofs.Spreads.{length-pages_at, pages_added, spread_added}
use Rattle.page_dir.proofs.spread.Spread.add.Goals as goal

pub invariant_of-self : goal.invariant_of-self
invariant_of-self g c =
    let pool = c.self.inside.pool in
    let order = c.self.inside.order.items in
    let seen : pages_at pool order ≡ pages_in c.args.self.now = ap pages_in c.self.view_is in
    let len = length-pages_at pool order in
    let i : c.args.i ≤ length order = omega (arith, c.requires.place, ap length seen, len) in
    let firsts = c.self.inside.firsts.items in
    let slot = c.take-slot.result in
    let new = c.args.new.now in
    let key = (get_or new 0 c.index-new-0.result).0 in
    let begin : BeginWith (insert firsts c.args.i (key, tt)) (pages_at (set pool slot (Some new)) (insert order c.args.i slot)) =
    subst (BeginWith (insert firsts c.args.i (key, tt))) (sym (pages_added pool slot new c.take-slot.ensures.vacant c.args.i c.self.invariant))
    (begin_inserted firsts (pages_at pool order) c.args.i (key, tt) new c.self.invariant.begin (begins_at_first new c.index-new-0.result c.requires.some)) in
    rw (c.insert.ensures.items, c.insert-2.ensures.items, c.take-slot.ensures.taken) (
    spread_added pool slot new c.take-slot.ensures.vacant c.args.i (insert firsts c.args.i (key, tt)) c.self.invariant begin c.requires.few i
    (omega (arith, c.insert.ensures.room)) (omega (arith, c.insert-2.ensures.room)))

pub insert-requires-2-clause-place : goal.insert-requires-2-clause-place
insert-requires-2-clause-place g c =
    let seen : pages_at c.self.inside.pool c.self.inside.order.items ≡ pages_in c.args.self.now = ap pages_in c.self.view_is in
    let keys = keys_of_pages c.self.inside.firsts.items (pages_at c.self.inside.pool c.self.inside.order.items) c.self.invariant.begin in
    omega (arith, c.requires.place, ap length seen, keys)

pub insert-requires-2-clause-room : goal.insert-requires-2-clause-room
insert-requires-2-clause-room g c =
    let len = length-pages_at c.self.inside.pool c.self.inside.order.items in
    let spares = ap (λ s. s.spare) c.self.view_is in
    let keys = keys_of_pages c.self.inside.firsts.items (pages_at c.self.inside.pool c.self.inside.order.items) c.self.invariant.begin in
    omega (arith, c.requires.spare, c.self.invariant.firsts_room, len, keys, spares)

pub returns-clause-pages : goal.returns-clause-pages
returns-clause-pages g c =
    let pool = c.self.inside.pool in
    let order = c.self.inside.order.items in
    let slot = c.take-slot.result in
    let new = c.args.new.now in
    let seen : pages_at pool order ≡ pages_in c.args.self.now = ap pages_in c.self.view_is in
    ap (pages_at c.take-slot.new.self) c.insert.ensures.items
    ∙ ap (λ p. pages_at p (insert order c.args.i slot)) c.take-slot.ensures.taken
    ∙ pages_added pool slot new c.take-slot.ensures.vacant c.args.i c.self.invariant
    ∙ ap (λ pages. insert pages c.args.i new) seen

pub insert-requires-clause-place : goal.insert-requires-clause-place
insert-requires-clause-place g c = grind (arith, common_steps)

pub take-slot-requires-clause-spare : goal.take-slot-requires-clause-spare
take-slot-requires-clause-spare g c = grind (arith, moves)

pub returns-clause-spare : goal.returns-clause-spare
returns-clause-spare g c = grind (arith, moves)
