use Rattle.std.proofs.Common.{◌≡◌, ◌<◌, ◌∙◌, length, arith, ap, get_or, refl, sym, set, subst, Option, Some, IfSome, List}
use Rattle.std.proofs.lemmas.Grind.{common_steps}
use Rattle.std.specs.Option.{IsSome}
use Rattle.slot_pool.specs.Cells.{held, spare}
use Rattle.page_dir.specs.Pages.{or_empty, page_of, pages_at}
use Rattle.page_dir.specs.Splices.{spliced}
use Rattle.page_dir.specs.Spread.{BeginWith, BeginsWith, pages_in}
use Rattle.page_dir.proofs.Firsts.{begin_set, begins_spliced, begins_there, keys_of_pages}
use Rattle.page_dir.proofs.Splicing.{length-spliced}
use Rattle.page_dir.proofs.Spreads.{length-pages_at, page_at, pages_written, slot_lives, spare_written, spread_written, written_there}
use Rattle.page_dir.proofs.spread.Spread.splice.Goals as goal

pub page-requires : goal.page-requires
page-requires g c =
    let pool = c.self.inside.pool in
    let order = c.self.inside.order.items in
    let slot = c.index.result.now in
    let seen : pages_at pool order ≡ pages_in c.args.self.now = ap pages_in c.self.view_is in
    let len = length-pages_at pool order in
    let i : c.args.i < length order = omega (arith, c.requires.page, ap length seen, len) in
    let lives = slot_lives pool order c.self.inside.firsts.items _ _ c.args.i slot c.self.invariant i in
    let live = ap (held pool) c.index.ensures ∙ lives.1 in
    let new = spliced c.args.at c.args.n c.args.new.now (or_empty (held pool slot)) in
    subst (λ (o : Option (List (g.row.K.Denot × g.row.V.Denot))). IsSome o)
    (sym (ap (λ p. held p slot) c.splice.ensures ∙ written_there pool slot lives.0 new live)) refl

pub index-requires-2 : goal.index-requires-2
index-requires-2 g c =
    let seen : pages_at c.self.inside.pool c.self.inside.order.items ≡ pages_in c.args.self.now = ap pages_in c.self.view_is in
    let keys = keys_of_pages c.self.inside.firsts.items (pages_at c.self.inside.pool c.self.inside.order.items) c.self.invariant.begin in
    omega (arith, c.requires.page, ap length seen, keys)

pub first_key-requires : goal.first_key-requires
first_key-requires g c =
    let pool = c.self.inside.pool in
    let order = c.self.inside.order.items in
    let firsts = c.self.inside.firsts.items in
    let slot = c.index.result.now in
    let key = c.index-2.result.now in
    let seen : pages_at pool order ≡ pages_in c.args.self.now = ap pages_in c.self.view_is in
    let len = length-pages_at pool order in
    let keys = keys_of_pages firsts (pages_at pool order) c.self.invariant.begin in
    let i : c.args.i < length order = omega (arith, c.requires.page, ap length seen, len) in
    let lives = slot_lives pool order firsts _ _ c.args.i slot c.self.invariant i in
    let live = ap (held pool) c.index.ensures ∙ lives.1 in
    let page = page_at pool order c.args.i slot lives.0 i c.index.ensures live in
    let old : length (page_of (pages_in c.args.self.now) c.args.i) ≡ length (or_empty (held pool slot)) =
    ap (λ pages. length (page_of pages c.args.i)) (sym seen) ∙ ap length page ∙ ap (λ o. length (or_empty o)) (sym live) in
    let new = spliced c.args.at c.args.n c.args.new.now (or_empty (held pool slot)) in
    let there = ap (λ p. held p slot) c.splice.ensures ∙ written_there pool slot lives.0 new live in
    let before : BeginsWith key.0 (or_empty (held pool slot)) =
    subst (λ (k : g.row.K.Denot × Unit {0}). BeginsWith k.0 (or_empty (held pool slot))) (sym c.index-2.ensures)
    (subst (BeginsWith (get_or firsts c.args.i key).0) (page ∙ sym (ap or_empty live))
    (begins_there firsts (pages_at pool order) c.args.i key c.self.invariant.begin (omega (arith, i, keys, len)))) in
    record {
      before = λ more. subst (λ (o : Option (List (g.row.K.Denot × g.row.V.Denot))). IfSome o (BeginsWith key.0)) (sym there ∙ c.page.ensures.items)
          (begins_spliced key.0 (or_empty (held pool slot)) c.args.at c.args.n c.args.new.now more (omega (arith, old, c.requires.there)) before);
    }

pub index_mut-requires : goal.index_mut-requires
index_mut-requires g c =
    let seen : pages_at c.self.inside.pool c.self.inside.order.items ≡ pages_in c.args.self.now = ap pages_in c.self.view_is in
    let keys = keys_of_pages c.self.inside.firsts.items (pages_at c.self.inside.pool c.self.inside.order.items) c.self.invariant.begin in
    omega (arith, c.requires.page, ap length seen, keys)

pub invariant_of-self : goal.invariant_of-self
invariant_of-self g c =
    let pool = c.self.inside.pool in
    let order = c.self.inside.order.items in
    let firsts = c.self.inside.firsts.items in
    let slot = c.index.result.now in
    let seen : pages_at pool order ≡ pages_in c.args.self.now = ap pages_in c.self.view_is in
    let len = length-pages_at pool order in
    let i : c.args.i < length order = omega (arith, c.requires.page, ap length seen, len) in
    let lives = slot_lives pool order firsts _ _ c.args.i slot c.self.invariant i in
    let live = ap (held pool) c.index.ensures ∙ lives.1 in
    let page = page_at pool order c.args.i slot lives.0 i c.index.ensures live in
    let old : length (page_of (pages_in c.args.self.now) c.args.i) ≡ length (or_empty (held pool slot)) =
    ap (λ pages. length (page_of pages c.args.i)) (sym seen) ∙ ap length page ∙ ap (λ o. length (or_empty o)) (sym live) in
    let new = spliced c.args.at c.args.n c.args.new.now (or_empty (held pool slot)) in
    let size = length-spliced c.args.at c.args.n c.args.new.now (or_empty (held pool slot)) (omega (arith, old, c.requires.there)) in
    let there = ap (λ p. held p slot) c.splice.ensures ∙ written_there pool slot lives.0 new live in
    let begins : BeginsWith c.first_key.result new =
    subst (λ (o : Option (List (g.row.K.Denot × g.row.V.Denot))). IfSome o (BeginsWith c.first_key.result))
    (sym c.page.ensures.items ∙ there) c.first_key.ensures in
    let begin : BeginWith (set firsts c.args.i (c.first_key.result, tt)) (pages_at (set pool slot (Some new)) order) =
    subst (BeginWith (set firsts c.args.i (c.first_key.result, tt)))
    (sym (pages_written pool slot lives.0 new live c.args.i slot c.self.invariant i (sym c.index.ensures)))
    (begin_set firsts (pages_at pool order) c.args.i (c.first_key.result, tt) new c.self.invariant.begin begins) in
    rw c.splice.ensures (
    spread_written pool slot lives.0 new live (set firsts c.args.i (c.first_key.result, tt)) c.self.invariant begin
    (omega (arith, old, size, c.requires.fits)) (omega arith))

pub returns-clause-pages : goal.returns-clause-pages
returns-clause-pages g c =
    let pool = c.self.inside.pool in
    let order = c.self.inside.order.items in
    let slot = c.index.result.now in
    let seen : pages_at pool order ≡ pages_in c.args.self.now = ap pages_in c.self.view_is in
    let len = length-pages_at pool order in
    let i : c.args.i < length order = omega (arith, c.requires.page, ap length seen, len) in
    let lives = slot_lives pool order c.self.inside.firsts.items _ _ c.args.i slot c.self.invariant i in
    let live = ap (held pool) c.index.ensures ∙ lives.1 in
    let page = page_at pool order c.args.i slot lives.0 i c.index.ensures live in
    let new = spliced c.args.at c.args.n c.args.new.now in
    ap (λ p. pages_at p order) c.splice.ensures
    ∙ pages_written pool slot lives.0 (new (or_empty (held pool slot))) live c.args.i slot c.self.invariant i (sym c.index.ensures)
    ∙ ap (λ p. set (pages_at pool order) c.args.i (new p)) (ap or_empty live ∙ sym page)
    ∙ ap (λ pages. set pages c.args.i (new (page_of pages c.args.i))) seen

pub returns-clause-spare : goal.returns-clause-spare
returns-clause-spare g c =
    let pool = c.self.inside.pool in
    let order = c.self.inside.order.items in
    let slot = c.index.result.now in
    let seen : pages_at pool order ≡ pages_in c.args.self.now = ap pages_in c.self.view_is in
    let len = length-pages_at pool order in
    let i : c.args.i < length order = omega (arith, c.requires.page, ap length seen, len) in
    let lives = slot_lives pool order c.self.inside.firsts.items _ _ c.args.i slot c.self.invariant i in
    let live = ap (held pool) c.index.ensures ∙ lives.1 in
    ap spare c.splice.ensures
    ∙ spare_written pool slot lives.0 (spliced c.args.at c.args.n c.args.new.now (or_empty (held pool slot))) live
    ∙ ap (λ s. s.spare) c.self.view_is

pub splice-requires-clause-there : goal.splice-requires-clause-there
splice-requires-clause-there g c =
    let pool = c.self.inside.pool in
    let order = c.self.inside.order.items in
    let slot = c.index.result.now in
    let seen : pages_at pool order ≡ pages_in c.args.self.now = ap pages_in c.self.view_is in
    let len = length-pages_at pool order in
    let i : c.args.i < length order = omega (arith, c.requires.page, ap length seen, len) in
    let lives = slot_lives pool order c.self.inside.firsts.items _ _ c.args.i slot c.self.invariant i in
    let live = ap (held pool) c.index.ensures ∙ lives.1 in
    let page = page_at pool order c.args.i slot lives.0 i c.index.ensures live in
    let old : length (page_of (pages_in c.args.self.now) c.args.i) ≡ length (or_empty (held pool slot)) =
    ap (λ pages. length (page_of pages c.args.i)) (sym seen) ∙ ap length page ∙ ap (λ o. length (or_empty o)) (sym live) in
    omega (arith, old, c.requires.there)

pub splice-requires-clause-fits : goal.splice-requires-clause-fits
splice-requires-clause-fits g c =
    let pool = c.self.inside.pool in
    let order = c.self.inside.order.items in
    let slot = c.index.result.now in
    let seen : pages_at pool order ≡ pages_in c.args.self.now = ap pages_in c.self.view_is in
    let len = length-pages_at pool order in
    let i : c.args.i < length order = omega (arith, c.requires.page, ap length seen, len) in
    let lives = slot_lives pool order c.self.inside.firsts.items _ _ c.args.i slot c.self.invariant i in
    let live = ap (held pool) c.index.ensures ∙ lives.1 in
    let page = page_at pool order c.args.i slot lives.0 i c.index.ensures live in
    let old : length (page_of (pages_in c.args.self.now) c.args.i) ≡ length (or_empty (held pool slot)) =
    ap (λ pages. length (page_of pages c.args.i)) (sym seen) ∙ ap length page ∙ ap (λ o. length (or_empty o)) (sym live) in
    omega (arith, old, c.requires.fits)

pub splice-requires-clause-live : goal.splice-requires-clause-live
splice-requires-clause-live g c = grind (arith, common_steps)

pub index-requires : goal.index-requires
index-requires g c =
    let seen : pages_at c.self.inside.pool c.self.inside.order.items ≡ pages_in c.args.self.now = ap pages_in c.self.view_is in
    omega (arith, c.requires.page, ap length seen, length-pages_at c.self.inside.pool c.self.inside.order.items)
