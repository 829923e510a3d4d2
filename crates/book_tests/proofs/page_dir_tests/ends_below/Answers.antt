use Rattle.std.proofs.Common.{◌≡◌, ◌+◌, ◌∙◌, ◌∷◌, drop, length, ap, arith, sym, true}
use Rattle.std.proofs.lemmas.Bool.{OnTrue_from}
use Rattle.std.proofs.lemmas.List.Sums.{prefix_len-le-length}
use Rattle.std.specs.Ordering.{is_lt}
use Rattle.page_dir.specs.Sorted.{MeetsBelow, rank}
use Rattle.book_tests.proofs.Checking.{less_from, meets_next, walked}
use Rattle.book_tests.proofs.page_dir_tests.ends_below.Goals as goal

pub loop-init : goal.loop-init
loop-init g c =
    let r = rank g.K.Ord.cmp c.args.from.now c.args.dir.now.pairs in
    let none : r ≡ r + 0 = omega arith in
    let within = prefix_len-le-length (λ p. is_lt (g.K.Ord.cmp p.0 c.args.from.now)) c.args.dir.now.pairs in
    record { rest = c.walk_from-walk.ensures ∙ ap (λ k. drop k c.args.dir.now.pairs) none; there = omega (arith, within) }

pub loop-preserved : goal.loop-preserved
loop-preserved g c =
    let r = rank g.K.Ord.cmp c.args.from.now c.args.dir.now.pairs in
    let next = walked c.args.dir.now.pairs c.loop.walk c.next.new.self (r + c.loop.counter) c.in-Some.field-0 c.loop.invariant.rest c.in-Some.ensures.steps in
    let more : r + c.loop.counter + 1 ≡ r + (c.loop.counter + 1) = omega arith in
    record { rest = next.0 ∙ ap (λ k. drop k c.args.dir.now.pairs) more; there = omega (arith, next.1) }

pub returns-in-len1-up-clause-meets : goal.returns-in-len1-up-clause-meets
returns-in-len1-up-clause-meets g c =
    let ps = c.args.dir.now.pairs in
    let r = rank g.K.Ord.cmp c.args.from.now ps in
    let whole : c.args.n ≡ c.loop.counter = omega arith in
    OnTrue_from c.is_lt.result (MeetsBelow g.K.Ord.cmp c.args.new.now (drop (r + c.args.n) ps)) (λ less.
    meets_next g.K.Ord.cmp c.args.new.now (drop (r + c.args.n) ps) c.next-2.new.self _ c.index-new-new.result
    (ap (λ k. drop (r + k) ps) whole ∙ sym c.loop.invariant.rest ∙ c.in-Some-next.ensures.steps)
    (sym c.cmp.ensures ∙ less_from c.cmp.result (sym c.is_lt.ensures ∙ less)))
