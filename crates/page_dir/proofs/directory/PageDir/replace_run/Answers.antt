use Rattle.std.proofs.Common.{◌≡◌, ◌+◌, ◌-◌, ◌∙◌, length, length-take-le, get_or, take, drop, arith, ap, sym, subst}
use Rattle.std.proofs.lemmas.Grind.{common_steps, elements}
use Rattle.page_dir.specs.Sorted.{Rises, rank}
use Rattle.page_dir.specs.Splices.{spliced}
use Rattle.page_dir.proofs.Rising.{next_part, next_rank, part_rises}
use Rattle.page_dir.proofs.Splicing.{length-spliced}
use Rattle.page_dir.proofs.directory.PageDir.replace_run.Goals as goal

pub replace_few-requires-clause-rises : goal.replace_few-requires-clause-rises
replace_few-requires-clause-rises g c =
    part_rises g.K.Ord.cmp c.args.self.now.pairs c.args.new.now (rank g.K.Ord.cmp c.args.from.now c.args.self.now.pairs) c.args.n c.requires.rises c.min-few.result

pub replace_few-requires-in-loop-done-clause-there : goal.replace_few-requires-in-loop-done-clause-there
replace_few-requires-in-loop-done-clause-there g c =
    let ps = c.args.self.now.pairs in
    let at = rank g.K.Ord.cmp c.args.from.now ps in
    let new = c.args.new.now in
    let done = c.loop-done.done in
    let q = get_or new done c.index-new-done.result in
    let is = c.loop-done.invariant.pairs in
    let place = ap (rank g.K.Ord.cmp q.0) is ∙ next_rank g.K.Ord.cmp ps new at c.args.n c.requires.rises g.met.K.Ord.total done c.index-new-done.result (omega arith) c.loop-done-test.true in
    let len = ap length is in
    let longer = length-spliced at c.args.n (take done new) ps c.requires.there in
    let some = length-take-le done new (omega arith) in
    omega (arith, place, len, longer, some, c.requires.there)

pub replace_few-requires-in-loop-done-clause-rises : goal.replace_few-requires-in-loop-done-clause-rises
replace_few-requires-in-loop-done-clause-rises g c =
    let ps = c.args.self.now.pairs in
    let at = rank g.K.Ord.cmp c.args.from.now ps in
    let new = c.args.new.now in
    let done = c.loop-done.done in
    let q = get_or new done c.index-new-done.result in
    let is = c.loop-done.invariant.pairs in
    let place = ap (rank g.K.Ord.cmp q.0) is ∙ next_rank g.K.Ord.cmp ps new at c.args.n c.requires.rises g.met.K.Ord.total done c.index-new-done.result (omega arith) c.loop-done-test.true in
    let more : done + c.min-more.result - done ≡ c.min-more.result = omega arith in
    let all = part_rises g.K.Ord.cmp ps new at c.args.n c.requires.rises (done + c.min-more.result) in
    subst (Rises g.K.Ord.cmp) (sym (
    ap (λ k. spliced k 0 (take (done + c.min-more.result - done) (drop done new)) c.loop-done.self.pairs) place
    ∙ ap (λ k. spliced (at + done) 0 (take k (drop done new)) c.loop-done.self.pairs) more
    ∙ ap (spliced (at + done) 0 (take c.min-more.result (drop done new))) is
    ∙ next_part ps new at c.args.n done c.min-more.result (omega arith) (omega arith))) all

pub loop-done-preserved : goal.loop-done-preserved
loop-done-preserved g c =
    let ps = c.args.self.now.pairs in
    let at = rank g.K.Ord.cmp c.args.from.now ps in
    let new = c.args.new.now in
    let done = c.loop-done.done in
    let q = get_or new done c.index-new-done.result in
    let is = c.loop-done.invariant.pairs in
    let place = ap (rank g.K.Ord.cmp q.0) is ∙ next_rank g.K.Ord.cmp ps new at c.args.n c.requires.rises g.met.K.Ord.total done c.index-new-done.result (omega arith) c.loop-done-test.true in
    let more : done + c.min-more.result - done ≡ c.min-more.result = omega arith in
    record {
      pairs = c.replace_few-in-loop-done.ensures.pairs
          ∙ ap (λ k. spliced k 0 (take (done + c.min-more.result - done) (drop done new)) c.loop-done.self.pairs) place
          ∙ ap (λ k. spliced (at + done) 0 (take k (drop done new)) c.loop-done.self.pairs) more
          ∙ ap (spliced (at + done) 0 (take c.min-more.result (drop done new))) is
          ∙ next_part ps new at c.args.n done c.min-more.result (omega arith) (omega arith);
      room = c.replace_few-in-loop-done.ensures.room ∙ c.loop-done.invariant.room;
      within = omega arith;
    }

pub replace_few-requires-clause-room : goal.replace_few-requires-clause-room
replace_few-requires-clause-room g c = grind (arith, common_steps)

pub returns-clause-pairs : goal.returns-clause-pairs
returns-clause-pairs g c = grind (arith, common_steps)

pub replace_few-requires-in-loop-done-clause-room :
    goal.replace_few-requires-in-loop-done-clause-room
replace_few-requires-in-loop-done-clause-room g c = grind (arith, elements)
