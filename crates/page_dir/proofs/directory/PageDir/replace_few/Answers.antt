use Rattle.std.proofs.Common.{◌≡◌, ◌+◌, ◌≤◌, ◌∙◌, length, arith, ap, sym, subst}
use Rattle.std.proofs.lemmas.Grind.{common_steps}
use Rattle.page_dir.specs.Directory.{PlainDir}
use Rattle.page_dir.specs.Pages.{joined}
use Rattle.page_dir.specs.Sorted.{Rises, rank}
use Rattle.page_dir.specs.Splices.{spliced}
use Rattle.page_dir.specs.Spread.{pages_in}
use Rattle.page_dir.proofs.Counting.{two_spare}
use Rattle.page_dir.proofs.Splicing.{length-spliced}
use Rattle.page_dir.proofs.directory.PageDir.replace_few.Goals as goal

pub replace-requires-clause-spare : goal.replace-requires-clause-spare
replace-requires-clause-spare g c =
    let kept = c.self.invariant in
    two_spare (pages_in c.self.inside.spread) c.self.inside.spread.spare c.self.inside.room kept.pages.enough kept.reserved (omega (arith, kept.count, kept.within))

pub invariant_of-self : goal.invariant_of-self
invariant_of-self g c =
    let kept = c.self.invariant in
    let D = PlainDir g.row.K.Denot g.row.V.Denot in
    let ps = joined (pages_in c.self.inside.spread) in
    let new = c.args.new.now in
    let at = rank g.K.Ord.cmp c.args.from.now ps in
    let is : joined (pages_in c.replace.new.spread) ≡ spliced at c.args.n new ps =
    c.replace.ensures.joined ∙ ap (λ k. spliced k c.args.n new ps) c.run_from-page.ensures.before in
    let there : at + c.args.n ≤ length ps =
    subst (λ (d : D). rank g.K.Ord.cmp c.args.from.now d.pairs + c.args.n ≤ length d.pairs) (sym c.self.view_is) c.requires.there in
    let rises : Rises g.K.Ord.cmp (spliced at c.args.n new ps) =
    subst (λ (d : D). Rises g.K.Ord.cmp (spliced (rank g.K.Ord.cmp c.args.from.now d.pairs) c.args.n new d.pairs)) (sym c.self.view_is) c.requires.rises in
    let room : length (spliced at c.args.n new ps) ≤ c.self.inside.room =
    subst (λ (d : D). length (spliced (rank g.K.Ord.cmp c.args.from.now d.pairs) c.args.n new d.pairs) ≤ d.room) (sym c.self.view_is) c.requires.room in
    let len = length-spliced at c.args.n new ps there in
    let same = ap length is in
    record {
      pages = record { enough = c.replace.ensures.enough; within = c.pages_are_small.ensures };
      rises = subst (Rises g.K.Ord.cmp) (sym is) rises;
      count = omega (arith, len, same, kept.count, there);
      within = omega (arith, len, room, kept.count, there);
      most = kept.most;
      reserved = omega (arith, c.replace.ensures.count, kept.reserved);
      carry = c.replace.ensures.carry;
    }

pub replace-requires-clause-there : goal.replace-requires-clause-there
replace-requires-clause-there g c = grind (arith, common_steps)

pub replace-requires-clause-enough : goal.replace-requires-clause-enough
replace-requires-clause-enough g c = grind (arith, common_steps)

pub overflow_sub-self : goal.overflow_sub-self
overflow_sub-self g c = grind (arith, common_steps)

pub returns-clause-room : goal.returns-clause-room
returns-clause-room g c = grind (arith, common_steps)
