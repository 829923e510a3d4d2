use Rattle.std.proofs.Common.{refl, ◌≤◌, length, take, drop, ◌-◌, arith, ◌∙◌}
use Rattle.std.proofs.lemmas.Grind.{common_steps}
use Rattle.link_face.proofs.Pieces.{left-copied, taken-copied, drop-at_end}
use Rattle.link_face.proofs.mem_source.MemSourceSource.read.Goals as goal

pub returns-clause-left : goal.returns-clause-left
returns-clause-left c =
    let within : c.min-count.result ≤ length (take (length c.self.inside.bytes.now - c.self.inside.at) (drop c.self.inside.at c.self.inside.bytes.now)) =
    omega (arith, c.min.ensures, c.min-count.ensures) in
    let moved = left-copied c.min-count.result c.self.inside.at c.self.inside.bytes.now _ _ c.copy_from_slice.ensures.after within in (
      rw (← c.self.view_is) moved,
      λ none _. drop-at_end c.min-count.result c.self.inside.at (length c.args.buf.now) c.self.inside.piece c.self.inside.bytes.now
          c.self.invariant.0 (c.min-count.ensures ∙ rw c.min.ensures refl) c.requires c.self.invariant.1 none,
    )

pub returns-clause-taken : goal.returns-clause-taken
returns-clause-taken c =
    let within : c.min-count.result ≤ length (take (length c.self.inside.bytes.now - c.self.inside.at) (drop c.self.inside.at c.self.inside.bytes.now)) =
    omega (arith, c.min.ensures, c.min-count.ensures) in
    rw (← c.self.view_is) (taken-copied c.min-count.result c.self.inside.at c.self.inside.bytes.now _ _ c.copy_from_slice.ensures.after within)

pub returns-clause-budget : goal.returns-clause-budget
returns-clause-budget c = grind (arith, common_steps)

pub returns-clause-bounded : goal.returns-clause-bounded
returns-clause-bounded c = grind (arith, common_steps)

pub returns-clause-end : goal.returns-clause-end
returns-clause-end c = grind (arith, common_steps)

pub returns-clause-for_good : goal.returns-clause-for_good
returns-clause-for_good c = grind (arith, common_steps)
