use Rattle.std.proofs.Common.{◌≡◌, ◌+◌, ◌<◌, ◌≤◌, ◌∷◌, rules, ◌∙◌, sym, ap, arith}
use Rattle.std.proofs.lemmas.Bool.Decides.{nat_tests}
use Rattle.reverse_zone.specs.declared.apex.Apex.TheVariants.{Six}
use Rattle.reverse_zone.specs.Zone.{apexes_from}
use Rattle.reverse_zone.proofs.EachApex.{octet_step, nibbles_step}
use Rattle.reverse_zone.proofs.apex_walk.ApexWalkIterator.next.Goals as goal

pub returns-then-self-lt256-clause-steps : goal.returns-then-self-lt256-clause-steps
returns-then-self-lt256-clause-steps c =
    let less : c.self.inside.octet < 256 = grind (arith, nat_tests) in
    sym c.self.view_is ∙ octet_step c.self.inside.octet c.self.inside.nibbles less

pub returns-then-self-lt256-clause-goes : goal.returns-then-self-lt256-clause-goes
returns-then-self-lt256-clause-goes c =
    let steps = returns-then-self-lt256-clause-steps c in
    search rules

pub returns-then-self-lt1024-clause-steps : goal.returns-then-self-lt1024-clause-steps
returns-then-self-lt1024-clause-steps c =
    let low : c.self.inside.octet ≤ 256 = c.self.invariant.0 in
    let all : c.self.inside.octet ≡ 256 = grind (arith, nat_tests) in
    let less : c.self.inside.nibbles < 0x400 = grind (arith, nat_tests) in
    sym c.self.view_is ∙ ap (λ octet. apexes_from octet c.self.inside.nibbles) all ∙ nibbles_step c.self.inside.nibbles less
    ∙ sym (ap (λ octet. Six c.self.inside.nibbles ∷ apexes_from octet (c.self.inside.nibbles + 1)) all)

pub returns-then-self-lt1024-clause-goes : goal.returns-then-self-lt1024-clause-goes
returns-then-self-lt1024-clause-goes c =
    let steps = returns-then-self-lt1024-clause-steps c in
    search rules
