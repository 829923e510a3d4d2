use Rattle.std.proofs.Common.{sym, subst}
use Rattle.reg_entry.specs.Register.{Register, register_after}
use Rattle.board.specs.Conserved.{IsConservedBy}
use Rattle.registry_main.specs.Session.{rooms, entries_after}
use Rattle.registry_main.proofs.laws.scripts_conserve.Goals as goal

pub returns : goal.returns
returns c es p day lines policy legal =
    let all = entries_after es p day lines in
    let r : Register = register_after rooms all in
    let of = c.legal_entries_go_on.ensures.of rooms all (c.accepted_entries_are_legal.ensures.legal es p day lines policy legal) in
    let conserve = c.reached_registers_conserve.ensures in
    let count = c.reached_registers_count.ensures in
    subst (λ (x : Register). IsConservedBy x all) (sym (c.accepted_entries_are_legal.ensures.register es p day lines))
    (record {
      register = of;
      cards = λ n. conserve.cards r all n of;
      once = λ n. conserve.once r all n of;
      pooled = λ n. conserve.pooled r all n of;
      sizes = λ space. conserve.sizes r all space of;
      entries = count.entries r all of;
      first_day = count.first_day r all of;
      last_day = count.last_day r all of;
    })
