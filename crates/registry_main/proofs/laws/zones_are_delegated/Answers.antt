use Rattle.std.proofs.Common.{sym, subst}
use Rattle.reg_entry.specs.Register.{register_after}
use Rattle.reverse_zone.specs.Delegated.{AreDelegated}
use Rattle.registry_main.specs.Session.{rooms, entries_after}
use Rattle.registry_main.proofs.laws.zones_are_delegated.Goals as goal

pub returns : goal.returns
returns c es p day lines policy legal =
    let all = entries_after es p day lines in
    let of = c.legal_entries_go_on.ensures.of rooms all (c.accepted_entries_are_legal.ensures.legal es p day lines policy legal) in
    subst AreDelegated (sym (c.accepted_entries_are_legal.ensures.register es p day lines))
    (c.zones_delegate.ensures (register_after rooms all) (all, of))
