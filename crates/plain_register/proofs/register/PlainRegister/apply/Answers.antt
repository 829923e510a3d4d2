use Rattle.std.proofs.Common.{◌≡◌, length, sym, ap, subst, arith}
use Rattle.reg_entry.specs.Next.{IsNextEntry}
use Rattle.plain_register.proofs.register.PlainRegister.apply.Goals as goal

pub change-requires-clause-pieces : goal.change-requires-clause-pieces
change-requires-clause-pieces c = (c.reached_registers_are_whole.ensures _ c.self.invariant.reached).pieces

pub change-requires-clause-alone : goal.change-requires-clause-alone
change-requires-clause-alone c = λ card is.
    c.next_entries_can_be_painted.ensures.alone _ c.args.e.now card (c.reached_registers_are_whole.ensures _ c.self.invariant.reached)
    (subst (λ r. IsNextEntry r c.args.e.now) (sym c.self.view_is) c.requires) is

pub change-requires-clause-cover : goal.change-requires-clause-cover
change-requires-clause-cover c = λ card is.
    c.next_entries_can_be_painted.ensures.cover _ c.args.e.now card (c.reached_registers_are_whole.ensures _ c.self.invariant.reached)
    (subst (λ r. IsNextEntry r c.args.e.now) (sym c.self.view_is) c.requires) is

pub change_subs-requires-clause-known : goal.change_subs-requires-clause-known
change_subs-requires-clause-known c =
    let within = (c.reached_registers_are_whole.ensures _ c.self.invariant.reached).rooms.holders in
    let most = c.self.invariant.rooms.holders.1 in
    let same : length c.deref.result.now ≡ length c.self.inside.holders.items = ap length c.deref.ensures.value in
    omega arith

pub change_subs-requires-clause-room : goal.change_subs-requires-clause-room
change_subs-requires-clause-room c =
    let within = (c.reached_registers_are_whole.ensures _ c.self.invariant.reached).rooms.subs in
    omega arith

pub change_holders-requires : goal.change_holders-requires
change_holders-requires c =
    let within = (c.reached_registers_are_whole.ensures _ c.self.invariant.reached).rooms.holders in
    record { room = omega arith }

pub change_reverses-requires : goal.change_reverses-requires
change_reverses-requires c =
    let within = (c.reached_registers_are_whole.ensures _ c.self.invariant.reached).rooms.reverse in
    record { room = omega arith }
