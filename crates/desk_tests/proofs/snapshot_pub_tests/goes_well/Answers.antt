use Rattle.std.proofs.Common.{[], List, refl, sym, subst, ap, ◌∙◌}
use Rattle.reg_entry.specs.Entry.{PlainEntry}
use Rattle.reg_entry.specs.Operations.{PlainBoard}
use Rattle.op_feed.specs.ReachedBoard.{IsBoardOf}
use Rattle.desk_tests.proofs.snapshot_pub_tests.goes_well.Goals as goal

pub invariant_of-desk : goal.invariant_of-desk
invariant_of-desk g c =
    let empty : IsBoardOf c.in_ok-head.head [] = subst (λ (b : PlainBoard). IsBoardOf b []) (sym c.in_ok-head.ensures) (record { legal = tt; same = refl }) in (
      subst (λ (es : List PlainEntry). IsBoardOf c.in_ok-head.head es) (sym (c.is_told-told.ensures.0 ∙ c.in_ok-press.ensures.lists.1)) empty,
      ap (λ (b : PlainBoard). b.register.rooms) (c.in_ok-head.ensures ∙ sym c.in_ok-one.ensures)
          ∙ sym (c.is_told-told.ensures.1 ∙ c.in_ok-press.ensures.rooms),
    )
