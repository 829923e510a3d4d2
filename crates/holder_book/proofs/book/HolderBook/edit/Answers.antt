use Rattle.std.proofs.Common.{◌≡◌, ◌∙◌, Some, ap, sym, subst}
use Rattle.reg_entry.specs.Holders.{holder_number, edited_holder}
use Rattle.holder_book.proofs.Places.{edited_in_place}
use Rattle.holder_book.proofs.Keeping.{kept_after_editing}
use Rattle.holder_book.proofs.book.HolderBook.edit.Goals as goal

pub invariant_of-self : goal.invariant_of-self
invariant_of-self c =
    let there = subst (λ b. holder_number b.holders c.args.holder.now.handle ≡ Some c.args.number) (sym c.self.view_is) c.requires in
    rw (c.set.ensures.holders, c.set.ensures.room)
    (kept_after_editing c.self.inside.holders.holders c.self.inside.numbers.pairs c.args.holder.now c.args.day c.args.number _ _ c.self.invariant there)

pub returns-clause-holders : goal.returns-clause-holders
returns-clause-holders c =
    let there = subst (λ b. holder_number b.holders c.args.holder.now.handle ≡ Some c.args.number) (sym c.self.view_is) c.requires in
    c.set.ensures.holders
    ∙ edited_in_place c.self.inside.holders.holders c.args.holder.now c.args.day c.args.number c.self.invariant.distinct there
    ∙ ap (λ b. edited_holder b.holders c.args.holder.now c.args.day) c.self.view_is

pub returns-clause-distinct : goal.returns-clause-distinct
returns-clause-distinct c = (invariant_of-self c).distinct
