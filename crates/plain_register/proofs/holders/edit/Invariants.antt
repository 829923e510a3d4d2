use Rattle.std.proofs.Common.{◌≡◌, ◌++◌, ℕ, take, drop}
use Rattle.std.specs.Prelude.{vec_capacity}
use Rattle.reg_entry.specs.Holders.{edited_holder}
use Rattle.plain_register.proofs.holders.edit.Given as goal

abbrev pub invariant-loop-i : goal.invariant-loop-i
invariant-loop-i l =
    (l.holders.items ≡ edited_holder (take l.i l.initial.holders.items) l.holder l.day ++ drop l.i l.initial.holders.items)
    × ◌≡◌ {A = ℕ} (vec_capacity l.holders) (vec_capacity l.initial.holders)
