use Rattle.std.proofs.Common.{decimal, sym, ◌∙◌}
use Rattle.std.proofs.lemmas.List.{append_cancel_right}
use Rattle.reverse_zone.proofs.apex.read_four.Goals as goal

pub returns-in_err-before-clause-none : goal.returns-in_err-before-clause-none
returns-in_err-before-clause-none c = rw c.from_residual.ensures (λ octet lt e. c.in_err-before.ensures.none (decimal octet) e)

pub returns-in_err-octet-clause-none : goal.returns-in_err-octet-clause-none
returns-in_err-octet-clause-none c =
    rw c.from_residual-in_err-octet.ensures
    (λ octet lt e. c.in_err-octet.ensures.none octet lt (append_cancel_right _ _ _ (sym c.in_ok-before.ensures.some ∙ e)))
