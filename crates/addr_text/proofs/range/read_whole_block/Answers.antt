use Rattle.addr_text.proofs.Parsed.{none_unless, no_whole_block}
use Rattle.addr_text.proofs.range.read_whole_block.Goals as goal

pub returns-in_err-n-clause-none : goal.returns-in_err-n-clause-none
returns-in_err-n-clause-none c = rw c.from_residual.ensures λ r h. c.in_err-n.ensures.none h.0 h.1 h.2

pub returns-clause-none : goal.returns-clause-none
returns-clause-none c =
    none_unless _ c.block.ensures.fits λ none.
    no_whole_block _ _ _ c.in_ok-n.ensures.some (rw (c.space.ensures, c.value.ensures.value) at none)
