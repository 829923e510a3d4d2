use Rattle.std.proofs.Common.{ap, ◌∙◌, arith, rules}
use Rattle.num_range.specs.Space.{width_of}
use Rattle.addr_text.proofs.Parsed.{no_block, no_block_address, no_block_length, no_block_width}
use Rattle.addr_text.proofs.block.read_block.Goals as goal

pub returns-in_err-address-clause-none : goal.returns-in_err-address-clause-none
returns-in_err-address-clause-none c =
    rw c.from_residual.ensures (no_block _ c.in_err-address.ensures.none)

pub returns-in_err-address-2-clause-none : goal.returns-in_err-address-2-clause-none
returns-in_err-address-2-clause-none c =
    let parts = c.in_ok-address.ensures in
    rw c.from_residual-in_err-address-2.ensures (no_block_address _ _ _ parts.parts parts.first c.in_err-address-2.ensures.none)

pub returns-in_err-length-clause-none : goal.returns-in_err-length-clause-none
returns-in_err-length-clause-none c =
    let parts = c.in_ok-address.ensures in
    rw c.from_residual-in_err-length.ensures (no_block_length _ _ _ parts.parts parts.first c.in_err-length.ensures.none)

pub returns-then-length-width-clause-none : goal.returns-then-length-width-clause-none
returns-then-length-width-clause-none c =
    let parts = c.in_ok-address.ensures in
    let wide = c.width.ensures ∙ ap width_of c.space.ensures in
    no_block_width _ _ _ parts.parts parts.first _ _ c.in_ok-address-2.ensures.some c.in_ok-length.ensures.some (search rules) (omega arith)
