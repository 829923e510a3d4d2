use Rattle.mirror_core.proofs.Blocks.{read_once}
use Rattle.mirror_core.proofs.keys.block_text.Goals as goal

pub returns-clause-value : goal.returns-clause-value
returns-clause-value c =
    read_once c.args.text.now _ _ c.read_block.ensures.some c.read_block.ensures.none (c.computes_spelled.ensures.block c.args.text.now)
    (c.spells_one.ensures.block c.args.text.now)
