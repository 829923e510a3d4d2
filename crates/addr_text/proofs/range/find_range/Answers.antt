use Rattle.addr_text.proofs.Parsed.{none_then, no_range}
use Rattle.addr_text.proofs.range.find_range.Goals as goal

pub returns-clause-none : goal.returns-clause-none
returns-clause-none c =
    none_then _ c.read_first_to_last.ensures.none
    (no_range _ c.in_default.ensures.none c.in_default-read_whole_block.ensures.none)
