use Rattle.std.proofs.Common.{append_assoc}
use Rattle.plain_register.proofs.Parts.{parts_of}
use Rattle.plain_register.proofs.laying.part.Goals as goal

pub returns-clause-each : goal.returns-clause-each
returns-clause-each c =
    rw (c.push_above.ensures.items, c.push_reserved.ensures.items, c.push_below.ensures.items, c.clear.ensures.items, append_assoc)
    (parts_of c.args.pieces.now c.args.range.now c.args.card.now c.requires.pieces.each)
