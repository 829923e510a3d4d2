use Rattle.std.proofs.Common.{◌≡◌, false, ◌∙◌, sym, arith}
use Rattle.reverse_zone.proofs.NoZone.{no_zone}
use Rattle.reverse_zone.proofs.zone_lens.has_zone.Goals as goal

pub returns-else-is_apex-clause-zone : goal.returns-else-is_apex-clause-zone
returns-else-is_apex-clause-zone c =
    let none : c.is_apex.result ≡ false = grind arith in
    none ∙ sym (no_zone c.args.board.now.register c.args.apex c.is_whole.ensures.whole.pieces (sym c.is_apex.ensures.test ∙ none))
