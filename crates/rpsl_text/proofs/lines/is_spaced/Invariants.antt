use Rattle.std.proofs.Common.{◌≡◌, false, drop}
use Rattle.rpsl_text.specs.Words.{is_spaced}
use Rattle.rpsl_text.proofs.lines.is_spaced.Given as goal

abbrev pub invariant-loop-b : goal.invariant-loop-b
invariant-loop-b l = is_spaced l.inside (drop l.b-index l.text) ≡ is_spaced false l.text
