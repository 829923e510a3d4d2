use Rattle.std.proofs.Common.{◌≡◌, ◌≤◌, length}
use Rattle.rpsl_text.specs.Lines.{words}
use Rattle.rpsl_text.proofs.lines.without_blanks.Given as goal

abbrev pub invariant-blanks : goal.invariant-blanks
invariant-blanks l = record {
  words : words l.left ≡ words l.text;
  shorter : length l.left ≤ length l.text;
}

abbrev pub decreases-blanks : goal.decreases-blanks
decreases-blanks l = length l.left
