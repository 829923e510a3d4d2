use Rattle.std.proofs.Common.{◌≡◌, length}
use Rattle.std.specs.Str.Lines.{lines}
use Rattle.rpsl_text.specs.Reading.{after_lines, read_text}
use Rattle.rpsl_text.proofs.read.read_object.Given as goal

abbrev pub invariant-lines : goal.invariant-lines
invariant-lines l = after_lines l.attrs l.number (lines l.left) ≡ read_text l.text

abbrev pub decreases-lines : goal.decreases-lines
decreases-lines l = length l.left
