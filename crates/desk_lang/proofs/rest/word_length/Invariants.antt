use Rattle.std.proofs.Common.{◌≡◌, ◌+◌, drop}
use Rattle.desk_lang.specs.Words.{word_length}
use Rattle.desk_lang.proofs.rest.word_length.Given as goal

abbrev pub invariant-loop-i : goal.invariant-loop-i
invariant-loop-i l = l.i + word_length (drop l.i l.text) ≡ word_length l.text
