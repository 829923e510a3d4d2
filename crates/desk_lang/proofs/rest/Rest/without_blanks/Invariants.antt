use Rattle.std.proofs.Common.{◌≡◌, ◌≤◌, ◌+◌, length}
use Rattle.desk_lang.specs.Words.{without_blanks}
use Rattle.desk_lang.proofs.rest.Rest.without_blanks.Given as goal

abbrev pub invariant-loop-text : goal.invariant-loop-text
invariant-loop-text l = (without_blanks l.place l.text ≡ without_blanks l.self.place l.self.text) × (l.place + length l.text ≤ 1025)

abbrev pub decreases-loop-text : goal.decreases-loop-text
decreases-loop-text l = length l.text
