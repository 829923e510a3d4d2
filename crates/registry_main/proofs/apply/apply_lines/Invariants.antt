use Rattle.std.proofs.Common.{◌≡◌, ◌++◌, ℕ, List, length}
use Rattle.registry_main.specs.Session.{after_text}
use Rattle.registry_main.proofs.apply.apply_lines.Given as goal

abbrev pub invariant-lines : goal.invariant-lines
invariant-lines l = (tail : List ℕ) → after_text l.initial.session (l.initial.line ++ (l.piece ++ tail)) ≡ after_text l.session (l.line ++ (l.rest ++ tail))

abbrev pub decreases-lines : goal.decreases-lines
decreases-lines l = length l.rest
