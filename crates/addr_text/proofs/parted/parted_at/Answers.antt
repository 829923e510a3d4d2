use Rattle.std.proofs.Common.{arith, ◌≡◌, ◌≢◌, ◌∷◌, ◌++◌, All, ◌+◌, ◌-◌, length, take, drop, sym, ap, ◌∙◌}
use Rattle.std.proofs.lemmas.Grind.{common_steps}
use Rattle.addr_text.specs.Reading.{parted_at}
use Rattle.addr_text.proofs.Separators.{parted_here}
use Rattle.addr_text.proofs.parted.parted_at.Goals as goal

pub returns-clause-value : goal.returns-clause-value
returns-clause-value c =
    let byte = c.args.byte in
    let text = c.args.text.now in
    let place = c.in_ok-place.place in
    let before = take place text in
    let behind = take (length text - (place + 1)) (drop (place + 1) text) in
    let parts : text ≡ before ++ byte ∷ behind = grind (arith, common_steps) in
    let first : All (λ b. b ≢ byte) before = grind (arith, common_steps) in
    sym (ap (parted_at byte) parts ∙ parted_here byte before behind first)
