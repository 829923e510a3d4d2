use Rattle.std.proofs.Common.{◌≡◌, ◌<◌, length, arith}
use Rattle.std.proofs.lemmas.Bool.Decides.{nat_tests}
use Rattle.registry_main.proofs.Applied.{last_applied}
use Rattle.registry_main.proofs.apply.end_script.Goals as goal

pub returns-then-not-is_empty : goal.returns-then-not-is_empty
returns-then-not-is_empty c =
    let same : c.bytes-text.result.now ≡ c.args.line.now = c.bytes-text.ensures.bytes in
    let some : 0 < length c.bytes-text.result.now = grind (arith, nat_tests) in
    rw (← same) (last_applied _ _ c.bytes-text.result.now (rw same c.bytes-text.ensures.line) some c.apply_line.ensures)
