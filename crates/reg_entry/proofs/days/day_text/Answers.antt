use Rattle.std.proofs.Common.{◌≡◌, FitsSigned, w64, ◌∙◌, ap, arith}
use Rattle.std.proofs.lemmas.Int.{to_z-of_z}
use Rattle.jiff_core.proofs.SignedLemmas.{signed_arith}
use Rattle.reg_entry.specs.Days.{date_of_day, date_text}
use Rattle.reg_entry.proofs.Calendar.{date_of_day_is_given}
use Rattle.reg_entry.proofs.days.day_text.Goals as goal

pub returns : goal.returns
returns c =
    let fits : FitsSigned w64 c.from.result = omega (arith, signed_arith) in
    let given = date_of_day_is_given c.args.day c.in-Ok.date c.requires (c.in-Ok.ensures.value ∙ to_z-of_z w64 c.from.result fits ∙ c.from.ensures) in
    let y : c.from-in-Ok.result ≡ (date_of_day c.args.day).0 = omega (arith, signed_arith, given, c.from-in-Ok.ensures, c.unsigned_abs.ensures.value) in
    let m : c.from-in-Ok-2.result ≡ (date_of_day c.args.day).1 = c.from-in-Ok-2.ensures ∙ given.1 in
    let d : c.from-in-Ok-3.result ≡ (date_of_day c.args.day).2 = c.from-in-Ok-3.ensures ∙ given.2 in
    c.date_text.ensures
    ∙ ap (λ n. date_text n c.from-in-Ok-2.result c.from-in-Ok-3.result) y
    ∙ ap (λ n. date_text (date_of_day c.args.day).0 n c.from-in-Ok-3.result) m
    ∙ ap (λ n. date_text (date_of_day c.args.day).0 (date_of_day c.args.day).1 n) d
