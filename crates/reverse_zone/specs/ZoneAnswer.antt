-- A zone as the answer to a question.
use Rattle.std.specs.Prelude.{false, if◌then◌else◌}
use Rattle.reg_entry.specs.declared.policy.ZoneTerms.{ZoneTerms}
use Rattle.reg_entry.specs.Register.{Register}
use Rattle.board.specs.declared.lens.Answer.{Answer}
use Rattle.board.specs.declared.lens.Media.TheVariants.{Json, Plain}
use Rattle.wire_http.specs.ErrorBody.{error_text}
use Rattle.reverse_zone.specs.declared.apex.Apex.{Apex}
use Rattle.reverse_zone.specs.Zone.{in_pool, zone_text}

-- the zone as plain text, or an error where the register has no number there
abbrev pub zone_answer : Register → ZoneTerms → Apex → Answer
zone_answer r terms apex =
    if in_pool r apex then record { status = 200; media = Plain; body = zone_text r terms apex; entries = r.entries }
    else record { status = 404; media = Json; body = error_text 404 0 false; entries = r.entries }
