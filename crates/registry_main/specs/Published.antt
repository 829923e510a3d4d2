-- What is published of the register that a script leaves, where the bytes are known.
use Rattle.std.specs.Prelude.{◌≡◌, ℕ, if◌then◌else◌, List, [], ⊤, Option, None, Some}
use Rattle.std.specs.Io.KnownBytes.{append_known, Keeps, IsAtEnd}
use Rattle.reg_entry.specs.Policy.{PlainPolicy}
use Rattle.delegated_ext.specs.StatisticsText.{statistics_text}
use Rattle.reverse_zone.specs.declared.apex.Apex.{Apex}
use Rattle.reverse_zone.specs.Zone.{in_pool, zone_text, zones_text}
use Rattle.command_words.specs.declared.command.Publication.{Publication}
use Rattle.command_words.specs.declared.command.Publication.TheVariants.{Statistics, Zones}
use Rattle.registry_main.specs.declared.exit.Exit.{Exit}
use Rattle.registry_main.specs.declared.exit.Exit.TheVariants.{Done}
use Rattle.registry_main.specs.Session.{PlainSession, new_session, after_text}
use Rattle.registry_main.specs.Batch.{BeginsWith, Known}

-- the one session follows the other, once the lines of a known script were applied
abbrev pub IsAfterScript : PlainSession → Option (List ℕ) → PlainSession → Type 0
IsAfterScript s None after = ⊤
IsAfterScript s (Some script) after = after_text s script ≡ after

-- what is published of a session's register: its statistics file under the name that the policy gives the registry, or its
-- reverse zones with what the policy says of all of them
abbrev pub session_text : Publication → PlainSession → List ℕ
session_text Statistics s = statistics_text s.register s.policy.registry
session_text Zones s = zones_text s.register s.policy.zone

-- the zone of an apex, where the register has it
abbrev pub zone_or_none : PlainSession → Apex → List ℕ
zone_or_none s apex = if in_pool s.register apex then zone_text s.register s.policy.zone apex else []

-- ---- the script under a policy

-- what is published of the register that a script builds under a policy, on a clock's day
abbrev pub published_text : Publication → PlainPolicy → ℕ → List ℕ → List ℕ
published_text what policy day script = session_text what (after_text (new_session policy day) script)

-- what was written before a session published, and then that text
abbrev pub with_text_after : Publication → PlainSession → Option (List ℕ) → Option (List ℕ) → Option (List ℕ)
with_text_after what s before None = None
with_text_after what s before (Some script) = append_known before (session_text what (after_text s script))

-- It is published: Done says that the script was read to its end and all of the text was written. After any other end a
-- front of it was.
pub record IsPublished (what : Publication) (policy : PlainPolicy) (day : ℕ) (before : Known) (result : Exit) (after : Known) : Type 0 where
  pub front : BeginsWith (with_text_after what (new_session policy day) before.written before.left) after.written
  pub done : result ≡ Done
      → Keeps (with_text_after what (new_session policy day) before.written before.left) after.written × IsAtEnd after.left
