-- What is looked up, by the segments of the path that names it.
use Rattle.std.specs.Prelude.{◌≡◌, ℕ, nat_lt, false, if◌then◌else◌, List, [], ◌∷◌, Option, None, Some, codes}
use Rattle.reg_entry.specs.Policy.{PlainPolicy}
use Rattle.reg_entry.specs.Register.{Register}
use Rattle.board.specs.declared.lens.Answer.{Answer}
use Rattle.board.specs.declared.lens.Media.TheVariants.{Json}
use Rattle.wire_http.specs.ErrorBody.{error_text}
use Rattle.delegated_ext.specs.StatisticsAnswer.{statistics_answer}
use Rattle.reverse_zone.specs.Apex.{IsApex, apex_name}
use Rattle.reverse_zone.specs.ZoneAnswer.{zone_answer}
use Rattle.rdap_query.specs.Path.{SpellsPath}
use Rattle.rdap_query.specs.declared.ask.RdapAsk.{RdapAsk}
use Rattle.rdap_json.specs.RdapAnswer.{rdap_answer}
use Rattle.hall.specs.declared.lookup.Lookup.{Lookup}
use Rattle.hall.specs.declared.lookup.Lookup.TheVariants.{Rdap, Stats, Zone}

-- the segments are a path of RDAP (RFC 9082 3.1)
abbrev pub SpellsSegments : List (List ℕ) → RdapAsk → Type 0
SpellsSegments [] ask = ⊥
SpellsSegments (first ∷ []) ask = SpellsPath first None None ask
SpellsSegments (first ∷ second ∷ []) ask = SpellsPath first (Some second) None ask
SpellsSegments (first ∷ second ∷ third ∷ []) ask = SpellsPath first (Some second) (Some third) ask
SpellsSegments (first ∷ second ∷ third ∷ fourth ∷ more) ask = ⊥

abbrev pub Names : List (List ℕ) → Lookup → Type 0
Names segments (Rdap ask) = SpellsSegments segments ask
Names segments Stats = segments ≡ codes "stats" ∷ []
Names segments (Zone apex) = IsApex apex × (segments ≡ codes "zones" ∷ apex_name apex ∷ [])

-- the segments name this, or nothing at all
abbrev pub IsNamed : List (List ℕ) → Option Lookup → Type 0
IsNamed segments (Some lookup) = Names segments lookup
IsNamed segments None = (lookup : Lookup) → ¬ (Names segments lookup)

-- up to three segments, one behind the other
abbrev pub listed : List ℕ → Option (List ℕ) → Option (List ℕ) → List (List ℕ)
listed first None third = first ∷ []
listed first (Some second) None = first ∷ second ∷ []
listed first (Some second) (Some third) = first ∷ second ∷ third ∷ []

-- what a register answers under a policy
abbrev pub lookup_answer : PlainPolicy → Lookup → Register → Answer
lookup_answer policy (Rdap ask) r = rdap_answer r ask
lookup_answer policy Stats r = statistics_answer r policy.registry
lookup_answer policy (Zone apex) r = zone_answer r policy.zone apex

-- the register has too few entries
abbrev pub conflict_answer : ℕ → Answer
conflict_answer entries = record { status = 409; media = Json; body = error_text 409 entries false; entries = entries }

-- the answer of a register of at least so many entries
abbrev pub answer_at_least : ℕ → Register → Answer → Answer
answer_at_least least r answer = if nat_lt r.entries least then conflict_answer r.entries else answer
