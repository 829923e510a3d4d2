-- What is known of a registration that was found.
use Rattle.std.specs.Prelude.{ℕ, ◌<◌, ◌≤◌, length, IfSome}
use Rattle.reg_entry.specs.declared.found.Found.{Found}
use Rattle.reg_entry.specs.declared.found.Found.TheVariants.{Piece as ThePiece, Sub as TheSub}
use Rattle.reg_entry.specs.Days.{last_date}
use Rattle.reg_entry.specs.Register.{Register}
use Rattle.rdap_json.specs.RdapAnswer.{number_of_holder}

abbrev pub day_of : Found → ℕ
day_of (ThePiece p) = p.card.day
day_of (TheSub range card parent) = card.day

-- its holder is there, and its day is one that is written
pub record IsRegistered (r : Register) (found : Found) : Type 0 where
  pub holder : IfSome (number_of_holder found) (λ number. number < length r.holders)
  pub day : (1 ≤ day_of found) × (day_of found ≤ last_date)
