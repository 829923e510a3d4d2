-- The answer to a question of the Registration Data Access Protocol, from a register.
use Rattle.std.specs.Prelude.{◌≡◌, ℕ, Bool, false, if◌then◌else◌, List, [], ◌∷◌, Option, None, Some, codes, slice_get}
use Rattle.std.specs.Option.{option_map, option_and_then}
use Rattle.num_range.specs.Range.{PlainRange}
use Rattle.addr_text.specs.Reading.{range_of_one}
use Rattle.serde_json.specs.Data.{Data, number, unsigned, string}
use Rattle.serde_json.specs.Written.{compact_text}
use Rattle.reg_entry.specs.declared.card.Status.{Status}
use Rattle.reg_entry.specs.declared.card.Status.TheVariants.{Allocated as AllocatedStatus}
use Rattle.reg_entry.specs.declared.found.Found.{Found}
use Rattle.reg_entry.specs.declared.found.Found.TheVariants.{Piece as ThePiece, Sub as TheSub}
use Rattle.reg_entry.specs.declared.holder.Holder.{Holder}
use Rattle.reg_entry.specs.Card.{same_status}
use Rattle.reg_entry.specs.Register.{Register}
use Rattle.reg_entry.specs.Sums.{narrowest}
use Rattle.board.specs.declared.lens.Answer.{Answer}
use Rattle.board.specs.declared.lens.Media.TheVariants.{Json}
use Rattle.rdap_query.specs.declared.ask.RdapAsk.{RdapAsk}
use Rattle.rdap_query.specs.declared.ask.RdapAsk.TheVariants.{Ip, Autnum, Help}
use Rattle.wire_http.specs.Reply.{title_of}
use Rattle.wire_http.specs.ErrorBody.{description_of, error_text}
use Rattle.rdap_json.specs.declared.facts.NetFacts.{NetFacts}
use Rattle.rdap_json.specs.declared.facts.NetKind.{NetKind}
use Rattle.rdap_json.specs.declared.facts.NetKind.TheVariants.{Allocated, Assigned, Sub}
use Rattle.rdap_json.specs.Tree.{Member, object_of, array_of}
use Rattle.rdap_json.specs.Network.{conformance, network_tree}

-- ---- what is found, with its holder

abbrev pub number_of_holder : Found → Option ℕ
number_of_holder (ThePiece p) = p.card.holder
number_of_holder (TheSub range card parent) = Some card.holder

-- the holder whose registration it is
abbrev pub holder_in : List (Holder × ℕ) → Found → Option Holder
holder_in hs found = option_map (λ m. m.0) (option_and_then (slice_get hs) (number_of_holder found))

-- a piece that is found is allocated, or else assigned
abbrev pub kind_of : Status → NetKind
kind_of status = if same_status status AllocatedStatus then Allocated else Assigned

abbrev pub facts_of : Found → Holder → NetFacts
facts_of (ThePiece p) holder =
    record { range = p.range; kind = kind_of p.card.status; holder = holder; day = p.card.day; parent = None }
facts_of (TheSub range card parent) holder =
    record { range = range; kind = Sub; holder = holder; day = card.day; parent = Some parent }

-- the facts of the narrowest registration round the range
abbrev pub facts_round : Register → PlainRange → Option NetFacts
facts_round r range =
    option_and_then (λ found. option_map (facts_of found) (holder_in r.holders found)) (narrowest r range)

-- ---- the answer

-- what is served, in words (RFC 9083 4.3)
abbrev pub help_notice : Data
help_notice =
    object_of ((codes "description", array_of (string (codes "RDAP lookups of this registry") ∷ [])) ∷ (codes "title", string (codes "Help")) ∷ [])

-- RFC 9083 7
abbrev pub help_tree : Data
help_tree = object_of ((codes "notices", array_of (help_notice ∷ [])) ∷ conformance ∷ [])

-- an error (RFC 9083 6)
abbrev pub error_members : ℕ → ℕ → Bool → List Member
error_members code entries shut =
    (codes "description", array_of (string (description_of code entries shut) ∷ []))
    ∷ (codes "errorCode", number (unsigned code))
    ∷ conformance
    ∷ (codes "title", string (title_of code))
    ∷ []

abbrev pub error_tree : ℕ → ℕ → Bool → Data
error_tree code entries shut = object_of (error_members code entries shut)

-- the network, or an error where there is none
abbrev pub found_answer : ℕ → Option NetFacts → Answer
found_answer entries None = record { status = 404; media = Json; body = error_text 404 0 false; entries = entries }
found_answer entries (Some facts) =
    record { status = 200; media = Json; body = compact_text (network_tree facts false); entries = entries }

abbrev pub rdap_answer : Register → RdapAsk → Answer
rdap_answer r (Ip range) = found_answer r.entries (facts_round r range)
rdap_answer r (Autnum n) = found_answer r.entries (facts_round r (range_of_one n))
rdap_answer r Help = record { status = 200; media = Json; body = compact_text help_tree; entries = r.entries }

-- ---- what an answer is made of

-- the range that is asked for
abbrev pub asked_range : RdapAsk → Option PlainRange
asked_range (Ip range) = Some range
asked_range (Autnum n) = Some (range_of_one n)
asked_range Help = None

abbrev pub found_for : Register → RdapAsk → Option Found
found_for r ask = option_and_then (narrowest r) (asked_range ask)

-- the registers have the same registration for the question, the same holder of it, and as many entries
pub record TellAlike (r s : Register) (ask : RdapAsk) : Type 0 where
  pub found : found_for r ask ≡ found_for s ask
  pub holder : option_and_then (holder_in r.holders) (found_for r ask) ≡ option_and_then (holder_in s.holders) (found_for s ask)
  pub entries : r.entries ≡ s.entries
