-- Registers in which the same is found give the same answer.
use Rattle.std.proofs.Common.{◌≡◌, ℕ, List, Option, None, Some, refl, sym, ap, ap₂, ◌∙◌}
use Rattle.std.specs.Option.{option_map, option_and_then}
use Rattle.num_range.specs.Range.{PlainRange}
use Rattle.addr_text.specs.Reading.{range_of_one}
use Rattle.reg_entry.specs.declared.found.Found.{Found}
use Rattle.reg_entry.specs.declared.holder.Holder.{Holder}
use Rattle.reg_entry.specs.Register.{Register}
use Rattle.reg_entry.specs.Sums.{narrowest}
use Rattle.rdap_query.specs.declared.ask.RdapAsk.{RdapAsk}
use Rattle.rdap_query.specs.declared.ask.RdapAsk.TheVariants.{Ip, Autnum, Help}
use Rattle.rdap_json.specs.RdapAnswer.{holder_in, facts_of, facts_round, found_answer, rdap_answer, TellAlike}

-- the facts of what is found, by its holder
facts_by : (hs ks : List (Holder × ℕ)) (o : Option Found) → option_and_then (holder_in hs) o ≡ option_and_then (holder_in ks) o
    → option_and_then (λ f. option_map (facts_of f) (holder_in hs f)) o ≡ option_and_then (λ f. option_map (facts_of f) (holder_in ks f)) o
facts_by hs ks None e = refl
facts_by hs ks (Some f) e = ap (option_map (facts_of f)) e

facts_alike : (r s : Register) (range : PlainRange) → narrowest r range ≡ narrowest s range
    → option_and_then (holder_in r.holders) (narrowest r range) ≡ option_and_then (holder_in s.holders) (narrowest s range)
    → facts_round r range ≡ facts_round s range
facts_alike r s range found holder =
    facts_by r.holders s.holders (narrowest r range) (holder ∙ ap (option_and_then (holder_in s.holders)) (sym found))
    ∙ ap (option_and_then (λ f. option_map (facts_of f) (holder_in s.holders f))) found

pub answers_alike : (r s : Register) (ask : RdapAsk) → TellAlike r s ask → rdap_answer r ask ≡ rdap_answer s ask
answers_alike r s (Ip range) alike = ap₂ found_answer alike.entries (facts_alike r s range alike.found alike.holder)
answers_alike r s (Autnum n) alike = ap₂ found_answer alike.entries (facts_alike r s (range_of_one n) alike.found alike.holder)
answers_alike r s Help alike = ap (λ (entries : ℕ). rdap_answer (record { rooms = r.rooms; entries = entries; first_day = r.first_day; last_day = r.last_day; pool = r.pool; holders = r.holders; subs = r.subs; reverses = r.reverses }) Help) alike.entries
