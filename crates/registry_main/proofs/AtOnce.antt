-- Texts that are written at once: the line that tells of the connections of a service, and the summary of a load.
use Rattle.std.proofs.Common.{◌≡◌, ◌∙◌, ℕ, List, [], Option, None, Some, sym, subst, append-nil}
use Rattle.std.specs.Io.KnownBytes.{Appends}
use Rattle.link_face.specs.Bytes.{AppendsPrefix}
use Rattle.reg_entry.specs.Policy.{PlainPolicy}
use Rattle.policy_table.specs.Policy.{first_name}
use Rattle.load_gen.specs.Load.{load_text}
use Rattle.serve_run.specs.Gate.{PlainGate}
use Rattle.serve_run.specs.Service.{IsServed}
use Rattle.registry_main.specs.declared.exit.Exit.TheVariants.{Done, WriteFault}
use Rattle.registry_main.specs.Batch.{IsFrontWritten}
use Rattle.registry_main.specs.Serve.{IsServedFor, service_text}
use Rattle.registry_main.specs.Load.{IsLoaded}
use Rattle.registry_main.specs.Session.{rooms}
use Rattle.registry_main.proofs.Ends.{write_not_done}
use Rattle.registry_main.proofs.Written.{prefix_begins}

appended_begins : (a b : Option (List ℕ)) (text : List ℕ) → Appends a b text → IsFrontWritten a text b
appended_begins None b text p = tt
appended_begins (Some xs) None text p = absurd p
appended_begins (Some xs) (Some ys) text p = ([], sym p ∙ sym (append-nil ys))

pub whole_is_written : (policy : PlainPolicy) (is_day : ℕ → Type 0) (http line workers : ℕ) (old new : PlainGate) (before after : Option (List ℕ))
    (count : ℕ) (text : List ℕ) → IsServed rooms policy is_day http line workers old new count → text ≡ service_text count → Appends before after text
    → IsServedFor policy is_day http line workers old new before Done after
whole_is_written policy is_day http line workers old new before after count text served same all =
    let written : Appends before after (service_text count) = subst (λ (bytes : List ℕ). Appends before after bytes) same all in
    record { count = count; served = served; front = appended_begins before after (service_text count) written; done = λ is. written }

pub front_is_written : (policy : PlainPolicy) (is_day : ℕ → Type 0) (http line workers : ℕ) (old new : PlainGate) (before after : Option (List ℕ))
    (count : ℕ) (text : List ℕ) → IsServed rooms policy is_day http line workers old new count → text ≡ service_text count → AppendsPrefix before after text
    → IsServedFor policy is_day http line workers old new before WriteFault after
front_is_written policy is_day http line workers old new before after count text served same front =
    record {
      count = count;
      served = served;
      front = prefix_begins before after (service_text count) (subst (λ (bytes : List ℕ). AppendsPrefix before after bytes) same front);
      done = λ is. absurd (write_not_done is);
    }

pub summary_is_written : (policy : PlainPolicy) (seed requests : ℕ) (before after : Option (List ℕ)) (text : List ℕ)
    → text ≡ load_text rooms policy (first_name policy.hostmasters) seed requests → Appends before after text
    → IsLoaded policy seed requests before Done after
summary_is_written policy seed requests before after text same all =
    let written : Appends before after (load_text rooms policy (first_name policy.hostmasters) seed requests) =
    subst (λ (bytes : List ℕ). Appends before after bytes) same all in
    record { front = appended_begins before after (load_text rooms policy (first_name policy.hostmasters) seed requests) written; done = λ is. written }
