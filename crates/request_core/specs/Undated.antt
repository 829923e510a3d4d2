-- The refusals for which no day is needed.
use Rattle.std.specs.Prelude.{ℕ, List, Option}
use Rattle.std.specs.Option.{option_or}
use Rattle.reg_entry.specs.declared.refusal.Refusal.{Refusal}
use Rattle.reg_entry.specs.declared.request.Request.{Request}
use Rattle.reg_entry.specs.Policy.{PlainPolicy}
use Rattle.reg_entry.specs.Register.{Register}
use Rattle.reg_entry.specs.Decision.{first_of, early_rules, policy_rules, unknown_hostmaster}

-- why the request is refused whatever the day, or none
abbrev pub undated_refusal : Register → PlainPolicy → List ℕ → Request → Option Refusal
undated_refusal r p who request =
    option_or (unknown_hostmaster p who) (option_or (first_of (early_rules r request)) (first_of (policy_rules r p request)))
