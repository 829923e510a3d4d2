use Rattle.std.proofs.Common.{rules}
use Rattle.policy_table.specs.Policy.{policy_in}
use Rattle.policy_table.proofs.Seen.{gives_error}
use Rattle.policy_table.proofs.policy.policy_in.Goals as goal

pub returns-in_err-hostmasters : goal.returns-in_err-hostmasters
unfolding policy_in
returns-in_err-hostmasters c =
    let e = c.in_err-hostmasters.field-0.0 in
    gives_error _ _ _ e (search rules) (λ known. rw (← c.in_ok-registry.ensures.registry, ← c.in_ok-quarantine_days.ensures.integer, ← c.in_ok-hold_days.ensures.integer, c.in_err-hostmasters.ensures.hostmasters known))

pub returns-in_err-zone : goal.returns-in_err-zone
unfolding policy_in
returns-in_err-zone c =
    gives_error _ _ _ c.in_err-zone.field-0.0 (search rules) (λ known. rw (← c.in_ok-registry.ensures.registry, ← c.in_ok-quarantine_days.ensures.integer, ← c.in_ok-hold_days.ensures.integer, c.in_ok-hostmasters.ensures.hostmasters, ← c.in_err-zone.ensures))

pub returns-in_err-ipv4 : goal.returns-in_err-ipv4
unfolding policy_in
returns-in_err-ipv4 c =
    gives_error _ _ _ c.in_err-ipv4.field-0.0 (search rules) (λ known. rw (← c.in_ok-registry.ensures.registry, ← c.in_ok-quarantine_days.ensures.integer, ← c.in_ok-hold_days.ensures.integer, c.in_ok-hostmasters.ensures.hostmasters, ← c.in_ok-zone.ensures, ← c.in_err-ipv4.ensures.rows))

pub returns-in_err-ipv6 : goal.returns-in_err-ipv6
unfolding policy_in
returns-in_err-ipv6 c =
    gives_error _ _ _ c.in_err-ipv6.field-0.0 (search rules) (λ known. rw (← c.in_ok-registry.ensures.registry, ← c.in_ok-quarantine_days.ensures.integer, ← c.in_ok-hold_days.ensures.integer, c.in_ok-hostmasters.ensures.hostmasters, ← c.in_ok-zone.ensures, ← c.in_ok-ipv4.ensures.rows, ← c.in_err-ipv6.ensures.rows))

pub returns-in_err-asn : goal.returns-in_err-asn
unfolding policy_in
returns-in_err-asn c =
    gives_error _ _ _ c.in_err-asn.field-0.0 (search rules) (λ known. rw (← c.in_ok-registry.ensures.registry, ← c.in_ok-quarantine_days.ensures.integer, ← c.in_ok-hold_days.ensures.integer, c.in_ok-hostmasters.ensures.hostmasters, ← c.in_ok-zone.ensures, ← c.in_ok-ipv4.ensures.rows, ← c.in_ok-ipv6.ensures.rows, ← c.in_err-asn.ensures.rows))

pub returns : goal.returns
unfolding policy_in
returns c =
    rw (← c.in_ok-registry.ensures.registry, ← c.in_ok-quarantine_days.ensures.integer, ← c.in_ok-hold_days.ensures.integer, c.in_ok-hostmasters.ensures.hostmasters, ← c.in_ok-zone.ensures, ← c.in_ok-ipv4.ensures.rows, ← c.in_ok-ipv6.ensures.rows, ← c.in_ok-asn.ensures.rows)
