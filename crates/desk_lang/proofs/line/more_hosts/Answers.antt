use Rattle.std.proofs.Common.{◌∙◌, sym, arith, rules}
use Rattle.desk_lang.proofs.Hosts.{hosts_step, hosts_fault, hosts_end}
use Rattle.desk_lang.proofs.line.more_hosts.Goals as goal

pub hosts-preserved : goal.hosts-preserved
hosts-preserved c =
    let inv = c.hosts.invariant in
    (hosts_step c.hosts.len c.hosts.hosts c.hosts.rest c.in_ok-host.behind c.in_ok-host.host (search rules) inv.3 (sym c.host.ensures ∙ c.in_ok-host.was) ∙ inv.0, omega arith, search rules, search rules)

pub returns-in_err-host : goal.returns-in_err-host
returns-in_err-host c = search (rules, hosts_fault)

pub returns-in_err-end : goal.returns-in_err-end
returns-in_err-end c = search (rules, hosts_end)

pub returns : goal.returns
returns c = search (rules, hosts_end)
