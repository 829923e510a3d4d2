use Rattle.std.proofs.Common.{◌≡◌, ◌<◌, length, None, arith, rules, sym, ◌∙◌}
use Rattle.std.proofs.lemmas.Grind.{common_steps}
use Rattle.toml.specs.View.{view}
use Rattle.policy_table.specs.Section.{string_of}
use Rattle.policy_table.proofs.Hosts.{texts, text_in, count_of, chosen, not_chosen, placed, refused}
use Rattle.policy_table.proofs.zone.servers_of.Goals as goal

pub returns-in_err-hosts-2 : goal.returns-in_err-hosts-2
returns-in_err-hosts-2 c =
    let vs = c.args.values.now in
    let i = c.loop-place.place in
    let v = c.index-values-place.result in
    let within : i < length vs = c.loop-place-test.true in
    let inside : i < length (texts vs) = omega (arith, count_of vs) in
    let none : c.from_residual-in_err-hosts-2.result ≡ None = search rules in
    let no = not_chosen _ (string_of (view v)) (sym c.host_of-in-loop-place.ensures ∙ c.in_err-hosts-2.was) in
    none ∙ sym (refused (texts vs) i (string_of (view v)) inside (text_in vs i v within c.index-values-place.is) no)

pub loop-place-preserved : goal.loop-place-preserved
loop-place-preserved c =
    let vs = c.args.values.now in
    let i = c.loop-place.place in
    let v = c.index-values-place.result in
    let host = c.in_ok-hosts-2.field-0 in
    let within : i < length vs = c.loop-place-test.true in
    let inside : i < length (texts vs) = omega (arith, count_of vs) in
    let room : i < length c.loop-place.hosts = omega (arith, c.loop-place.invariant.2, within, c.if-values-gt-SERVER_ROOM.false) in
    let (one, is) = chosen _ (string_of (view v)) host (sym c.host_of-in-loop-place.ensures ∙ c.in_ok-hosts-2.was) in
    placed c.loop-place.hosts (texts vs) i (string_of (view v)) host is c.loop-place.invariant.2 room inside (text_in vs i v within c.index-values-place.is) one c.loop-place.invariant.0 c.loop-place.invariant.1

pub returns-in_err-hosts : goal.returns-in_err-hosts
returns-in_err-hosts c = grind (arith, common_steps)

pub returns : goal.returns
returns c = grind (arith, common_steps)
