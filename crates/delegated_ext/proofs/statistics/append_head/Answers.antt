use Rattle.std.proofs.Common.{ℕ, List, ◌++◌, ◌∙◌, ap, arith}
use Rattle.std.proofs.lemmas.Grind.{common_steps}
use Rattle.num_range.specs.declared.space.Space.TheVariants.{Asn, Ipv4, Ipv6}
use Rattle.reg_entry.specs.Register.{Register}
use Rattle.delegated_ext.specs.StatisticsText.{version_line, summary_line, summary_of}
use Rattle.delegated_ext.proofs.Whole.{four_appended, count_in_register}
use Rattle.delegated_ext.proofs.statistics.append_head.Goals as goal

pub returns : goal.returns
returns c =
    let registry : List ℕ = c.args.registry.now in
    let r : Register = c.args.board.now.register in
    let asn = count_in_register r c.pieces.result.now.partition Asn c.count_records-asn.result c.pieces.ensures.pool c.count_records-asn.ensures.count in
    let ipv4 = count_in_register r c.pieces-2.result.now.partition Ipv4 c.count_records-ipv4.result c.pieces-2.ensures.pool c.count_records-ipv4.ensures.count in
    let ipv6 = count_in_register r c.pieces-3.result.now.partition Ipv6 c.count_records-ipv6.result c.pieces-3.ensures.pool c.count_records-ipv6.ensures.count in
    four_appended c.args.body.now c.append_version.new.body c.append_summary.new.body c.append_summary-2.new.body c.append_summary-3.new.body
    (version_line registry r) (summary_of registry r Asn) (summary_of registry r Ipv4) (summary_of registry r Ipv6)
    c.in_ok-append_version.ensures
    (c.in_ok-append_summary.ensures ∙ ap (λ n. c.append_version.new.body ++ summary_line registry Asn n) asn)
    (c.in_ok-append_summary-2.ensures ∙ ap (λ n. c.append_summary.new.body ++ summary_line registry Ipv4 n) ipv4)
    (c.in_ok-append_summary-3.ensures ∙ ap (λ n. c.append_summary-2.new.body ++ summary_line registry Ipv6 n) ipv6)

pub append_version-requires : goal.append_version-requires
append_version-requires c = grind (arith, common_steps)
