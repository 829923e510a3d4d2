use Rattle.std.proofs.Common.{ℕ, List, ◌++◌, sym, ◌∙◌, ap, subst}
use Rattle.std.specs.List.{AllByRecursion}
use Rattle.num_range.specs.declared.space.Space.TheVariants.{Asn, Ipv4, Ipv6}
use Rattle.reg_entry.specs.Partition.{Partition, pieces_in}
use Rattle.reg_entry.specs.Register.{Register}
use Rattle.delegated_ext.specs.Writable.{IsWritable}
use Rattle.delegated_ext.proofs.Appended.{register_writable}
use Rattle.delegated_ext.proofs.Whole.{text_in_register, file_of_parts}
use Rattle.delegated_ext.proofs.statistics.write_stats.Goals as goal

pub append_records-requires : goal.append_records-requires
append_records-requires c =
    subst (λ (pool : Partition). AllByRecursion IsWritable (pieces_in pool Asn)) (sym c.pieces-pieces.ensures.pool)
    (register_writable c.args.board.now.register Asn c.is_whole.ensures.whole)

pub append_records-requires-2 : goal.append_records-requires-2
append_records-requires-2 c =
    subst (λ (pool : Partition). AllByRecursion IsWritable (pieces_in pool Ipv4)) (sym c.pieces-pieces.ensures.pool)
    (register_writable c.args.board.now.register Ipv4 c.is_whole.ensures.whole)

pub append_records-requires-3 : goal.append_records-requires-3
append_records-requires-3 c =
    subst (λ (pool : Partition). AllByRecursion IsWritable (pieces_in pool Ipv6)) (sym c.pieces-pieces.ensures.pool)
    (register_writable c.args.board.now.register Ipv6 c.is_whole.ensures.whole)

pub returns : goal.returns
returns c =
    let registry : List ℕ = c.args.registry.now in
    let r : Register = c.args.board.now.register in
    let text = text_in_register registry r c.holders-holders.result.now.holders c.pieces-pieces.result.now.partition in
    let holders = c.holders-holders.ensures.holders in
    let pool = c.pieces-pieces.ensures.pool in
    file_of_parts registry r c.new-body.result c.append_head.new.body c.append_records.new.body c.append_records-2.new.body c.append_records-3.new.body
    c.new-body.ensures
    c.in_ok-append_head.ensures
    (c.in_ok-append_records.ensures ∙ ap (λ t. c.append_head.new.body ++ t) (text Asn holders pool))
    (c.in_ok-append_records-2.ensures ∙ ap (λ t. c.append_records.new.body ++ t) (text Ipv4 holders pool))
    (c.in_ok-append_records-3.ensures ∙ ap (λ t. c.append_records-2.new.body ++ t) (text Ipv6 holders pool))
