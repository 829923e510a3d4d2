use Rattle.std.proofs.Common.{sym, subst}
use Rattle.reg_entry.specs.Partition.{IsPartition}
use Rattle.reg_entry.specs.Register.{Register}
use Rattle.registry_main.specs.Session.{rooms, entries_after, register_over}
use Rattle.registry_main.proofs.laws.answers_are_least.Goals as goal

pub returns-clause-blocks : goal.returns-clause-blocks
returns-clause-blocks c es p day lines space size policy legal pos =
    let after = c.accepted_entries_are_legal.ensures in
    let whole = c.legal_entries_are_whole.ensures rooms (entries_after es p day lines) (after.legal es p day lines policy legal) in
    let pieces : IsPartition (register_over es p day lines).pool =
    subst (λ (r : Register). IsPartition r.pool) (sym (after.register es p day lines)) whole.pieces in
    c.block_is_least.ensures space _ size (pieces.each space) pos

pub returns-clause-overlaps : goal.returns-clause-overlaps
returns-clause-overlaps c es p day lines range policy legal valid =
    let after = c.accepted_entries_are_legal.ensures in
    let whole = c.legal_entries_are_whole.ensures rooms (entries_after es p day lines) (after.legal es p day lines policy legal) in
    let pieces : IsPartition (register_over es p day lines).pool =
    subst (λ (r : Register). IsPartition r.pool) (sym (after.register es p day lines)) whole.pieces in
    c.overlap_is_least.ensures range.space _ range (pieces.each range.space) valid
