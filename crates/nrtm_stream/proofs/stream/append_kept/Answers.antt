use Rattle.std.proofs.Common.{◌+◌, ◌++◌, sym, ap, ◌∙◌, append_assoc}
use Rattle.std.specs.List.{flat_map}
use Rattle.reg_entry.specs.Operations.{PlainBoard}
use Rattle.op_feed.specs.ReachedBoard.{first_kept}
use Rattle.nrtm_stream.specs.Stream.{operation_text}
use Rattle.nrtm_stream.specs.Answer.{operations_between}
use Rattle.nrtm_stream.proofs.Kept.{found, missing, found_dates}
use Rattle.nrtm_stream.proofs.stream.append_kept.Goals as goal

pub returns-in_default : goal.returns-in_default
returns-in_default c =
    let b : PlainBoard = c.args.board.now in
    ap (λ ops. c.args.body.now ++ flat_map (operation_text c.args.source.now) ops) (sym (missing c.args.serial c.args.last b.kept (sym c.in_default.ensures.found)))

pub append_operation-requires : goal.append_operation-requires
append_operation-requires c =
    let b : PlainBoard = c.args.board.now in
    let whole = c.keeps_operations.ensures.whole in
    found_dates b.register _ b.kept c.in-Some.op whole.register.days.1 whole.ops (sym c.in-Some.ensures.found)

pub returns : goal.returns
returns c =
    let b : PlainBoard = c.args.board.now in
    let text = operation_text c.args.source.now in
    let rest = operations_between b (c.args.serial + 1) c.args.last in
    let is = found c.args.serial c.args.last (first_kept b) b.kept c.in-Some.op c.requires
    (c.reached_boards_number_operations.ensures.serials b c.keeps_operations.ensures.reached) (sym c.in-Some.ensures.found) in
    ap (λ t. t ++ flat_map text rest) c.in_ok-append_operation.ensures
    ∙ append_assoc c.args.body.now (text c.in-Some.op) (flat_map text rest)
    ∙ ap (λ ops. c.args.body.now ++ flat_map text ops) (sym is)
