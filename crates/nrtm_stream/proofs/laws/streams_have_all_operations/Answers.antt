use Rattle.std.proofs.Common.{sym, ap, ◌∙◌}
use Rattle.reg_entry.specs.Operations.{PlainBoard, operations_of}
use Rattle.nrtm_stream.proofs.Streams.{streamed}
use Rattle.nrtm_stream.proofs.laws.streams_have_all_operations.Goals as goal

pub returns : goal.returns
returns c =
    λ b es first last h kept.
    let rooms = b.register.rooms in
    streamed b (operations_of rooms es) rooms.window first last
    (sym (ap (λ (x : PlainBoard). x.serial) h.same) ∙ c.boards_keep_last_operations.ensures.serial rooms es)
    (sym (ap (λ (x : PlainBoard). x.kept) h.same) ∙ c.boards_keep_last_operations.ensures.kept rooms es)
    (c.reached_boards_number_operations.ensures.serials b (es, h)) kept
