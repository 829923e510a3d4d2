use Rattle.std.proofs.Common.{◌∙◌, arith}
use Rattle.registry_main.proofs.FirstLine.{with_front_of}
use Rattle.registry_main.proofs.line_buffer.keep_front.Goals as goal

pub returns : goal.returns
returns c =
    let added = rw c.unwrap.ensures at c.try_extend_from_slice.ensures.ok in
    added ∙ with_front_of c.args.line.now.items c.args.bytes.now c.remaining_capacity.result c.min-count.result 1026 (omega arith) c.min-count.ensures
