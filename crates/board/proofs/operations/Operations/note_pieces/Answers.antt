use Rattle.reg_entry.specs.Objects.{blocks_of}
use Rattle.op_feed.specs.PieceChanges.{pieces_gone, pieces_come}
use Rattle.op_feed.specs.EntryChanges.{dels, adds}
use Rattle.board.proofs.Noting.{noted_in_two, fits_first, fits_behind}
use Rattle.board.proofs.operations.Operations.note_pieces.Goals as goal

pub note_gone-requires-clause-room : goal.note_gone-requires-clause-room
note_gone-requires-clause-room c =
    let hs = c.args.holders.now.holders in
    let b = c.args.touched.now.before.items in
    let a = c.args.touched.now.after.items in
    fits_first c.args.self.now.serial (dels (blocks_of hs (pieces_gone b a))) (adds (blocks_of hs (pieces_come b a))) _ c.requires.room

pub note_come-requires-clause-room : goal.note_come-requires-clause-room
note_come-requires-clause-room c =
    let hs = c.args.holders.now.holders in
    let b = c.args.touched.now.before.items in
    let a = c.args.touched.now.after.items in
    fits_behind c.args.self.now c.note_gone.new.self (dels (blocks_of hs (pieces_gone b a))) (adds (blocks_of hs (pieces_come b a))) _ c.note_gone.ensures c.requires.room

pub returns : goal.returns
returns c =
    let hs = c.args.holders.now.holders in
    let b = c.args.touched.now.before.items in
    let a = c.args.touched.now.after.items in
    noted_in_two c.args.self.now c.note_gone.new.self c.note_come.new.self (dels (blocks_of hs (pieces_gone b a))) (adds (blocks_of hs (pieces_come b a)))
    c.note_gone.ensures c.note_come.ensures
