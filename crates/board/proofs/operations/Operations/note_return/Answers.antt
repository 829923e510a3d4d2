use Rattle.std.specs.List.{flat_map}
use Rattle.reg_entry.specs.Objects.{blocks_of, cuts_of}
use Rattle.reg_entry.specs.Ranges.{ranges_inside}
use Rattle.op_feed.specs.PieceChanges.{pieces_gone, pieces_come}
use Rattle.op_feed.specs.EntryChanges.{dels, adds}
use Rattle.board.proofs.Noting.{noted_in_three, fits_first, fits_second, fits_third}
use Rattle.board.proofs.operations.Operations.note_return.Goals as goal

pub note_gone-requires-clause-room : goal.note_gone-requires-clause-room
note_gone-requires-clause-room c =
    let hs = c.args.holders.now.holders in
    let b = c.args.touched.now.before.items in
    let a = c.args.touched.now.after.items in
    fits_first c.args.self.now.serial (dels (blocks_of hs (pieces_gone b a))) _ _ c.requires.room

pub note_dropped-requires : goal.note_dropped-requires
note_dropped-requires c =
    let hs = c.args.holders.now.holders in
    let b = c.args.touched.now.before.items in
    let a = c.args.touched.now.after.items in
    fits_second c.args.self.now c.note_gone.new.self (dels (blocks_of hs (pieces_gone b a))) (flat_map cuts_of (ranges_inside c.args.reverse.now.ranges c.args.range.now)) (adds (blocks_of hs (pieces_come b a))) _
    c.note_gone.ensures c.requires.room

pub note_come-requires-clause-room : goal.note_come-requires-clause-room
note_come-requires-clause-room c =
    let hs = c.args.holders.now.holders in
    let b = c.args.touched.now.before.items in
    let a = c.args.touched.now.after.items in
    fits_third c.args.self.now c.note_gone.new.self c.note_dropped.new.self (dels (blocks_of hs (pieces_gone b a))) (dels (flat_map cuts_of (ranges_inside c.args.reverse.now.ranges c.args.range.now))) (adds (blocks_of hs (pieces_come b a))) _
    c.note_gone.ensures c.note_dropped.ensures c.requires.room

pub returns : goal.returns
returns c =
    let hs = c.args.holders.now.holders in
    let b = c.args.touched.now.before.items in
    let a = c.args.touched.now.after.items in
    noted_in_three c.args.self.now c.note_gone.new.self c.note_dropped.new.self c.note_come.new.self (dels (blocks_of hs (pieces_gone b a)))
    (dels (flat_map cuts_of (ranges_inside c.args.reverse.now.ranges c.args.range.now))) (adds (blocks_of hs (pieces_come b a)))
    c.note_gone.ensures c.note_dropped.ensures c.note_come.ensures
