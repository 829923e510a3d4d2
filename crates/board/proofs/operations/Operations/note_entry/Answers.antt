use Rattle.std.proofs.Common.{◌+◌, ◌<◌, ◌∙◌, List, length, sym, ap, subst, rules}
use Rattle.reg_entry.specs.declared.object.Object.{Object}
use Rattle.reg_entry.specs.declared.object.Act.{Act}
use Rattle.reg_entry.specs.Entry.{PlainEntry}
use Rattle.op_feed.specs.EntryChanges.{entry_changes}
use Rattle.board.specs.Noted.{all_noted}
use Rattle.board.proofs.Noting.{sub_known, only_pieces}
use Rattle.board.proofs.operations.Operations.note_entry.Goals as goal

pub note_sub_gone-requires-clause-known : goal.note_sub_gone-requires-clause-known
note_sub_gone-requires-clause-known c = sub_known _ c.args.subs.now.ranges c.in-SubReturn.range c.exact.result c.requires.subs c.exact.ensures

-- what a request changes that touches pieces alone
pub note_pieces-requires-clause-room : goal.note_pieces-requires-clause-room
note_pieces-requires-clause-room c =
    let hs = c.args.holders.now.holders in
    let b = c.args.touched.now.before.items in
    let a = c.args.touched.now.after.items in
    let d = c.in_default in
    let is = sym (ap (λ (e : PlainEntry). entry_changes hs c.args.subs.now.ranges c.args.reverse.now.ranges e.day b a e.request) c.entry.view_is)
    ∙ only_pieces hs c.args.subs.now.ranges c.args.reverse.now.ranges c.entry.inside.day b a c.entry.inside.request d.not-AddHolder d.not-EditHolder d.not-SubAssign
    d.not-SubReturn d.not-SetReverse d.not-ClearReverse d.not-Return in
    subst (λ (cs : List (Act × Object)). c.args.self.now.serial + length cs < 18446744073709551616) is c.requires.room

pub returns-in_default : goal.returns-in_default
returns-in_default c =
    let hs = c.args.holders.now.holders in
    let b = c.args.touched.now.before.items in
    let a = c.args.touched.now.after.items in
    let d = c.in_default in
    let is = sym (ap (λ (e : PlainEntry). entry_changes hs c.args.subs.now.ranges c.args.reverse.now.ranges e.day b a e.request) c.entry.view_is)
    ∙ only_pieces hs c.args.subs.now.ranges c.args.reverse.now.ranges c.entry.inside.day b a c.entry.inside.request d.not-AddHolder d.not-EditHolder d.not-SubAssign
    d.not-SubReturn d.not-SetReverse d.not-ClearReverse d.not-Return in
    c.note_pieces.ensures ∙ sym (ap (all_noted c.args.self.now) is)

pub returns-in-EditHolder : goal.returns-in-EditHolder
returns-in-EditHolder c = search rules
