use Rattle.std.proofs.Common.{ℕ, ◌≡◌, ◌∙◌, ◌+◌, ◌-◌, Some, arith, ap, length, sym}
use Rattle.std.specs.List.{slice_get}
use Rattle.std.specs.Option.{option_map}
use Rattle.std.proofs.lemmas.Option.{slice_get_within}
use Rattle.reg_entry.specs.declared.object.Act.{Act}
use Rattle.reg_entry.specs.declared.object.Object.{Object}
use Rattle.reg_entry.specs.Op.{PlainOp}
use Rattle.op_feed.specs.declared.noted.Brief.{Brief}
use Rattle.op_feed.specs.declared.noted.Noted.{Noted}
use Rattle.op_feed.specs.Briefs.{object_of}
use Rattle.op_feed.specs.Window.{PlainOperations}
use Rattle.op_feed.proofs.Briefs.{kept_at, stands_among}
use Rattle.op_feed.proofs.window.OpWindow.at.Goals as goal

abbrev op : ℕ → Act → Object → PlainOp
op serial act object = record { serial = serial; act = act; object = object }

pub returns-in_err-noted : goal.returns-in_err-noted
returns-in_err-noted c =
    let w = c.self.inside in
    c.from_residual.ensures
    ∙ ap (option_map (λ (n : Noted). op (w.serial - length w.noted.items + c.args.place + 1) n.act
    (object_of (w.org_count - length w.orgs.items) w.orgs.items (w.cut_count - length w.cuts.items) w.cuts.items n.brief))) c.in_err-noted.ensures
    ∙ sym (kept_at w.serial w.noted.items w.org_count w.orgs.items w.cut_count w.cuts.items c.args.place)
    ∙ ap (λ (v : PlainOperations). slice_get v.kept c.args.place) c.self.view_is

pub object_of-requires-clause-among : goal.object_of-requires-clause-among
object_of-requires-clause-among c =
    let w = c.self.inside in
    stands_among w.serial w.noted.items c.in_ok-noted.noted.now w.noted.capacity w.org_count w.orgs.items w.orgs.capacity w.cut_count w.cuts.items w.cuts.capacity
    c.self.invariant c.args.place c.in_ok-noted.noted.now (sym c.in_ok-noted.ensures)

pub returns : goal.returns
returns c =
    let w = c.self.inside in
    let object : Brief → Object = object_of (w.org_count - length w.orgs.items) w.orgs.items (w.cut_count - length w.cuts.items) w.cuts.items in
    let most = slice_get_within w.noted.items c.args.place c.in_ok-noted.noted.now (sym c.in_ok-noted.ensures) in
    let serial : w.serial - (c.len.result - c.args.place - 1) ≡ w.serial - length w.noted.items + c.args.place + 1 =
    omega (arith, most, c.self.invariant.few, c.len.ensures.len) in
    ap (λ n. Some (op n c.in_ok-noted.noted.now.act c.object_of.result)) serial
    ∙ ap (λ o. Some (op (w.serial - length w.noted.items + c.args.place + 1) c.in_ok-noted.noted.now.act o)) c.object_of.ensures
    ∙ ap (option_map (λ (n : Noted). op (w.serial - length w.noted.items + c.args.place + 1) n.act (object n.brief))) c.in_ok-noted.ensures
    ∙ sym (kept_at w.serial w.noted.items w.org_count w.orgs.items w.cut_count w.cuts.items c.args.place)
    ∙ ap (λ (v : PlainOperations). slice_get v.kept c.args.place) c.self.view_is
