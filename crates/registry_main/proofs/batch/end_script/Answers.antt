use Rattle.std.proofs.Common.{◌≡◌, ◌<◌, ℕ, List, Option, length, arith}
use Rattle.std.proofs.lemmas.Bool.Decides.{nat_tests}
use Rattle.std.specs.Io.KnownBytes.{append_known, Appends, Keeps}
use Rattle.registry_main.specs.Session.{replies_to}
use Rattle.registry_main.specs.Batch.{with_replies, BeginsWith, IsFrontWritten}
use Rattle.registry_main.proofs.Written.{before_broken, last_answered, last_broken, last_held_broken, last_written, OnErr_always, OnErr_map, OnOk_map}
use Rattle.registry_main.proofs.batch.end_script.Goals as goal

pub returns-in_err-answer_line-clause-err : goal.returns-in_err-answer_line-clause-err
returns-in_err-answer_line-clause-err g c =
    let same : c.bytes-text.result.now ≡ c.args.line.now = c.bytes-text.ensures.bytes in
    let some : 0 < length c.bytes-text.result.now = grind (arith, nat_tests) in
    let old : Option (List ℕ) = g.K.Sink.written c.args.out.now in
    let broken : BeginsWith (with_replies old c.args.session.now c.bytes-text.result.now) (g.K.Sink.written c.answer_line.new.out) =
    before_broken old _ c.new-held.result.items (replies_to c.args.session.now c.bytes-text.result.now) c.new-held.ensures
    (last_broken _ _ _ c.bytes-text.result.now (rw same c.bytes-text.ensures.line) some c.in_err-answer_line.ensures.err) in
    rw (← same) (OnErr_always _ broken)

pub returns-clause-ok : goal.returns-clause-ok
returns-clause-ok g c =
    let same : c.bytes-text.result.now ≡ c.args.line.now = c.bytes-text.ensures.bytes in
    let some : 0 < length c.bytes-text.result.now = grind (arith, nat_tests) in
    let old : Option (List ℕ) = g.K.Sink.written c.args.out.now in
    let before : Option (List ℕ) = g.K.Sink.written c.answer_line.new.out in
    let after : Option (List ℕ) = g.K.Sink.written c.write_held.new.out in
    let held : List ℕ = c.answer_line.new.held.items in
    let answered : Keeps (with_replies (append_known old c.new-held.result.items) c.args.session.now c.bytes-text.result.now) (append_known before held) =
    last_answered _ _ c.args.session.now c.bytes-text.result.now (rw same c.bytes-text.ensures.line) some c.in_ok-answer_line.ensures.ok in
    let step : Appends before after held → Keeps (with_replies old c.args.session.now c.bytes-text.result.now) after =
    last_written old before after c.new-held.result.items held (replies_to c.args.session.now c.bytes-text.result.now) c.new-held.ensures answered in
    rw (← same) (OnOk_map _ step c.write_held.ensures.ok)

pub returns-clause-err : goal.returns-clause-err
returns-clause-err g c =
    let same : c.bytes-text.result.now ≡ c.args.line.now = c.bytes-text.ensures.bytes in
    let some : 0 < length c.bytes-text.result.now = grind (arith, nat_tests) in
    let old : Option (List ℕ) = g.K.Sink.written c.args.out.now in
    let before : Option (List ℕ) = g.K.Sink.written c.answer_line.new.out in
    let after : Option (List ℕ) = g.K.Sink.written c.write_held.new.out in
    let held : List ℕ = c.answer_line.new.held.items in
    let answered : Keeps (with_replies (append_known old c.new-held.result.items) c.args.session.now c.bytes-text.result.now) (append_known before held) =
    last_answered _ _ c.args.session.now c.bytes-text.result.now (rw same c.bytes-text.ensures.line) some c.in_ok-answer_line.ensures.ok in
    let step : IsFrontWritten before held after → BeginsWith (with_replies old c.args.session.now c.bytes-text.result.now) after =
    last_held_broken old before after c.new-held.result.items held (replies_to c.args.session.now c.bytes-text.result.now) c.new-held.ensures answered in
    rw (← same) (OnErr_map _ step c.write_held.ensures.err)
