use Rattle.std.proofs.Common.{ℕ, List, Option, ◌++◌}
use Rattle.std.specs.Io.KnownBytes.{Appends, Keeps}
use Rattle.registry_main.specs.Session.{replies_to}
use Rattle.registry_main.specs.Batch.{with_replies, BeginsWith, IsFrontWritten}
use Rattle.registry_main.proofs.Written.{all_written, before_broken, held_broken, OnErr_always, OnErr_map, OnOk_map}
use Rattle.registry_main.proofs.batch.answer_piece.Goals as goal

pub returns-in_err-answer_lines-clause-err : goal.returns-in_err-answer_lines-clause-err
returns-in_err-answer_lines-clause-err g c =
    let old : Option (List ℕ) = g.K.Sink.written c.args.out.now in
    let text : List ℕ → List ℕ = λ tail. c.args.line.now ++ (c.args.piece.now ++ tail) in
    let broken : (tail : List ℕ) → BeginsWith (with_replies old c.args.session.now (text tail)) (g.K.Sink.written c.answer_lines.new.out) = λ tail.
    before_broken old _ c.new-held.result.items (replies_to c.args.session.now (text tail)) c.new-held.ensures (c.in_err-answer_lines.ensures.err tail) in
    OnErr_always _ broken

pub returns-clause-ok : goal.returns-clause-ok
returns-clause-ok g c =
    let old : Option (List ℕ) = g.K.Sink.written c.args.out.now in
    let before : Option (List ℕ) = g.K.Sink.written c.answer_lines.new.out in
    let after : Option (List ℕ) = g.K.Sink.written c.write_held.new.out in
    let held : List ℕ = c.answer_lines.new.held.items in
    let text : List ℕ → List ℕ = λ tail. c.args.line.now ++ (c.args.piece.now ++ tail) in
    let rest : List ℕ → List ℕ = λ tail. c.answer_lines.new.line ++ tail in
    let step : Appends before after held → (tail : List ℕ) → Keeps (with_replies old c.args.session.now (text tail)) (with_replies after c.answer_lines.new.session (rest tail)) = λ p tail.
    all_written old before after c.new-held.result.items held (replies_to c.args.session.now (text tail)) (replies_to c.answer_lines.new.session (rest tail))
    c.new-held.ensures (c.in_ok-answer_lines.ensures.ok tail) p in
    OnOk_map _ step c.write_held.ensures.ok

pub returns-clause-err : goal.returns-clause-err
returns-clause-err g c =
    let old : Option (List ℕ) = g.K.Sink.written c.args.out.now in
    let before : Option (List ℕ) = g.K.Sink.written c.answer_lines.new.out in
    let after : Option (List ℕ) = g.K.Sink.written c.write_held.new.out in
    let held : List ℕ = c.answer_lines.new.held.items in
    let text : List ℕ → List ℕ = λ tail. c.args.line.now ++ (c.args.piece.now ++ tail) in
    let rest : List ℕ → List ℕ = λ tail. c.answer_lines.new.line ++ tail in
    let step : IsFrontWritten before held after → (tail : List ℕ) → BeginsWith (with_replies old c.args.session.now (text tail)) after = λ h tail.
    held_broken old before after c.new-held.result.items held (replies_to c.args.session.now (text tail)) (replies_to c.answer_lines.new.session (rest tail))
    c.new-held.ensures (c.in_ok-answer_lines.ensures.ok tail) h in
    OnErr_map _ step c.write_held.ensures.err
