use Rattle.std.proofs.Common.{◌≡◌, ◌+◌, ◌++◌, ◌∷◌, ℕ, List, Option, ap, length, arith, length-append, ◌∙◌}
use Rattle.std.specs.Io.KnownBytes.{append_known}
use Rattle.registry_main.proofs.Written.{piece_goes_on, piece_breaks, piece_held, OnErr_always}
use Rattle.registry_main.specs.Batch.{with_replies}
use Rattle.registry_main.proofs.batch.answer_lines.Goals as goal

-- a line end less is left of the piece
shorter : (front behind rest : List ℕ) → rest ≡ front ++ 10 ∷ behind → length rest ≡ length front + length behind + 1
shorter front behind rest e = omega (arith, ap length e, length-append front (10 ∷ behind))

pub returns-in_err-end_line-clause-err : goal.returns-in_err-end_line-clause-err
returns-in_err-end_line-clause-err g c =
    let whole : List ℕ → Option (List ℕ) =
    λ tail. with_replies (append_known (g.K.Sink.written c.args.out.now) c.args.held.now.items) c.args.session.now (c.args.line.now ++ (c.args.piece.now ++ tail)) in
    OnErr_always _ (piece_breaks whole _ _ _ c.lines.line c.in-Some.front.now c.in-Some.behind.now c.lines.rest.now c.extend.new.self
    c.lines.invariant.kept c.extend.ensures.answered c.in-Some.ensures.1 c.in_err-end_line.ensures.err)

pub lines-preserved : goal.lines-preserved
lines-preserved g c =
    let whole : List ℕ → Option (List ℕ) =
    λ tail. with_replies (append_known (g.K.Sink.written c.args.out.now) c.args.held.now.items) c.args.session.now (c.args.line.now ++ (c.args.piece.now ++ tail)) in
    let less = shorter c.in-Some.front.now c.in-Some.behind.now c.lines.rest.now c.in-Some.ensures.1 in
    record {
      faults = c.in_ok-end_line.ensures.cause.same ∙ c.lines.invariant.faults;
      kept = piece_goes_on whole _ _ _ _ c.lines.line c.in-Some.front.now c.in-Some.behind.now c.lines.rest.now c.extend.new.self c.end_line.new.line
          c.lines.invariant.kept c.extend.ensures.answered c.in-Some.ensures.1 c.in_ok-end_line.ensures.ok c.in_ok-end_line.ensures.empty;
    }

pub returns-clause-ok : goal.returns-clause-ok
returns-clause-ok g c =
    let whole : List ℕ → Option (List ℕ) =
    λ tail. with_replies (append_known (g.K.Sink.written c.args.out.now) c.args.held.now.items) c.args.session.now (c.args.line.now ++ (c.args.piece.now ++ tail)) in
    piece_held whole _ _ c.lines.line c.lines.rest.now c.extend-2.new.self c.lines.invariant.kept c.extend-2.ensures.answered
