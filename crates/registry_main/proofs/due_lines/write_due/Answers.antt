use Rattle.std.proofs.Common.{ℕ, List, length, subst, ap, codes, decimal, ◌++◌, ◌∙◌, ◌≡◌}
use Rattle.std.specs.Io.KnownBytes.{append_known, Appends}
use Rattle.reg_entry.specs.declared.piece.Piece.{Piece}
use Rattle.quarantine.specs.Due.{due_pieces}
use Rattle.std.proofs.KnownBytes.{Keeps-trans, append_known-moved}
use Rattle.desk_text.specs.ReplyText.{spaced_range}
use Rattle.desk_text.specs.DueText.{due_count_text, due_text, piece_lines}
use Rattle.registry_main.specs.Batch.{IsFrontWritten}
use Rattle.registry_main.proofs.Written.{front_more, BeginsWith_kept, OnErr_always}
use Rattle.registry_main.proofs.due_lines.write_due.Goals as goal

pub returns-in_err-write_count-clause-err : goal.returns-in_err-write_count-clause-err
returns-in_err-write_count-clause-err g c =
    let head : List ℕ = codes "due " ++ decimal (length (due_pieces c.args.pieces.now.partition c.args.day)) ++ codes "\n" in
    let before = append_known (g.K.Sink.written c.args.out.now) c.args.held.now.items in
    let failed : IsFrontWritten before head (g.K.Sink.written c.write_count.new.out) =
    subst (λ (n : ℕ). IsFrontWritten before (codes "due " ++ decimal n ++ codes "\n") (g.K.Sink.written c.write_count.new.out))
    c.due_count.ensures c.in_err-write_count.ensures.err in
    OnErr_always _ (front_more _ _ head _ failed)

pub loop-piece-init : goal.loop-piece-init
loop-piece-init g c =
    let pieces : List Piece = due_pieces c.args.pieces.now.partition c.args.day in
    let head : List ℕ = due_count_text (length pieces) ++ codes "\n" in
    let before = append_known (g.K.Sink.written c.args.out.now) c.args.held.now.items in
    let after = append_known (g.K.Sink.written c.write_count.new.out) c.write_count.new.held.items in
    let counted : Appends before after head =
    subst (λ (n : ℕ). Appends before after (due_count_text n ++ codes "\n"))
    c.due_count.ensures c.in_ok-write_count.ensures.ok in
    let same : pieces ≡ c.into_iter-piece-iterator.result = cc in
    record {
      next = tt;
      finite = tt;
      faults = c.in_ok-write_count.ensures.cause.same;
      kept = append_known-moved _ _ head (piece_lines c.into_iter-piece-iterator.result) (due_text pieces) counted
          (ap (λ (ps : List Piece). head ++ piece_lines ps) same);
    }

pub loop-piece-preserved : goal.loop-piece-preserved
loop-piece-preserved g c = record {
  next = tt;
  finite = tt;
  faults = c.in_ok-write_piece_range.ensures.cause.same ∙ c.loop-piece.invariant.faults;
  kept = Keeps-trans _ _ _ c.loop-piece.invariant.kept
      (append_known-moved _ _ (spaced_range c.in-Some.piece.range ++ codes "\n") (piece_lines c.next.new.self) _
      c.in_ok-write_piece_range.ensures.ok (ap piece_lines c.in-Some.ensures.steps));
}

pub returns-in_err-write_piece_range-clause-err : goal.returns-in_err-write_piece_range-clause-err
returns-in_err-write_piece_range-clause-err g c =
    OnErr_always _ (BeginsWith_kept _ _ _ c.loop-piece.invariant.kept
    (rw c.in-Some.ensures.steps (front_more _ _ _ _ c.in_err-write_piece_range.ensures.err)))
