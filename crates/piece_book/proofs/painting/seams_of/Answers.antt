use Rattle.std.proofs.Common.{◌≡◌, ◌+◌, ◌≤◌, Option, Some, sym, ◌∙◌, ap, subst}
use Rattle.num_range.specs.declared.space.Space.{Space}
use Rattle.reg_entry.specs.declared.piece.Piece.{Piece}
use Rattle.reg_entry.specs.Pieces.{ArePieces}
use Rattle.piece_book.specs.GivesWay.{rest_below, new_first, rest_above, new_last}
use Rattle.piece_book.proofs.Painted.{first_near, last_near, last_space}
use Rattle.piece_book.proofs.painting.seams_of.Goals as goal

pub low_end-requires : goal.low_end-requires
low_end-requires c =
    let near : (p : Piece) → c.giving_way-run.result.first ≡ Some p → c.args.range.now.first ≤ p.range.last + 1 =
    λ p e. first_near c.args.range.now c.args.status c.args.book.now.pieces p (sym c.giving_way-run.ensures.run.first_is ∙ e) in
    record { near = near }

pub high_end-requires-clause-near : goal.high_end-requires-clause-near
high_end-requires-clause-near c = λ p e. last_near c.args.range.now c.args.status c.args.book.now.pieces p (sym c.giving_way-run.ensures.run.last_is ∙ e)

pub high_end-requires-clause-space : goal.high_end-requires-clause-space
high_end-requires-clause-space c =
    λ p e.
    last_space c.args.book.now.space c.args.range.now c.args.status c.args.book.now.pieces p c.giving_way-run.ensures.pieces.each (sym c.giving_way-run.ensures.run.last_is ∙ e)
    ∙ c.requires

pub returns-clause-seams : goal.returns-clause-seams
returns-clause-seams c =
    let r = c.args.range.now in
    let s = c.args.status in
    let run = c.giving_way-run.ensures.run in
    record {
      low_is = c.low_end.ensures.rest ∙ ap (λ (o : Option Piece). rest_below r s o) run.first_is;
      first_is = c.low_end.ensures.value ∙ ap (λ (o : Option Piece). new_first r s o) run.first_is;
      high_is = c.high_end.ensures.rest ∙ ap (λ (o : Option Piece). rest_above r s o) run.last_is;
      last_is = c.high_end.ensures.value ∙ ap (λ (o : Option Piece). new_last r s o) run.last_is;
      count_is = run.count_is;
      few_is = run.few_is;
    }

pub returns-clause-pieces : goal.returns-clause-pieces
returns-clause-pieces c = subst (λ (x : Space). ArePieces x c.args.book.now.pieces) c.requires c.giving_way-run.ensures.pieces
