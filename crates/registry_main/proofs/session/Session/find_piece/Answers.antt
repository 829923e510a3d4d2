use Rattle.std.proofs.Common.{◌∙◌, ap}
use Rattle.reg_entry.specs.Register.{piece_of}
use Rattle.registry_main.proofs.Shown.{piece_has_dates, holder_is_there}
use Rattle.registry_main.proofs.session.Session.find_piece.Goals as goal

pub returns-clause-dates : goal.returns-clause-dates
returns-clause-dates c =
    piece_has_dates c.self.inside.board.register c.args.n.now c.piece_at.result c.is_whole.ensures.whole
    (c.piece_at.ensures ∙ ap (λ pool. piece_of pool c.args.n.now) c.pieces.ensures.pool)

pub returns-clause-holder : goal.returns-clause-holder
returns-clause-holder c =
    rw (← c.self.view_is)
    (holder_is_there c.self.inside.board.register c.args.n.now c.piece_at.result c.is_whole.ensures.whole
    (c.piece_at.ensures ∙ ap (λ pool. piece_of pool c.args.n.now) c.pieces.ensures.pool))
