use Rattle.std.proofs.Common.{sym, ◌∙◌}
use Rattle.plain_register.proofs.Known.{holder_known}
use Rattle.plain_register.proofs.register.PlainRegister.holder_at.Goals as goal

pub returns-clause-known : goal.returns-clause-known
returns-clause-known c =
    holder_known c.args.self.now c.args.n c.in_ok-piece_of.field-0 c.is_whole.ensures.whole
    (sym c.piece_of.ensures.piece ∙ c.in_ok-piece_of.was)
