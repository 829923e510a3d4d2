use Rattle.std.proofs.Common.{◌++◌}
use Rattle.registry_main.proofs.Applied.{piece_leads_on, piece_leads_to}
use Rattle.registry_main.proofs.apply.apply_lines.Goals as goal

pub lines-preserved : goal.lines-preserved
lines-preserved c =
    piece_leads_on c.args.session.now c.lines.session c.end_line.new.session c.lines.line c.in-Some.front.now c.in-Some.behind.now c.lines.rest.now
    c.extend.new.self c.end_line.new.line (λ tail. c.args.line.now ++ (c.args.piece.now ++ tail))
    c.lines.invariant c.extend.ensures.leads c.in-Some.ensures.1 c.end_line.ensures.session c.end_line.ensures.empty

pub returns-clause-session : goal.returns-clause-session
returns-clause-session c =
    piece_leads_to c.args.session.now c.lines.session c.lines.line c.lines.rest.now c.extend-2.new.self
    (λ tail. c.args.line.now ++ (c.args.piece.now ++ tail)) c.lines.invariant c.extend-2.ensures.leads
