use Rattle.mirror_core.proofs.Feeding.{line_more, line_last, line_stops}
use Rattle.mirror_core.proofs.mirror.Mirror.feed_lines.Goals as goal

pub returns-in-Err : goal.returns-in-Err
returns-in-Err c =
    line_stops c.args.self.now c.lines.self c.end_line.new.self c.pass.new.self c.args.bytes.now c.lines.left.now c.in-Some.piece.now c.in-Some.rest.now c.in-Err.fault
    c.lines.invariant c.in-Some.ensures.parts c.in-Err.ensures c.pass.ensures.sound c.pass.ensures.passed

pub lines-preserved : goal.lines-preserved
lines-preserved c =
    line_more c.args.self.now c.lines.self c.end_line.new.self c.args.bytes.now c.lines.left.now c.in-Some.piece.now c.in-Some.rest.now
    c.lines.invariant c.in-Some.ensures.parts c.in_default-end_line.ensures

pub returns : goal.returns
returns c = line_last c.args.self.now c.lines.self c.go_on.new.self c.args.bytes.now c.lines.left.now c.go_on.result c.lines.invariant c.go_on.ensures
