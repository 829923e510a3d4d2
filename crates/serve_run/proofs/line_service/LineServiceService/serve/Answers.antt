-- the line and its answer, of which the end of the input is told by what the link has left
use Rattle.door_face.specs.Doors.{link_record}
use Rattle.serve_run.proofs.Ends.{line_by}
use Rattle.serve_run.proofs.line_service.LineServiceService.serve.Goals as goal

pub returns-clause-served : goal.returns-clause-served
returns-clause-served g c =
    let said = c.serve_line.ensures in (
      link_record (g.L.Source.taken c.args.link.now) (g.L.Source.left c.args.link.now) (g.L.Sink.written c.args.link.now) (g.L.Source.faults c.args.link.now),
      c.serve_line.result.0,
      c.serve_line.result.1,
      record {
        fresh = c.requires.fresh;
        line = line_by _ _ _ _ _ _ _ _ _ (g.met.L.Source.nothing_left c.serve_line.new.link) said.line;
        counted = record { fault = said.fault; closed = said.told };
        shut = λ is. (said.shut is).0;
        still_open = said.open;
        more = record { book_is = said.same.0; rooms_are = said.same.1; seen = said.seen; legal = said.legal };
      },
    )
