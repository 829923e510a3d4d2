-- the conversation, of which the end of the input is told by what the link has left
use Rattle.door_face.specs.Doors.{link_record}
use Rattle.serve_run.proofs.Ends.{conversation_by}
use Rattle.serve_run.proofs.http_service.HttpServiceService.serve.Goals as goal

pub returns-clause-served : goal.returns-clause-served
returns-clause-served g c =
    let said = c.serve_conn.ensures in (
      link_record (g.L.Source.taken c.args.link.now) (g.L.Source.left c.args.link.now) (g.L.Sink.written c.args.link.now) (g.L.Source.faults c.args.link.now),
      c.serve_conn.result,
      record {
        fresh = c.requires.fresh;
        conversation = conversation_by _ _ _ _ _ _ _ _ (g.met.L.Source.nothing_left c.serve_conn.new.link) said.conversation;
        outcomes = said.ends;
        counted = record { fault = said.fault; closed = said.told };
        more = record { book_is = said.same.0; rooms_are = said.same.1; seen = said.seen; legal = said.legal };
      },
    )
