use Rattle.std.proofs.Common.{◌≡◌, ◌∙◌, refl, List, [], ◌∷◌, ◌++◌, rules}
use Rattle.door_face.specs.Doors.{LinkRecord}
use Rattle.serve_run.proofs.Chains.{none_done, one_given, one_more, given_back}
use Rattle.serve_run.proofs.along.serve_way.Goals as goal

pub loop-init : goal.loop-init
loop-init g c = record {
  next = (tt, tt);
  done = ([], none_done _ _ _ _);
  same = λ before end after serves. serves;
  lent = refl;
  faults = refl;
  door = refl;
  port = refl;
}

pub loop-preserved : goal.loop-preserved
loop-preserved g c =
    let before = c.loop.invariant.done in
    let accepted = c.in-Ok-Some.ensures in
    let back = c.done.ensures in
    let given = c.in-Ok-Some.field-0-is in
    record {
      next = (tt, tt);
      done = (
        before.0 ++ _ ∷ [],
        one_more _ _ _ _ _ _ _ _ _ _ _ _ _ _ before.0 _ before.1 (c.loop.invariant.same _ _ _ c.serve.ensures.served) accepted.returned back.returned
            (one_given _ _ _ _ given accepted.links_left) back.links_left c.saturating_add-connections.ensures,
      );
      same = λ before end after serves. c.loop.invariant.same before end after (c.serve.ensures.same before end after serves);
      lent = given_back _ _ _ (one_given _ _ _ _ given accepted.lent) back.lent ∙ c.loop.invariant.lent;
      faults = back.faults ∙ accepted.cause.same ∙ c.loop.invariant.faults;
      door = back.place.0 ∙ accepted.place.0 ∙ c.loop.invariant.door;
      port = back.place.1 ∙ accepted.place.1 ∙ c.loop.invariant.port;
    }

pub returns-in-Err : goal.returns-in-Err
returns-in-Err g c = search rules
