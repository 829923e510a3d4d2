use Rattle.std.proofs.Common.{ℕ, List, Option, ◌++◌, ◌∙◌, take, sym, subst}
use Rattle.std.specs.Io.KnownBytes.{Appends, Consumes}
use Rattle.std.proofs.KnownBytes.{Consumes-trans, Appends-trans}
use Rattle.base_tests.proofs.link_face_tests.links.echo.Goals as goal

-- a read keeps what was written, and a write what was taken and what is left
pub pieces-preserved : goal.pieces-preserved
pieces-preserved g c =
    let before = c.pieces.invariant.moved in
    let piece : List ℕ = take c.in-Ok.count c.read.new.buf in
    let reads = c.read.ensures.keeps in
    let writes = c.write.ensures.keeps in
    record {
      moved = (
        before.0 ++ piece,
        subst (λ (l : Option (List ℕ)). Consumes (g.L.Source.left c.args.link.now) l (before.0 ++ piece))
            (sym (g.met.L.Link.writes_keep_left _ _ writes)) (Consumes-trans _ _ _ _ _ before.1 c.in-Ok.ensures.left.0),
        subst (λ (l : Option (List ℕ)). Appends (g.L.Source.taken c.args.link.now) l (before.0 ++ piece))
            (sym (g.met.L.Link.writes_keep_taken _ _ writes)) (Appends-trans _ _ _ _ _ before.2 c.in-Ok.ensures.taken),
        Appends-trans _ _ _ _ _
            (subst (λ (l : Option (List ℕ)). Appends (g.L.Sink.written c.args.link.now) l before.0)
            (sym (g.met.L.Link.reads_keep_written _ _ reads)) before.3)
            c.in_ok-write-in-Ok.ensures.ok,
      );
      faults = sym (g.met.L.Link.one_count c.write.new.self) ∙ c.in_ok-write-in-Ok.ensures.cause.same ∙ g.met.L.Link.one_count c.read.new.self
          ∙ c.in-Ok.ensures.cause.same ∙ c.pieces.invariant.faults;
    }
