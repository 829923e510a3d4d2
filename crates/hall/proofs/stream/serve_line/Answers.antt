use Rattle.std.proofs.Common.{◌≡◌, ◌∙◌, ℕ, List, Ok, Err, refl, sym, ap, subst, arith}
use Rattle.std.specs.Io.KnownBytes.{Appends, Consumes}
use Rattle.std.proofs.lemmas.Grind.{common_steps}
use Rattle.hall.specs.Stream.{asked_in, HasTold}
use Rattle.reg_entry.specs.Operations.{board_after}
use Rattle.hall.proofs.Lines.{asks_as, body_is, fault_told, stream_told}
use Rattle.hall.proofs.stream.serve_line.Goals as goal

pub returns-in-Err-clause-line : goal.returns-in-Err-clause-line
returns-in-Err-clause-line g c = (
  c.receive_line.new.bytes.items,
  record {
    taken = c.receive_line.ensures.taken;
    left = c.receive_line.ensures.left;
    short = c.receive_line.ensures.short;
    ends = record { unseen = refl; number_is = refl; silent = c.receive_line.ensures.written };
  },
)

pub returns-in-Err-read_asked-clause-line : goal.returns-in-Err-read_asked-clause-line
returns-in-Err-read_asked-clause-line g c =
    let came : List ℕ = c.receive_line.new.bytes.items in
    let asks : asked_in c.args.registry.now came ≡ Err c.in-Err-read_asked.fault =
    asks_as c.args.registry.now came c.as_slice.result.now c.read_asked.result (Err c.in-Err-read_asked.fault) c.read_asked.ensures
    c.as_slice.ensures.value c.in-Err-read_asked.is in (
      came,
      record {
        taken = subst (λ t. Appends (g.L.Source.taken c.args.link.now) t came) (sym c.tell.ensures.taken) c.receive_line.ensures.taken;
        left = subst (λ l. Consumes (g.L.Source.left c.args.link.now) l came) (sym c.tell.ensures.left) c.receive_line.ensures.left;
        short = c.receive_line.ensures.short;
        ends = fault_told c.args.registry.now c.args.pass.now (g.L.Sink.written c.args.link.now) (g.L.Sink.written c.tell.new.link) c.tell.result
            (g.L.Source.has_ended c.receive_line.new.link) (g.L.Source.has_ended c.tell.new.link) came c.error_line.result.now c.in-Err-read_asked.fault
            c.tell.ensures.end c.in-Ok.ensures.settled asks c.error_line.ensures
            (subst (λ w. HasTold c.tell.result w c.error_line.result.now (g.L.Sink.written c.tell.new.link)) c.receive_line.ensures.written
            c.tell.ensures.told);
      },
    )

pub returns-in-Ok-look-clause-line : goal.returns-in-Ok-look-clause-line
returns-in-Ok-look-clause-line g c =
    let came : List ℕ = c.receive_line.new.bytes.items in
    let tell = c.tell-in-Ok-look in
    let asks : asked_in c.args.registry.now came ≡ Ok c.in-Ok-read_asked.ask =
    asks_as c.args.registry.now came c.as_slice.result.now c.read_asked.result (Ok c.in-Ok-read_asked.ask) c.read_asked.ensures
    c.as_slice.ensures.value c.in-Ok-read_asked.is in (
      came,
      record {
        taken = subst (λ t. Appends (g.L.Source.taken c.args.link.now) t came) (sym tell.ensures.taken) c.receive_line.ensures.taken;
        left = subst (λ l. Consumes (g.L.Source.left c.args.link.now) l came) (sym tell.ensures.left) c.receive_line.ensures.left;
        short = c.receive_line.ensures.short;
        ends = stream_told c.args.registry.now c.args.pass.now c.look.new.self (g.L.Sink.written c.args.link.now) (g.L.Sink.written tell.new.link)
            tell.result c.in-Ok-look.answer.entries (g.L.Source.has_ended c.receive_line.new.link) (g.L.Source.has_ended tell.new.link) came
            c.bytes.result.now c.in-Ok-read_asked.ask tell.ensures.end c.in-Ok.ensures.settled asks c.in-Ok-look.ensures.entries
            (body_is (board_after c.look.new.self.rooms c.look.new.self.entries) c.in-Ok-read_asked.ask c.args.registry.now c.bytes.result.now
            c.in-Ok-look.answer c.bytes.ensures c.in-Ok-look.ensures.answer)
            (subst (λ w. HasTold tell.result w c.bytes.result.now (g.L.Sink.written tell.new.link)) c.receive_line.ensures.written tell.ensures.told);
      },
    )

pub returns-in-Err-clause-told : goal.returns-in-Err-clause-told
returns-in-Err-clause-told g c = grind (arith, common_steps)

pub returns-in-Err-read_asked-clause-told : goal.returns-in-Err-read_asked-clause-told
returns-in-Err-read_asked-clause-told g c = grind (arith, common_steps)

pub returns-in-Err-Shut-clause-told : goal.returns-in-Err-Shut-clause-told
returns-in-Err-Shut-clause-told g c = grind (arith, common_steps)

pub returns-in-Err-Shut-clause-shut : goal.returns-in-Err-Shut-clause-shut
returns-in-Err-Shut-clause-shut g c = grind (arith, common_steps)

pub returns-in-Err-Shut-clause-open : goal.returns-in-Err-Shut-clause-open
returns-in-Err-Shut-clause-open g c = grind (arith, common_steps)

pub returns-in-Err-NoMemory-clause-told : goal.returns-in-Err-NoMemory-clause-told
returns-in-Err-NoMemory-clause-told g c = grind (arith, common_steps)

pub returns-in-Err-NoMemory-clause-shut : goal.returns-in-Err-NoMemory-clause-shut
returns-in-Err-NoMemory-clause-shut g c = grind (arith, common_steps)

pub returns-in-Err-NoMemory-clause-open : goal.returns-in-Err-NoMemory-clause-open
returns-in-Err-NoMemory-clause-open g c = grind (arith, common_steps)

pub returns-in-Ok-look-clause-told : goal.returns-in-Ok-look-clause-told
returns-in-Ok-look-clause-told g c = grind (arith, common_steps)

pub returns-in-Ok-look-clause-shut : goal.returns-in-Ok-look-clause-shut
returns-in-Ok-look-clause-shut g c = grind (arith, common_steps)

pub returns-in-Ok-look-clause-open : goal.returns-in-Ok-look-clause-open
returns-in-Ok-look-clause-open g c = grind (arith, common_steps)
