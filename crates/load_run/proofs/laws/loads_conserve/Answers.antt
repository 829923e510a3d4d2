use Rattle.reg_entry.specs.Register.{Register}
use Rattle.load_gen.specs.Load.{loaded}
use Rattle.load_run.proofs.laws.loads_conserve.Goals as goal

pub returns : goal.returns
returns c rooms p who seed count policy =
    let r : Register = (loaded rooms p who seed count).register in
    let reached = c.loads_are_legal.ensures rooms p who seed count policy in
    let es = reached.0 in
    let of = reached.1 in
    let conserve = c.reached_registers_conserve.ensures in
    let counted = c.reached_registers_count.ensures in
    record {
      entries = es;
      conserved = record {
        register = of;
        cards = λ n. conserve.cards r es n of;
        once = λ n. conserve.once r es n of;
        pooled = λ n. conserve.pooled r es n of;
        sizes = λ space. conserve.sizes r es space of;
        entries = counted.entries r es of;
        first_day = counted.first_day r es of;
        last_day = counted.last_day r es of;
      };
    }
