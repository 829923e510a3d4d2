use Rattle.rpsl_text.proofs.write.append_own.Goals as goal

pub returns-in-Org : goal.returns-in-Org
returns-in-Org c = rw c.in-Org.is c.append_holder.ensures

pub returns-in-Sub : goal.returns-in-Sub
returns-in-Sub c = rw c.in-Sub.is c.append_sub.ensures
