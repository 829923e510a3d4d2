use Rattle.std.proofs.Common.{subst, sym}
use Rattle.load_gen.specs.Load.{PlainLoad}
use Rattle.load_run.specs.Drawable.{HasAllDrawn}
use Rattle.load_run.proofs.load.Load.look_for_addresses.Goals as goal

pub invariant_of-self : goal.invariant_of-self
invariant_of-self c = λ known. subst (λ (l : PlainLoad). HasAllDrawn l.register.pool) (sym c.self.view_is) (c.has_addresses-self-inside.ensures known)
