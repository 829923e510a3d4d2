use Rattle.std.proofs.Common.{sym, ◌∙◌, ap}
use Rattle.reg_entry.specs.declared.request.Request.{Request}
use Rattle.reg_entry.specs.Decision.{first_of, early_rules}
use Rattle.plain_register.proofs.register.PlainRegister.early_refusal.Goals as goal

pub returns-in-SetReverse : goal.returns-in-SetReverse
returns-in-SetReverse c =
    c.set_reverse_refusal.ensures c.in-SetReverse.servers ∙ ap (λ (q : Request). first_of (early_rules c.args.self.now q)) (sym c.in-SetReverse.is)
