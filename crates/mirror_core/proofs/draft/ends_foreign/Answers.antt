use Rattle.std.proofs.Common.{Bool, not, ◌&&◌, bytes_eq, sym, ap, ◌∙◌}
use Rattle.mirror_core.proofs.Sources.{foreign, none_foreign}
use Rattle.mirror_core.proofs.draft.ends_foreign.Goals as goal

pub returns-then-is_source : goal.returns-then-is_source
returns-then-is_source c =
    let is = foreign c.args.source.now c.args.attributes.now _ _ _ c.last.ensures c.in-Some.is in
    let own = sym c.is_source.ensures ∙ c.if-is_source.true in
    c.ne.ensures ∙ sym (is ∙ ap (λ (b : Bool). b && not (bytes_eq c.in-Some.value.now c.args.source.now)) own)

pub returns-else-is_source : goal.returns-else-is_source
returns-else-is_source c =
    let is = foreign c.args.source.now c.args.attributes.now _ _ _ c.last.ensures c.in-Some.is in
    let own = sym c.is_source.ensures ∙ c.if-is_source.false in
    c.if-is_source.false ∙ sym (is ∙ ap (λ (b : Bool). b && not (bytes_eq c.in-Some.value.now c.args.source.now)) own)

pub returns-in-None : goal.returns-in-None
returns-in-None c = sym (none_foreign c.args.source.now c.args.attributes.now _ c.last.ensures c.in-None.is)
