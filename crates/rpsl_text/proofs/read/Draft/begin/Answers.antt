use Rattle.std.proofs.Common.{◌≡◌, ◌-◌, length, map, ap, ◌∙◌, rules}
use Rattle.std.specs.Char.{to_ascii_lowercase}
use Rattle.rpsl_text.specs.declared.attrs.Span.{Span}
use Rattle.rpsl_text.specs.Attributes.{attributes_at}
use Rattle.rpsl_text.proofs.Stored.{begins}
use Rattle.rpsl_text.proofs.read.Draft.begin.Goals as goal

pub returns-clause-taken : goal.returns-clause-taken
returns-clause-taken c =
    let span : Span = record { name = c.len-start.result - c.len-from.result; value = c.len.result - c.len-start.result } in
    let from : c.len-from.result ≡ length c.args.self.now.bytes.items = search rules in
    let start : c.len-start.result ≡ length c.append_name.new.bytes.items = search rules in
    let end : c.len.result ≡ length c.append_value.new.bytes.items = search rules in
    ap (attributes_at c.append_value.new.bytes.items) c.in_ok-push.ensures.items
    ∙ begins c.args.self.now.bytes.items c.append_name.new.bytes.items c.append_value.new.bytes.items c.args.self.now.spans.items span
    (map to_ascii_lowercase c.args.name.now) c.args.text.now c.len-start.result c.requires
    c.in_ok-append_name.ensures start c.in_ok-append_value.ensures.front c.in_ok-append_value.ensures.value
    (ap (λ n. c.len-start.result - n) from) (ap (λ n. n - c.len-start.result) end)
