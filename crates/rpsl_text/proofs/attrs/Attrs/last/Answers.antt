use Rattle.std.proofs.Common.{sym, ◌∙◌}
use Rattle.rpsl_text.specs.declared.attrs.Span.{Span}
use Rattle.rpsl_text.proofs.Stored.{ends, last_read}
use Rattle.rpsl_text.proofs.attrs.Attrs.last.Goals as goal

pub returns : goal.returns
returns c =
    let spans = c.as_slice.ensures.value in
    let none : Span = record { name = 0; value = 0 } in
    rw (← c.self.view_is) (last_read _ _ _ _ _ _ _ _ c.self.invariant (sym spans ∙ ends _ none c.in-len1-up.len_at_least) c.as_slice-bytes.ensures.value c.split_at.ensures.front c.split_at.ensures.back c.split_at-2.ensures.back)
