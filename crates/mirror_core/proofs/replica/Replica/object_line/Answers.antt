use Rattle.std.proofs.Common.{◌≡◌, ℕ, ◌≤◌, List, [], ◌∷◌, length, get_or, Option, None, Some, Result, sym, ap, ◌∙◌, subst, arith}
use Rattle.std.specs.Option.{option_copied}
use Rattle.rpsl_text.specs.Lines.{continuation_of}
use Rattle.mirror_core.specs.declared.fault.FeedFault.{FeedFault}
use Rattle.mirror_core.specs.Mirror.{PlainMirror, PlainStream, PlainDraft}
use Rattle.mirror_core.specs.Draft.{goes_on, new_line, object_line}
use Rattle.mirror_core.specs.Replica.{standing_in, stream_with, IsAfter}
use Rattle.mirror_core.proofs.replica.Replica.object_line.Goals as goal

headed : (m : PlainMirror) (s : PlainStream) (d : PlainDraft) (line : List ℕ) → 1 ≤ length line → continuation_of line ≡ None
    → new_line m s d (get_or line 0 0) line ≡ object_line m s d line
headed m s d [] some anew = absurd (omega (arith, some))
headed m s d (b ∷ bs) some anew =
    let by_text : Option (List ℕ) → Result PlainMirror FeedFault = λ (o : Option (List ℕ)). elim o [ Some text ↦ goes_on m s d text | None ↦ new_line m s d b (b ∷ bs) ] in
    sym (ap by_text anew)

pub returns-in-None-clause-said : goal.returns-in-None-clause-said
returns-in-None-clause-said c =
    let s = stream_with c.args.serials c.args.draft in
    let anew : continuation_of c.args.line.now ≡ None = sym c.continuation_of.ensures ∙ ap option_copied c.in-None.is in
    subst (λ (said : Result PlainMirror FeedFault). IsAfter said c.args.self.now c.new_line.new.self c.new_line.result)
    (headed (standing_in c.args.self.now s) s c.args.draft c.args.line.now c.in-len1-up.len_at_least anew) c.new_line.ensures.said
