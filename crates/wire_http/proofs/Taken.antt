-- What a step of the framer leaves.
use Rattle.std.proofs.Common.{◌≡◌, ℕ, ◌+◌, ◌≤◌, List, length, drop, length-take, length-drop, sym, ap, ◌∙◌, subst, arith}
use Rattle.std.proofs.lemmas.List.{drop-drop}
use Rattle.wire_http.specs.declared.message.Message.{Message}
use Rattle.wire_http.specs.Step.{IsFirstMessage, message_at, rest_behind}
use Rattle.wire_http.specs.Framer.{PlainFramer, framer_of, Gives}

-- what isn't taken yet stands behind the message that was given last
pub unread : (items : List ℕ) (at : ℕ) (given : Message) (old : PlainFramer) → framer_of items at given ≡ old
    → old.bytes ≡ drop (at + given.head + given.body) items
unread items at given old e =
    ap (λ (f : PlainFramer). f.bytes) (sym e) ∙ drop-drop (given.head + given.body) at items
    ∙ ap (λ n. drop n items) (omega arith)

pub gives_message : (items : List ℕ) (at : ℕ) (given m : Message) (old : PlainFramer) → framer_of items at given ≡ old
    → IsFirstMessage m (drop (at + given.head + given.body) items)
    → Gives m old (framer_of items (at + given.head + given.body) m)
gives_message items at given m old e first =
    let same = sym (unread items at given old e) in
    record {
      first = subst (IsFirstMessage m) same first;
      given = ap (λ b. message_at b m) same;
      rest = ap (λ b. rest_behind b m) same;
    }

-- a message at the front is no longer than what is there
pub message_within : (items : List ℕ) (at : ℕ) (m : Message) → at ≤ length items → IsFirstMessage m (drop at items) → at + m.head + m.body ≤ length items
message_within items at m within x =
    let left = drop at items in
    omega (arith, x.lengths.head, x.lengths.body, length-take m.head left, length-take m.body (drop m.head left), length-drop m.head left, length-drop at items)
