-- What has come of a script is answered line by line: what comes next can't change what was written for the lines that
-- have ended.
use Rattle.std.proofs.Common.{◌≡◌, ℕ, zero, suc, ◌<◌, List, [], ◌∷◌, ◌++◌, length, Option, None, Some, refl, sym, ◌∙◌, ap, subst, arith, inl, inr, append_assoc, append-nil, length-append}
use Rattle.std.proofs.lemmas.Bool.{cases_Bool, ne_eqb}
use Rattle.std.proofs.lemmas.List.{append_cancel_right}
use Rattle.std.specs.Prelude.{◌==◌, codes}
use Rattle.std.specs.List.{slice_split, onto_first}
use Rattle.std.specs.Str.Lines.{lines_of_parts, strip_carriage_return}
use Rattle.std.specs.Io.KnownBytes.{Appends, Keeps, Consumes}
use Rattle.std.proofs.KnownBytes.{Appends-nil, Appends-kept, Appends-trans, Consumes-nil, Consumes-kept, Consumes-trans, Keeps-refl, Keeps-trans}
use Rattle.registry_main.specs.Session.{PlainSession, answered, replies, replies_to, session_after}
use Rattle.registry_main.specs.LineBuffer.{HasNoNewline}
use Rattle.registry_main.specs.Batch.{lines_before_last, ended_lines, with_replies, with_all_replies, Known, known, IsUpToDate}
use Rattle.registry_main.proofs.FirstLine.{is_newline, splits, split_last, too_long, answer_overlong, overlong-last, no_newline-append}

-- ---- a text that goes on without a newline

-- the last of the parts goes on
abbrev last_longer : List (List ℕ) → List ℕ → List (List ℕ)
last_longer [] more = []
last_longer (x ∷ []) more = (x ++ more) ∷ []
last_longer (x ∷ y ∷ parts) more = x ∷ last_longer (y ∷ parts) more

onto_longer : (b : ℕ) (x : List ℕ) (parts : List (List ℕ)) (more : List ℕ)
    → onto_first b (last_longer (x ∷ parts) more) ≡ last_longer (onto_first b (x ∷ parts)) more
onto_longer b x [] more = refl
onto_longer b x (y ∷ parts) more = refl

split_longer : (text more : List ℕ) → HasNoNewline more
    → slice_split is_newline (text ++ more) ≡ last_longer (slice_split is_newline text) more
split_longer [] more h = split_last more h
split_longer (b ∷ bs) more h =
    let s = splits bs in
    let later : slice_split is_newline (bs ++ more) ≡ last_longer (s.first ∷ s.others) more =
    split_longer bs more h ∙ ap (λ parts. last_longer parts more) s.split in
    elim (cases_Bool (b == 10)) [
      | inl e ↦ rw e (ap (λ parts. [] ∷ parts) later ∙ ap (λ parts. last_longer ([] ∷ parts) more) (sym s.split))
      | inr e ↦ rw e (ap (onto_first b) later ∙ onto_longer b s.first s.others more
          ∙ ap (λ parts. last_longer (onto_first b parts) more) (sym s.split))
    ]

-- its lines are those that had ended, and one that goes on
record Longer (parts : List (List ℕ)) (more : List ℕ) : Type 0 where
  last : List ℕ
  lines : lines_of_parts (last_longer parts more) ≡ lines_before_last parts ++ (last ++ more) ∷ []

lines_longer : (x : List ℕ) (parts : List (List ℕ)) (more : List ℕ) → 0 < length more → Longer (x ∷ parts) more
lines_longer x [] more some =
    record { last = x; lines = rw (ne_eqb (length (x ++ more)) 0 (omega (arith, length-append x more))) refl }
lines_longer x (y ∷ []) more some =
    let rest = lines_longer y [] more some in
    record { last = rest.last; lines = ap (λ l. strip_carriage_return x ∷ l) rest.lines }
lines_longer x (y ∷ z ∷ parts) more some =
    let rest = lines_longer y (z ∷ parts) more some in
    record { last = rest.last; lines = ap (λ l. strip_carriage_return x ∷ l) rest.lines }

replies-append : (s : PlainSession) (before : List (List ℕ)) (line : List ℕ)
    → replies s (before ++ line ∷ []) ≡ replies s before ++ (answered (session_after s before) line).text
replies-append s [] line = append-nil _
replies-append s (first ∷ before) line =
    ap (λ t. (answered s first).text ++ t) (replies-append (answered s first).session before line)
    ∙ sym (append_assoc (answered s first).text (replies (answered s first).session before) (answered (session_after (answered s first).session before) line).text)

-- ---- a line that is too long

-- so many bytes, none of which is a newline
record Filler (n : ℕ) : Type 0 where
  text : List ℕ
  clear : HasNoNewline text
  size : length text ≡ n

filler : (n : ℕ) → Filler n
filler zero = record { text = []; clear = tt; size = refl }
filler (suc n) =
    let rest = filler n in
    record { text = 0 ∷ rest.text; clear = (refl, rest.clear); size = ap suc rest.size }

-- every session tells the place in the same words
overlong_text : (s t : PlainSession) → (too_long s).text ≡ (too_long t).text
overlong_text s t = refl

-- where the text goes on with so many, the lines that had ended are answered, and the one that goes on is too long
replies_longer : (s : PlainSession) (text more : List ℕ) → HasNoNewline more → 1025 < length more
    → replies_to s (text ++ more) ≡ replies s (ended_lines text) ++ (too_long s).text
replies_longer s text more h long =
    let parts = splits text in
    let found = lines_longer parts.first parts.others more (omega arith) in
    let before : List (List ℕ) = lines_before_last (parts.first ∷ parts.others) in
    ap (λ p. replies s (lines_of_parts p)) (split_longer text more h ∙ ap (λ p. last_longer p more) parts.split)
    ∙ ap (replies s) found.lines
    ∙ replies-append s before (found.last ++ more)
    ∙ ap (λ a. replies s before ++ a.text) (answer_overlong (session_after s before) (found.last ++ more) (omega (arith, length-append found.last more)))
    ∙ ap (λ p. replies s (lines_before_last p) ++ (too_long s).text) (sym parts.split)

-- ---- what has come

-- what was written stands before the answers to whatever comes
written_up_to : (w w' : Option (List ℕ)) (s s' : PlainSession) (came line : List ℕ) → HasNoNewline line
    → ((tail : List ℕ) → Keeps (with_replies w s (came ++ tail)) (with_replies w' s' (line ++ tail)))
    → Appends w w' (replies s (ended_lines came))
written_up_to None w' s s' came line h kept = tt
written_up_to (Some xs) None s s' came line h kept = absurd (kept [])
written_up_to (Some xs) (Some ys) s s' came line h kept =
    let more = filler 1026 in
    let replied : List ℕ = replies s (ended_lines came) in
    let long : 1025 < length more.text = omega (arith, more.size) in
    let line_long : 1025 < length (line ++ more.text) = omega (arith, more.size, length-append line more.text) in
    let last : replies_to s' (line ++ more.text) ≡ (too_long s).text =
    overlong-last s' (line ++ more.text) (no_newline-append line more.text h more.clear) line_long in
    append_cancel_right ys (xs ++ replied) (too_long s).text
    (ap (λ t. ys ++ t) (sym last) ∙ kept more.text ∙ ap (λ t. xs ++ t) (replies_longer s came more.text more.clear long)
    ∙ sym (append_assoc xs replied (too_long s).text))

-- so far these bytes have come, and what was written, followed by the answers to the line that is kept and to what comes, is
-- what all of it is answered
pub record HasCome (s s' : PlainSession) (line : List ℕ) (before after : Known) : Type 0 where
  pub came : List ℕ
  pub taken : Appends before.taken after.taken came
  pub left : Consumes before.left after.left came
  pub kept : (tail : List ℕ) → Keeps (with_replies before.written s (came ++ tail)) (with_replies after.written s' (line ++ tail))

pub none_has_come : (s : PlainSession) (taken left written : Option (List ℕ))
    → HasCome s s [] (known taken left written) (known taken left written)
none_has_come s taken left written = record {
  came = [];
  taken = Appends-nil taken;
  left = Consumes-nil left;
  kept = λ tail. Keeps-refl _;
}

-- a piece was read and answered
pub more_has_come : (s s' s'' : PlainSession) (line line' piece : List ℕ) (before : Known) (taken left written taken' left' written' : Option (List ℕ))
    → HasCome s s' line before (known taken left written)
    → Appends taken taken' piece → Consumes left left' piece
    → ((tail : List ℕ) → Keeps (with_replies written s' (line ++ (piece ++ tail))) (with_replies written' s'' (line' ++ tail)))
    → HasCome s s'' line' before (known taken' left' written')
more_has_come s s' s'' line line' piece before taken left written taken' left' written' so_far more_taken more_left answered = record {
  came = so_far.came ++ piece;
  taken = Appends-trans _ _ _ _ _ so_far.taken more_taken;
  left = Consumes-trans _ _ _ _ _ so_far.left more_left;
  kept = λ tail.
      subst (λ (text : List ℕ). Keeps (with_replies before.written s text) (with_replies written' s'' (line' ++ tail)))
      (sym (append_assoc so_far.came piece tail))
      (Keeps-trans _ _ _ (so_far.kept (piece ++ tail)) (answered tail));
}

pub come_is_answered : (s s' : PlainSession) (line : List ℕ) (before after : Known) → HasNoNewline line → HasCome s s' line before after
    → IsUpToDate s before after
come_is_answered s s' line before after h so_far = record {
  came = so_far.came;
  taken = so_far.taken;
  left = so_far.left;
  written = written_up_to before.written after.written s s' so_far.came line h so_far.kept;
}

-- what was written, and the answers to what is left, are the answers to all of the script
pub come_is_kept : (s s' : PlainSession) (line : List ℕ) (before after : Known) → HasCome s s' line before after
    → Keeps (with_all_replies before.written s [] before.left) (with_all_replies after.written s' line after.left)
come_is_kept s s' line before after so_far = at before.left after.left so_far.left
  where
    at : (left left' : Option (List ℕ)) → Consumes left left' so_far.came
        → Keeps (with_all_replies before.written s [] left) (with_all_replies after.written s' line left')
    at None left' c = tt
    at (Some xs) None c = absurd c
    at (Some xs) (Some ys) c =
        subst (λ (text : List ℕ). Keeps (with_replies before.written s text) (with_replies after.written s' (line ++ ys))) (sym c) (so_far.kept ys)

-- a read that failed took nothing
pub no_more_has_come : (s s' : PlainSession) (line : List ℕ) (before : Known) (taken left written taken' left' : Option (List ℕ))
    → HasCome s s' line before (known taken left written) → Keeps taken taken' → Keeps left left'
    → HasCome s s' line before (known taken' left' written)
no_more_has_come s s' line before taken left written taken' left' so_far same_taken same_left = record {
  came = so_far.came;
  taken = Appends-kept _ _ _ _ so_far.taken same_taken;
  left = Consumes-kept _ _ _ _ so_far.left same_left;
  kept = so_far.kept;
}

-- ---- the definition tried on a text

worked_lines : ended_lines (codes "due\nday 20240301\r\n\r\nshow AS0") ≡ codes "due" ∷ codes "day 20240301" ∷ [] ∷ []
worked_lines = refl
