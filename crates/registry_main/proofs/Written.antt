-- What is written, followed over the lines of a script, where the bytes are known.
use Rattle.std.proofs.Common.{◌≡◌, ℕ, ◌<◌, length, List, [], ◌∷◌, ◌++◌, Option, None, Some, take, drop, take-append-drop, refl, sym, ◌∙◌, ap, subst, append_assoc, append-nil, Result, Ok, Err}
use Rattle.std.specs.Result.{OnOk, OnErr}
use Rattle.std.specs.Str.Lines.{strip_carriage_return}
use Rattle.std.specs.Io.KnownBytes.{append_known, Appends, Keeps, Consumes, IsAtEnd}
use Rattle.link_face.specs.Bytes.{AppendsPrefix}
use Rattle.registry_main.specs.Session.{PlainSession, new_session, answered, replies_to}
use Rattle.reg_entry.specs.Policy.{PlainPolicy}
use Rattle.registry_main.specs.LineBuffer.{HasNoNewline, IsAnsweredAs}
use Rattle.registry_main.proofs.FirstLine.{replies_to-line, replies_to-last}
use Rattle.std.proofs.KnownBytes.{Keeps-trans}
use Rattle.std.proofs.lemmas.Bool.{eqb-true}
use Rattle.std.specs.Prelude.{◌==◌, MatchOption, Bool, true, false, if◌then◌else◌}
use Rattle.std.specs.Option.{option_map}
use Rattle.addr_text.specs.Reading.{parted_at}
use Rattle.registry_main.specs.Batch.{with_replies, with_all_replies, with_batch_text, BeginsWith, IsFrontWritten}

-- what a failed write left is a front of what it was to write
pub prefix_begins : (a b : Option (List ℕ)) (text : List ℕ) → AppendsPrefix a b text → IsFrontWritten a text b
prefix_begins None b text p = tt
prefix_begins (Some xs) None text p = absurd p
prefix_begins (Some xs) (Some ys) text p =
    (drop p.0 text, ap (λ l. xs ++ l) (sym (take-append-drop p.0 text)) ∙ sym (append_assoc xs (take p.0 text) (drop p.0 text)) ∙ ap (λ l. l ++ drop p.0 text) (sym p.1))

-- a front of a text is one of a longer text
pub front_more : (a b : Option (List ℕ)) (text more : List ℕ) → IsFrontWritten a text b → IsFrontWritten a (text ++ more) b
front_more None b text more h = tt
front_more (Some xs) None text more h = absurd h
front_more (Some xs) (Some ys) text more h =
    (h.0 ++ more, sym (append_assoc xs text more) ∙ ap (λ l. l ++ more) h.1 ∙ append_assoc ys h.0 more)

-- a fact holds at an error where it holds
pub OnErr_always : {T E : Type 0} (r : Result T E) {P : Type 0} → P → OnErr r P
OnErr_always (Ok x) p = tt
OnErr_always (Err e) p = p

-- a line whose reply was written is answered
pub line_answered : (a b : Option (List ℕ)) (r r' : PlainSession) (line text : List ℕ)
    → HasNoNewline line → text ≡ strip_carriage_return line
    → Appends a b (answered r text).text → r' ≡ (answered r text).session
    → (tail : List ℕ) → Keeps (with_replies a r (line ++ 10 ∷ tail)) (with_replies b r' tail)
line_answered None b r r' line text h e p q tail = tt
line_answered (Some xs) None r r' line text h e p q tail = absurd p
line_answered (Some xs) (Some ys) r r' line text h e p q tail =
    let reply : List ℕ = (answered r text).text in
    let more : List ℕ = replies_to (answered r text).session tail in
    let whole : replies_to r (line ++ 10 ∷ tail) ≡ reply ++ more =
    replies_to-line r line tail h ∙ ap (λ t. (answered r t).text ++ replies_to (answered r t).session tail) (sym e) in
    ap (λ s. ys ++ replies_to s tail) q ∙ ap (λ l. l ++ more) p ∙ append_assoc xs reply more ∙ ap (λ l. xs ++ l) (sym whole)

-- where a part of its reply was written, that is a part of what was to be written
pub line_broken : (a b : Option (List ℕ)) (r : PlainSession) (line text : List ℕ)
    → HasNoNewline line → text ≡ strip_carriage_return line
    → IsFrontWritten a (answered r text).text b
    → (tail : List ℕ) → BeginsWith (with_replies a r (line ++ 10 ∷ tail)) b
line_broken None b r line text h e p tail = tt
line_broken (Some xs) None r line text h e p tail = absurd p
line_broken (Some xs) (Some ys) r line text h e p tail =
    let reply : List ℕ = (answered r text).text in
    let more : List ℕ = replies_to (answered r text).session tail in
    let whole : replies_to r (line ++ 10 ∷ tail) ≡ reply ++ more =
    replies_to-line r line tail h ∙ ap (λ t. (answered r t).text ++ replies_to (answered r t).session tail) (sym e) in
    let rest : List ℕ = p.0 ++ more in
    (rest, ap (λ l. xs ++ l) whole ∙ sym (append_assoc xs reply more) ∙ ap (λ l. l ++ more) p.1 ∙ append_assoc ys p.0 more)

-- ---- a piece of the script

Keeps_same : (a b c : Option (List ℕ)) → Keeps a b → b ≡ c → Keeps a c
Keeps_same a b c k e = subst (Keeps a) e k

pub BeginsWith_kept : (a b c : Option (List ℕ)) → Keeps a b → BeginsWith b c → BeginsWith a c
BeginsWith_kept None b c k h = tt
BeginsWith_kept (Some x) None c k h = absurd k
BeginsWith_kept (Some x) (Some y) None k h = absurd h
BeginsWith_kept (Some x) (Some y) (Some z) k h = (h.0, sym k ∙ h.1)

-- ---- what is held back

kept_before : (a b : Option (List ℕ)) (text : List ℕ) → Keeps a b → Keeps (append_known a text) (append_known b text)
kept_before None b text k = tt
kept_before (Some x) None text k = absurd k
kept_before (Some x) (Some y) text k = ap (λ l. l ++ text) k

nothing_held : (a : Option (List ℕ)) (held : List ℕ) → held ≡ [] → Keeps a (append_known a held)
nothing_held None held none = tt
nothing_held (Some x) held none = ap (λ l. x ++ l) none ∙ append-nil x

held_written : (a b : Option (List ℕ)) (held : List ℕ) → Appends a b held → Keeps (append_known a held) b
held_written None b held p = tt
held_written (Some x) None held p = absurd p
held_written (Some x) (Some y) held p = p

begins_more : (a b : Option (List ℕ)) (text : List ℕ) → BeginsWith a b → BeginsWith (append_known a text) b
begins_more None b text h = tt
begins_more (Some x) None text h = absurd h
begins_more (Some x) (Some y) text h = (h.0 ++ text, ap (λ l. l ++ text) h.1 ∙ append_assoc y h.0 text)

-- from nothing held to all of it written
pub all_written : (a b c : Option (List ℕ)) (none held before after : List ℕ) → none ≡ []
    → Keeps (append_known (append_known a none) before) (append_known (append_known b held) after) → Appends b c held
    → Keeps (append_known a before) (append_known c after)
all_written a b c none held before after empty k p =
    Keeps-trans _ _ _ (kept_before a (append_known a none) before (nothing_held a none empty))
    (Keeps-trans _ _ _ k (kept_before (append_known b held) c after (held_written b c held p)))

pub held_broken : (a b c : Option (List ℕ)) (none held before after : List ℕ) → none ≡ []
    → Keeps (append_known (append_known a none) before) (append_known (append_known b held) after) → IsFrontWritten b held c
    → BeginsWith (append_known a before) c
held_broken a b c none held before after empty k h =
    BeginsWith_kept _ _ c (kept_before a (append_known a none) before (nothing_held a none empty))
    (BeginsWith_kept _ _ c k (begins_more (append_known b held) c after h))

-- the same where nothing is answered behind it
pub last_written : (a b c : Option (List ℕ)) (none held before : List ℕ) → none ≡ []
    → Keeps (append_known (append_known a none) before) (append_known b held) → Appends b c held → Keeps (append_known a before) c
last_written a b c none held before empty k p =
    Keeps-trans _ _ _ (kept_before a (append_known a none) before (nothing_held a none empty)) (Keeps-trans _ _ _ k (held_written b c held p))

pub last_held_broken : (a b c : Option (List ℕ)) (none held before : List ℕ) → none ≡ []
    → Keeps (append_known (append_known a none) before) (append_known b held) → IsFrontWritten b held c → BeginsWith (append_known a before) c
last_held_broken a b c none held before empty k h =
    BeginsWith_kept _ _ c (kept_before a (append_known a none) before (nothing_held a none empty)) (BeginsWith_kept _ _ c k h)

pub before_broken : (a c : Option (List ℕ)) (none before : List ℕ) → none ≡ [] → BeginsWith (append_known (append_known a none) before) c
    → BeginsWith (append_known a before) c
before_broken a c none before empty h = BeginsWith_kept _ _ c (kept_before a (append_known a none) before (nothing_held a none empty)) h

-- the end of a line that is kept, with what stands behind it
line_held : (w : Option (List ℕ)) (r : PlainSession) (line front behind rest held tail : List ℕ)
    → IsAnsweredAs held (line ++ front) → rest ≡ front ++ 10 ∷ behind
    → with_replies w r (line ++ (rest ++ tail)) ≡ with_replies w r (held ++ 10 ∷ (behind ++ tail))
line_held w r line front behind rest held tail same e =
    let more : List ℕ = 10 ∷ (behind ++ tail) in
    let regrouped : line ++ (rest ++ tail) ≡ (line ++ front) ++ more =
    ap (λ t. line ++ (t ++ tail)) e ∙ ap (λ t. line ++ t) (append_assoc front (10 ∷ behind) tail) ∙ sym (append_assoc line front more) in
    ap (append_known w) (ap (replies_to r) regrouped ∙ sym (same r more))

-- after a line the text that is to be written stays the same
pub piece_goes_on : (whole : List ℕ → Option (List ℕ)) (w w' : Option (List ℕ)) (r r' : PlainSession) (line front behind rest held new : List ℕ)
    → ((tail : List ℕ) → Keeps (whole tail) (with_replies w r (line ++ (rest ++ tail))))
    → IsAnsweredAs held (line ++ front) → rest ≡ front ++ 10 ∷ behind
    → ((tail : List ℕ) → Keeps (with_replies w r (held ++ 10 ∷ tail)) (with_replies w' r' tail)) → new ≡ []
    → (tail : List ℕ) → Keeps (whole tail) (with_replies w' r' (new ++ (behind ++ tail)))
piece_goes_on whole w w' r r' line front behind rest held new before same e answered n tail =
    Keeps-trans _ _ _ (Keeps_same _ _ _ (before tail) (line_held w r line front behind rest held tail same e))
    (Keeps_same _ _ _ (answered (behind ++ tail)) (ap (λ l. with_replies w' r' (l ++ (behind ++ tail))) (sym n)))

-- where a line breaks off, a front of that text was written
pub piece_breaks : (whole : List ℕ → Option (List ℕ)) (w w' : Option (List ℕ)) (r : PlainSession) (line front behind rest held : List ℕ)
    → ((tail : List ℕ) → Keeps (whole tail) (with_replies w r (line ++ (rest ++ tail))))
    → IsAnsweredAs held (line ++ front) → rest ≡ front ++ 10 ∷ behind
    → ((tail : List ℕ) → BeginsWith (with_replies w r (held ++ 10 ∷ tail)) w')
    → (tail : List ℕ) → BeginsWith (whole tail) w'
piece_breaks whole w w' r line front behind rest held before same e broken tail =
    BeginsWith_kept _ _ _ (Keeps_same _ _ _ (before tail) (line_held w r line front behind rest held tail same e)) (broken (behind ++ tail))

-- the rest of a piece is kept
pub piece_held : (whole : List ℕ → Option (List ℕ)) (w : Option (List ℕ)) (r : PlainSession) (line rest held : List ℕ)
    → ((tail : List ℕ) → Keeps (whole tail) (with_replies w r (line ++ (rest ++ tail))))
    → IsAnsweredAs held (line ++ rest)
    → (tail : List ℕ) → Keeps (whole tail) (with_replies w r (held ++ tail))
piece_held whole w r line rest held before same tail =
    Keeps_same _ _ _ (before tail)
    (ap (append_known w) (ap (replies_to r) (sym (append_assoc line rest tail)) ∙ sym (same r tail)))

-- ---- the first newline of a text

abbrev IsNewlineAt : List ℕ → List ℕ × List ℕ → Type 0
IsNewlineAt text parts = HasNoNewline parts.0 × (text ≡ parts.0 ++ 10 ∷ parts.1)

first_newline : (text : List ℕ) → MatchOption (parted_at 10 text) (HasNoNewline text) (IsNewlineAt text)
first_newline [] = tt
first_newline (b ∷ bs) = at (b == 10) refl (first_newline bs)
  where
    more : (o : Option (List ℕ × List ℕ)) → (b == 10) ≡ false → MatchOption o (HasNoNewline bs) (IsNewlineAt bs)
        → MatchOption (option_map (λ parts. (b ∷ parts.0, parts.1)) o) (HasNoNewline (b ∷ bs)) (IsNewlineAt (b ∷ bs))
    more None e h = (e, h)
    more (Some parts) e h = ((e, h.0), ap (λ t. b ∷ t) h.1)

    at : (here : Bool) → (b == 10) ≡ here → MatchOption (parted_at 10 bs) (HasNoNewline bs) (IsNewlineAt bs)
        → MatchOption (if here then Some ([], bs) else option_map (λ parts. (b ∷ parts.0, parts.1)) (parted_at 10 bs)) (HasNoNewline (b ∷ bs)) (IsNewlineAt (b ∷ bs))
    at true e later = (tt, ap (λ n. n ∷ bs) (eqb-true b 10 e))
    at false e later = more (parted_at 10 bs) e later

-- the same for parts that are seen by a view
pub newline_parts : {A : Type 0} (now : A → List ℕ) (text : List ℕ) (result : Option (A × A))
    → option_map (λ parts. (now parts.0, now parts.1)) result ≡ parted_at 10 text
    → MatchOption result (HasNoNewline text) (λ parts. HasNoNewline (now parts.0) × (text ≡ now parts.0 ++ 10 ∷ now parts.1))
newline_parts now text None e = subst (λ o. MatchOption o (HasNoNewline text) (IsNewlineAt text)) (sym e) (first_newline text)
newline_parts now text (Some parts) e = subst (λ o. MatchOption o (HasNoNewline text) (IsNewlineAt text)) (sym e) (first_newline text)

-- ---- the script

-- what was written is a front of what is to be written
pub written_begins : (w : Option (List ℕ)) (r : PlainSession) (line : List ℕ) (left : Option (List ℕ))
    → BeginsWith (with_all_replies w r line left) w
written_begins w r line None = tt
written_begins None r line (Some left) = tt
written_begins (Some xs) r line (Some left) = (replies_to r (line ++ left), refl)

-- a piece was read, and its answers broke off
pub piece_broken : (w w' : Option (List ℕ)) (r : PlainSession) (line piece : List ℕ) (left left' : Option (List ℕ))
    → Consumes left left' piece
    → ((tail : List ℕ) → BeginsWith (with_replies w r (line ++ (piece ++ tail))) w')
    → BeginsWith (with_all_replies w r line left) w'
piece_broken w w' r line piece None left' c broken = tt
piece_broken w w' r line piece (Some xs) None c broken = absurd c
piece_broken w w' r line piece (Some xs) (Some ys) c broken =
    let P : List ℕ → Type 0 = λ zs. BeginsWith (with_replies w r (line ++ zs)) w' in
    subst P (sym c) (broken ys)

-- nothing is left of the script
pub script_ended : (w : Option (List ℕ)) (r : PlainSession) (line : List ℕ) (left left' : Option (List ℕ))
    → Consumes left left' [] → IsAtEnd left'
    → Keeps (with_all_replies w r line left) (with_replies w r line)
script_ended w r line None left' c e = tt
script_ended w r line (Some xs) None c e = absurd c
script_ended None r line (Some xs) (Some ys) c e = tt
script_ended (Some written) r line (Some xs) (Some ys) c e =
    ap (λ t. written ++ replies_to r t) (sym (append-nil line) ∙ ap (λ l. line ++ l) (sym (c ∙ e)))

pub last_answered : (w w' : Option (List ℕ)) (r : PlainSession) (line : List ℕ) → HasNoNewline line → 0 < length line
    → Appends w w' (answered r line).text → Keeps (with_replies w r line) w'
last_answered None w' r line h some p = tt
last_answered (Some xs) None r line h some p = absurd p
last_answered (Some xs) (Some ys) r line h some p = p ∙ ap (λ t. xs ++ t) (sym (replies_to-last r line h some))

pub last_broken : (w w' : Option (List ℕ)) (r : PlainSession) (line : List ℕ) → HasNoNewline line → 0 < length line
    → IsFrontWritten w (answered r line).text w' → BeginsWith (with_replies w r line) w'
last_broken None w' r line h some p = tt
last_broken (Some xs) None r line h some p = absurd p
last_broken (Some xs) (Some ys) r line h some p = (p.0, ap (λ t. xs ++ t) (replies_to-last r line h some) ∙ p.1)

pub OnOk_map : {T E : Type 0} (r : Result T E) {P Q : Type 0} → (P → Q) → OnOk r P → OnOk r Q
OnOk_map (Ok x) f p = f p
OnOk_map (Err e) f p = tt

pub OnErr_map : {T E : Type 0} (r : Result T E) {P Q : Type 0} → (P → Q) → OnErr r P → OnErr r Q
OnErr_map (Ok x) f p = tt
OnErr_map (Err e) f p = f p

-- ---- the end of the script, after which the last line is answered

pub script_answered : (whole w w' : Option (List ℕ)) (r : PlainSession) (line : List ℕ) (left left' : Option (List ℕ))
    → Keeps whole (with_all_replies w r line left) → Consumes left left' [] → IsAtEnd left'
    → Keeps (with_replies w r line) w' → Keeps whole w'
script_answered whole w w' r line left left' kept c e h =
    Keeps-trans _ _ _ kept (Keeps-trans _ _ _ (script_ended w r line left left' c e) h)

pub script_broken : (whole w w' : Option (List ℕ)) (r : PlainSession) (line : List ℕ) (left left' : Option (List ℕ))
    → Keeps whole (with_all_replies w r line left) → Consumes left left' [] → IsAtEnd left'
    → BeginsWith (with_replies w r line) w' → BeginsWith whole w'
script_broken whole w w' r line left left' kept c e h =
    BeginsWith_kept _ _ _ kept (BeginsWith_kept _ _ _ (script_ended w r line left left' c e) h)

-- ---- the batch

-- a session that is new answers the batch text
pub batch_replies : (p : PlainPolicy) (day : ℕ) (s : PlainSession) (w left : Option (List ℕ)) → s ≡ new_session p day
    → with_all_replies w s [] left ≡ with_batch_text p day w left
batch_replies p day s w None e = refl
batch_replies p day s w (Some text) e = ap (λ (t : PlainSession). append_known w (replies_to t text)) e

pub kept_begins : (a b : Option (List ℕ)) → Keeps a b → BeginsWith a b
kept_begins None b k = tt
kept_begins (Some x) None k = absurd k
kept_begins (Some x) (Some y) k = ([], sym k ∙ sym (append-nil y))
