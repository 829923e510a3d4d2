-- Entries that are seen stay seen.
use Rattle.std.proofs.Common.{◌≡◌, ℕ, ◌≤◌, All, List, [], ◌∷◌, ◌++◌, length, take, drop, take-append-drop, refl, sym, ap, ◌∙◌, subst, append_assoc, append-nil, arith, length-append}
use Rattle.std.specs.Prelude.{Result, Ok, Err}
use Rattle.std.proofs.Math.Seq.{take-append_seam}
use Rattle.std.proofs.lemmas.List.Elements.{All-nil, All-cons}
use mathlib.Core.List.{IsPrefix}
use Rattle.reg_entry.specs.Entry.{PlainEntry}
use Rattle.reg_entry.specs.declared.entry.Reply.{Reply}
use Rattle.reg_entry.specs.declared.entry.Reply.TheVariants.{Accepted, Refused as Denied}
use Rattle.hall.specs.declared.ask.Ask.{Ask}
use Rattle.hall.specs.declared.ask.Ask.TheVariants.{Refused, Look, Submit, Unread}
use Rattle.hall.specs.Standing.{Standing}
use Rattle.desk_book.specs.Reply.{with_reply}
use Rattle.hall.specs.Backend.{Submits}
use Rattle.hall.specs.Turn.{Terms, Turn, IsSubmitted, IsReplied, AreTurns}
use Rattle.hall.specs.Prefixes.{KeepsEntries, AreOnPrefixes, BeginsWithSeen, HasEntryAt}

-- the second list goes on from the first
abbrev GoesOn : List PlainEntry → List PlainEntry → Type 0
GoesOn es fs = (more : List PlainEntry) × (fs ≡ es ++ more)

goes_on_itself : (es : List PlainEntry) → GoesOn es es
goes_on_itself es = ([], sym (append-nil es))

goes_on_further : (es fs gs : List PlainEntry) → GoesOn es fs → GoesOn fs gs → GoesOn es gs
goes_on_further es fs gs a b = (a.0 ++ b.0, b.1 ∙ ap (λ l. l ++ b.0) a.1 ∙ append_assoc es a.0 b.0)

goes_on_with_reply : (es : List PlainEntry) (reply : Reply) → GoesOn es (with_reply es reply)
goes_on_with_reply es (Accepted e) = (e ∷ [], refl)
goes_on_with_reply es (Denied refusal) = goes_on_itself es

same_entries : (before after : Standing) → after ≡ before → GoesOn before.entries after.entries
same_entries before after same = subst (λ s. GoesOn before.entries s.entries) (sym same) (goes_on_itself before.entries)

submit_goes_on : (t : Terms) (before after : Standing) (policy : _) (day : ℕ) (who : List ℕ) (request : _) (outcome : Result (Reply × ℕ) _) → KeepsEntries t
    → Submits t.rooms t.goes_on t.may_fail policy day who request before outcome after → GoesOn before.entries after.entries
submit_goes_on t before after policy day who request (Ok answer) keeps s =
    let es = s.0 in
    goes_on_further before.entries es after.entries (keeps before.entries es s.1.seen)
    (goes_on_further es (with_reply es answer.0) after.entries (goes_on_with_reply es answer.0) (keeps (with_reply es answer.0) after.entries s.1.others))
submit_goes_on t before after policy day who request (Err fault) keeps s = keeps before.entries after.entries s.1

reply_goes_on : (t : Terms) (head : _) (ask : Ask) (before after : Standing) (reply : List ℕ) → KeepsEntries t
    → IsReplied t head ask before reply after → GoesOn before.entries after.entries
reply_goes_on t head (Refused code post) before after reply keeps r = same_entries before after r.1
reply_goes_on t head (Unread place) before after reply keeps r = same_entries before after r.1
reply_goes_on t head (Look lookup least) before after reply keeps r = keeps before.entries after.entries r.1.seen
reply_goes_on t head (Submit who request) before after reply keeps r =
    submit_goes_on t before after t.policy r.0 who request r.1 keeps r.2.decided

turns_go_on : (t : Terms) (before after : Standing) (turns : List Turn) → KeepsEntries t → AreTurns t before turns after → GoesOn before.entries after.entries
turns_go_on t before after [] keeps same = same_entries before after same
turns_go_on t before after (turn ∷ turns) keeps (first, rest) =
    goes_on_further before.entries turn.after.entries after.entries
    (reply_goes_on t turn.head turn.ask before turn.after turn.reply keeps first.1.replied) (turns_go_on t turn.after after turns keeps rest)

-- ---- counted

is_front : (es fs : List PlainEntry) → GoesOn es fs → es ≡ take (length es) fs
is_front es fs g = sym (take-append_seam es g.0) ∙ ap (take (length es)) (sym g.1)

is_shorter : (es fs : List PlainEntry) → GoesOn es fs → length es ≤ length fs
is_shorter es fs g = omega (arith, ap length g.1, length-append es g.0)

pub turns_rise : (t : Terms) (before after : Standing) (turns : List Turn) → KeepsEntries t → AreTurns t before turns after
    → AreOnPrefixes (length before.entries) turns after.entries
turns_rise t before after [] keeps same = is_shorter before.entries after.entries (same_entries before after same)
turns_rise t before after (turn ∷ turns) keeps (first, rest) =
    let later : GoesOn turn.after.entries after.entries = turns_go_on t turn.after after turns keeps rest in
    let sooner : GoesOn before.entries turn.after.entries = reply_goes_on t turn.head turn.ask before turn.after turn.reply keeps first.1.replied in (
      record {
        front = is_front turn.after.entries after.entries later;
        rises = is_shorter before.entries turn.after.entries sooner;
        within = is_shorter turn.after.entries after.entries later;
      },
      turns_rise t turn.after after turns keeps rest,
    )

pub seen_stays : (t : Terms) (before after : Standing) (turns : List Turn) → KeepsEntries t → AreTurns t before turns after
    → BeginsWithSeen before.entries after.entries
seen_stays t before after turns keeps are =
    let later : GoesOn before.entries after.entries = turns_go_on t before after turns keeps are in
    record { front = is_front before.entries after.entries later; within = is_shorter before.entries after.entries later }

-- ---- an entry that was accepted

pub entry_stays : (number : ℕ) (e : PlainEntry) (es fs : List PlainEntry) → HasEntryAt number e es → GoesOn es fs → HasEntryAt number e fs
entry_stays number e es fs (front, back, is, count) later =
    (front, back ++ later.0, later.1 ∙ ap (λ l. l ++ later.0) is ∙ append_assoc front (e ∷ back) later.0, count)

pub entry_stays_in_turns : (t : Terms) (before after : Standing) (turns : List Turn) (e : PlainEntry) (number : ℕ) → KeepsEntries t
    → HasEntryAt number e before.entries → AreTurns t before turns after
    → All (λ u. HasEntryAt number e u.after.entries) turns × HasEntryAt number e after.entries
entry_stays_in_turns t before after [] e number keeps has same =
    (All-nil (λ (u : Turn). HasEntryAt number e u.after.entries), subst (λ s. HasEntryAt number e s.entries) (sym same) has)
entry_stays_in_turns t before after (turn ∷ turns) e number keeps has (first, rest) =
    let here : HasEntryAt number e turn.after.entries =
    entry_stays number e before.entries turn.after.entries has
    (reply_goes_on t turn.head turn.ask before turn.after turn.reply keeps first.1.replied) in
    let more = entry_stays_in_turns t turn.after after turns e number keeps here rest in
    (All-cons (λ (u : Turn). HasEntryAt number e u.after.entries) turn turns here more.0, more.1)

accepted_entry : (t : Terms) (head : _) (who : List ℕ) (request : _) (before after : Standing) (reply : List ℕ) (day : ℕ) (e : PlainEntry) (number : ℕ)
    → KeepsEntries t → IsSubmitted t head who request before reply after day (Ok (Accepted e, number)) → HasEntryAt number e after.entries
accepted_entry t head who request before after reply day e number keeps submitted =
    let es : List PlainEntry = submitted.decided.0 in
    let on = submitted.decided.1 in
    entry_stays number e (es ++ e ∷ []) after.entries (es, [], refl, on.number_is ∙ length-append es (e ∷ []))
    (keeps (es ++ e ∷ []) after.entries on.others)

pub accepted_stays : (t : Terms) (before after : Standing) (turn : Turn) (later : List Turn) (who : List ℕ) (request : _) (day : ℕ) (e : PlainEntry) (number : ℕ)
    → KeepsEntries t → IsSubmitted t turn.head who request before turn.reply turn.after day (Ok (Accepted e, number)) → AreTurns t turn.after later after
    → All (λ u. HasEntryAt number e u.after.entries) (turn ∷ later) × HasEntryAt number e after.entries
accepted_stays t before after turn later who request day e number keeps submitted are =
    let here : HasEntryAt number e turn.after.entries =
    accepted_entry t turn.head who request before turn.after turn.reply day e number keeps submitted in
    let more = entry_stays_in_turns t turn.after after later e number keeps here are in
    (All-cons (λ (u : Turn). HasEntryAt number e u.after.entries) turn later here more.0, more.1)

-- a list that begins with another, as its front
pub begins_prefix : (seen all : List PlainEntry) → BeginsWithSeen seen all → IsPrefix seen all
begins_prefix seen all begins = (drop (length seen) all, ap (λ l. l ++ drop (length seen) all) begins.front ∙ take-append-drop (length seen) all)
