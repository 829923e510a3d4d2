use Rattle.std.proofs.Common.{◌≡◌, ◌∙◌, Some, length, ap, subst, arith, rules}
use Rattle.desk_lang.specs.EntryReading.{IsWritableEntry}
use Rattle.desk_text.specs.EntryText.{entry_text}
use Rattle.desk_lang.proofs.ReadEntries.{entry_found, length_entry}
use Rattle.desk_lang.proofs.entry_line.read_entry.Goals as goal

pub returns-then-text-gt-LINE_ROOM-clause-none : goal.returns-then-text-gt-LINE_ROOM-clause-none
returns-then-text-gt-LINE_ROOM-clause-none c =
    λ e h. let few = length_entry e h.0 in let same = ap length h.1 in omega (arith, few, same)

pub returns-in_default-clause-none : goal.returns-in_default-clause-none
returns-in_default-clause-none c = λ e h. let found = entry_found c.args.text.now e h in cc

pub returns-then-not-is_writable_entry-clause-none : goal.returns-then-not-is_writable_entry-clause-none
returns-then-not-is_writable_entry-clause-none c =
    λ e h.
    let found = entry_found c.args.text.now e h in
    let same : e ≡ c.in-Ok.entry = cc in
    let is = c.is_writable_entry.ensures.1 (subst IsWritableEntry same h.0) in
    cc

pub returns-then-not-is_text_of-clause-none : goal.returns-then-not-is_text_of-clause-none
returns-then-not-is_text_of-clause-none c =
    λ e h.
    let found = entry_found c.args.text.now e h in
    let same : e ≡ c.in-Ok.entry = cc in
    let is = c.is_text_of.ensures.1 (h.1 ∙ ap entry_text same) in
    cc

pub returns-then-text-gt-LINE_ROOM-clause-found : goal.returns-then-text-gt-LINE_ROOM-clause-found
returns-then-text-gt-LINE_ROOM-clause-found c = λ e h. absurd (returns-then-text-gt-LINE_ROOM-clause-none c e h)

pub returns-in_default-clause-found : goal.returns-in_default-clause-found
returns-in_default-clause-found c = λ e h. absurd (returns-in_default-clause-none c e h)

pub returns-then-not-is_writable_entry-clause-found : goal.returns-then-not-is_writable_entry-clause-found
returns-then-not-is_writable_entry-clause-found c = λ e h. absurd (returns-then-not-is_writable_entry-clause-none c e h)

pub returns-then-not-is_text_of-clause-found : goal.returns-then-not-is_text_of-clause-found
returns-then-not-is_text_of-clause-found c = λ e h. absurd (returns-then-not-is_text_of-clause-none c e h)

pub returns-clause-found : goal.returns-clause-found
returns-clause-found c = λ e h. let found = entry_found c.args.text.now e h in let same : c.in-Ok.entry ≡ e = cc in ap (λ x. Some x) same

pub returns-clause-some : goal.returns-clause-some
returns-clause-some c = search rules
