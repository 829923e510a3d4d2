-- Where a list grew by one entry with each append, nothing was cut off.
use Rattle.std.proofs.lemmas.Bool.Decides.{nat_tests}
use Rattle.std.proofs.Common.{◌≡◌, ℕ, ◌+◌, ◌≤◌, ◌==◌, ◌&&◌, nat_le, true, List, [], ◌∷◌, ◌++◌, length, take, fold, ap, sym, subst, ◌∙◌, arith, length-append}
use Rattle.std.proofs.lemmas.List.{append-nil, length-take, take_all}
use Rattle.std.proofs.lemmas.List.Sums.{fold-append}
use mathlib.Core.List.{IsPrefix}
use Rattle.reg_entry.specs.Entry.{PlainEntry}
use Rattle.entry_log.specs.declared.append.Append.{Append}
use Rattle.entry_log.specs.Entries.{after_append, entries_after}
use Rattle.entry_log.proofs.Fronts.{prefix_trans, prefix_shorter}

length-after : (xs : List PlainEntry) (a : Append) → length (after_append xs a) ≤ length xs + 1
length-after xs a = omega (arith, length-append (take a.keeps xs) (a.entry ∷ []), length-take a.keeps xs)

-- no append makes the list longer by more than one entry
length-fold : (xs : List PlainEntry) (more : List Append) → length (fold after_append xs more) ≤ length xs + length more
length-fold xs [] = omega arith
length-fold xs (a ∷ more) = omega (arith, length-fold (after_append xs a) more, length-after xs a)

-- where it is longer by one, all of it was kept
kept : (xs : List PlainEntry) (a : Append) → length xs + 1 ≤ length (after_append xs a) → IsPrefix xs (after_append xs a)
kept xs a h =
    let all : length xs ≤ a.keeps = omega (arith, length-append (take a.keeps xs) (a.entry ∷ []), length-take a.keeps xs) in
    (a.entry ∷ [], ap (λ (l : List PlainEntry). l ++ a.entry ∷ []) (sym (take_all a.keeps xs all)))

grown : (xs : List PlainEntry) (more : List Append) → length (fold after_append xs more) ≡ length xs + length more → IsPrefix xs (fold after_append xs more)
grown xs [] h = ([], append-nil xs)
grown xs (a ∷ more) h =
    let ys : List PlainEntry = after_append xs a in
    let top : length (fold after_append ys more) ≤ length ys + length more = length-fold ys more in
    let step : length ys ≤ length xs + 1 = length-after xs a in
    prefix_trans xs ys (fold after_append ys more) (kept xs a (omega arith)) (grown ys more (omega arith))

-- of two logs, both of which begin a third, the shorter gives a front of what the longer gives where the lists differ by as many
-- entries as the logs by appends
begins_by_counts : (both xs ys : List Append) → IsPrefix xs both → IsPrefix ys both → length xs ≤ length ys
    → length (entries_after xs) + length ys ≡ length (entries_after ys) + length xs → IsPrefix (entries_after xs) (entries_after ys)
begins_by_counts both xs ys p q le counts =
    let more = prefix_shorter xs ys both p q le in
    let e : entries_after ys ≡ fold after_append (entries_after xs) more.0 = ap entries_after (sym more.1) ∙ fold-append after_append [] xs more.0 in
    let n : length ys ≡ length xs + length more.0 = ap length (sym more.1) ∙ length-append xs more.0 in
    let m : length (fold after_append (entries_after xs) more.0) ≡ length (entries_after ys) = ap length (sym e) in
    subst (λ (l : List PlainEntry). IsPrefix (entries_after xs) l) (sym e) (grown (entries_after xs) more.0 (omega arith))

pub begins_where_counted : (both xs ys : List Append) (a b : ℕ) → a ≡ length xs → b ≡ length ys → IsPrefix xs both → IsPrefix ys both
    → (nat_le a b && (length (entries_after xs) + b == length (entries_after ys) + a)) ≡ true → IsPrefix (entries_after xs) (entries_after ys)
begins_where_counted both xs ys a b at bt p q h =
    let le : a ≤ b = grind (arith, nat_tests) in
    let same : length (entries_after xs) + b ≡ length (entries_after ys) + a = grind (arith, nat_tests) in
    begins_by_counts both xs ys p q (omega arith) (omega arith)
