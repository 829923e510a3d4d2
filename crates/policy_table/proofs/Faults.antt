-- The faults of the definitions are those of their keys.
use Rattle.std.proofs.Common.{◌≡◌, ◌≢◌, ℕ, ℤ, ◌+◌, ◌<◌, ◌≤◌, Bool, true, false, cond, List, Option, Some, None, Result, Ok, Err, lit≤, arith, subst}
use Rattle.std.specs.Prelude.{IfErr}
use Rattle.num_range.specs.declared.space.Space.{Space}
use Rattle.num_range.specs.declared.space.Space.TheVariants.{Asn, Ipv4, Ipv6}
use Rattle.reg_entry.specs.declared.request.Delegation.{Delegation}
use Rattle.reg_entry.specs.declared.request.Delegation.TheVariants.{Allocate, Assign}
use Rattle.toml.specs.Data.{Members, as_integer}
use Rattle.policy_table.specs.declared.fault.PolicyFault.{PolicyFault}
use Rattle.policy_table.specs.declared.fault.PolicyFault.TheVariants.{TooLong, Text, Missing, Wrong, Bounds, NoMemory}
use Rattle.policy_table.specs.Section.{◌>>=◌, or_fault, number_between, Gives, value_at, table_at, array_at, text_at, integer_at, host_at, texts_at}
use Rattle.policy_table.specs.Hostmasters.{named_texts_at, hostmasters_at}
use Rattle.policy_table.specs.Rows.{percent_at, kinds_key, kinds_at, row_at, rows_at}
use Rattle.policy_table.specs.Zone.{servers_at, zone_at}
use Rattle.policy_table.specs.Document.{document_of}
use Rattle.policy_table.specs.Policy.{registry_at, policy_in, HasKey}

err_is : {X : Type 0} (d e : PolicyFault) → ◌≡◌ {A = Result X PolicyFault} (Err d) (Err e) → d ≡ e
err_is d e h = cc

-- any fault but the file's length
abbrev pub IsInner : PolicyFault → Type 0
IsInner e = HasKey e × (e ≢ TooLong)

pub record Fails {A : Type 0} (r : Result A PolicyFault) : Type 0 where
  pub fault : IfErr r IsInner

pub record IsKey (key : ℕ) : Type 0 where
  pub least : 1 ≤ key
  pub most : key ≤ 39

fails_then : {A B : Type 0} (r : Result A PolicyFault) (f : A → Result B PolicyFault) → Fails r → ((x : A) → Fails (f x)) → Fails (r >>= f)
fails_then (Ok x) f h k = k x
fails_then (Err e) f h k = record { fault = h.fault }

fails_or : {A : Type 0} (e : PolicyFault) (o : Option A) → IsInner e → Fails (or_fault e o)
fails_or e None h = record { fault = h }
fails_or e (Some x) h = record { fault = tt }

fine : {A : Type 0} (x : A) → Fails (Ok x)
fine x = record { fault = tt }

fails_by : {A : Type 0} (e : PolicyFault) → IsInner e → Fails {A = A} (Err e)
fails_by e h = record { fault = h }

fails_if : {A : Type 0} (b : Bool) (x y : Result A PolicyFault) → Fails x → Fails y → Fails (cond b x y)
fails_if true x y h k = h
fails_if false x y h k = k

missing : (key : ℕ) → IsKey key → IsInner (Missing key)
missing key k = ((k.least, k.most), λ e. cc)

wrong : (key : ℕ) → IsKey key → IsInner (Wrong key)
wrong key k = ((k.least, k.most), λ e. cc)

bounds : (key : ℕ) → IsKey key → IsInner (Bounds key)
bounds key k = ((k.least, k.most), λ e. cc)

value_fails : (key : ℕ) (name : List ℕ) (table : Members) → IsKey key → Fails (value_at key name table)
value_fails key name table k = fails_or _ _ (missing key k)

table_fails : (key : ℕ) (name : List ℕ) (table : Members) → IsKey key → Fails (table_at key name table)
unfolding table_at
table_fails key name table k = fails_then _ _ (value_fails key name table k) (λ v. fails_or _ _ (wrong key k))

array_fails : (key : ℕ) (name : List ℕ) (table : Members) → IsKey key → Fails (array_at key name table)
unfolding array_at
array_fails key name table k = fails_then _ _ (value_fails key name table k) (λ v. fails_or _ _ (wrong key k))

text_fails : (key : ℕ) (name : List ℕ) (table : Members) → IsKey key → Fails (text_at key name table)
unfolding text_at
text_fails key name table k = fails_then _ _ (value_fails key name table k) (λ v. fails_or _ _ (wrong key k))

integer_fails : (key : ℕ) (name : List ℕ) (low high : ℕ) (table : Members) → IsKey key → Fails (integer_at key name low high table)
unfolding integer_at
integer_fails key name low high table k =
    fails_then _ _ (value_fails key name table k) (λ v.
    fails_then {A = ℤ} _ _ (fails_or _ (as_integer v) (wrong key k)) (λ z.
    fails_or _ (number_between low high z) (bounds key k)))

host_fails : (key : ℕ) (name : List ℕ) (table : Members) → IsKey key → Fails (host_at key name table)
unfolding host_at
host_fails key name table k = fails_then _ _ (text_fails key name table k) (λ t. fails_if _ _ _ (fine _) (fails_by _ (bounds key k)))

texts_fails : (key : ℕ) (name : List ℕ) (table : Members) → IsKey key → Fails (texts_at key name table)
unfolding texts_at
texts_fails key name table k = fails_then _ _ (array_fails key name table k) (λ t. fails_if _ _ _ (fine _) (fails_by _ (wrong key k)))

named_texts_fails : (key : ℕ) (name : List ℕ) (table : Members) → IsKey key → Fails (named_texts_at key name table)
unfolding named_texts_at
named_texts_fails key name table k = fails_then _ _ (table_fails key name table k) (λ t. fails_if _ _ _ (fine _) (fails_by _ (wrong key k)))

hostmasters_fails : (key : ℕ) (name : List ℕ) (table : Members) → IsKey key → Fails (hostmasters_at key name table)
unfolding hostmasters_at
hostmasters_fails key name table k = fails_then _ _ (named_texts_fails key name table k) (λ t. fails_if _ _ _ (fine _) (fails_by _ (bounds key k)))

registry_fails : (key : ℕ) (name : List ℕ) (table : Members) → IsKey key → Fails (registry_at key name table)
unfolding registry_at
registry_fails key name table k = fails_then _ _ (text_fails key name table k) (λ t. fails_if _ _ _ (fine _) (fails_by _ (bounds key k)))

servers_fails : (key : ℕ) (name : List ℕ) (table : Members) → IsKey key → Fails (servers_at key name table)
unfolding servers_at
servers_fails key name table k = fails_then _ _ (texts_fails key name table k) (λ t. fails_if _ _ _ (fine _) (fails_by _ (bounds key k)))

kinds_fails : (key : ℕ) (table : Members) → IsKey key → Fails (kinds_at key table)
unfolding kinds_at
kinds_fails key table k = fails_then _ _ (texts_fails key _ table k) (λ t. fails_if _ _ _ (fine _) (fails_by _ (bounds key k)))

percent_fails : (key : ℕ) (delegation : Delegation) (table : Members) → IsKey key → Fails (percent_at key delegation table)
unfolding percent_at
percent_fails key Allocate table k = integer_fails key _ _ _ table k
percent_fails key Assign table k = fine 0

-- the kinds are the last key
kinds_key_last : (first : ℕ) (delegation : Delegation) → first + 3 ≤ kinds_key first delegation
kinds_key_last first Allocate = omega arith
kinds_key_last first Assign = omega arith

row_fails : (first : ℕ) (space : Space) (delegation : Delegation) (section : Members) → 1 ≤ first → kinds_key first delegation ≤ 39 → Fails (row_at first space delegation section)
unfolding row_at
row_fails first space delegation section low high =
    let at : (n : ℕ) → n ≤ 3 → IsKey (first + n) = λ n h. record { least = omega arith; most = omega (arith, kinds_key_last first delegation) } in
    let here : IsKey first = record { least = low; most = omega (arith, kinds_key_last first delegation) } in
    let last : IsKey (kinds_key first delegation) = record { least = omega (arith, kinds_key_last first delegation); most = high } in
    fails_then _ _ (table_fails first _ section here) (λ row.
    fails_then _ _ (integer_fails first _ _ _ row here) (λ least.
    fails_then _ _ (integer_fails (first + 1) _ _ _ row (at 1 (lit≤ tt))) (λ most.
    fails_then _ _ (integer_fails (first + 2) _ _ _ row (at 2 (lit≤ tt))) (λ cap.
    fails_then _ _ (percent_fails (first + 3) delegation row (at 3 (lit≤ tt))) (λ percent.
    fails_then _ _ (kinds_fails (kinds_key first delegation) row last) (λ kinds. fine _))))))

rows_fails : (first : ℕ) (space : Space) (top : Members) → 1 ≤ first → first ≤ 31 → Fails (rows_at first space top)
unfolding rows_at
rows_fails first space top low high =
    fails_then _ _ (table_fails first _ top (record { least = low; most = omega arith })) (λ section.
    fails_then _ _ (row_fails first space Allocate section low (omega arith)) (λ allocated.
    fails_then _ _ (row_fails (first + 5) space Assign section (omega arith) (omega arith)) (λ assigned. fine _)))

key_at : (key : ℕ) → 1 ≤ key → key ≤ 39 → IsKey key
key_at key least most = record { least = least; most = most }

zone_fails : (top : Members) → Fails (zone_at top)
unfolding zone_at
zone_fails top =
    fails_then _ _ (table_fails 5 _ top (key_at 5 (lit≤ tt) (lit≤ tt))) (λ zone.
    fails_then _ _ (host_fails 5 _ zone (key_at 5 (lit≤ tt) (lit≤ tt))) (λ mname.
    fails_then _ _ (host_fails 6 _ zone (key_at 6 (lit≤ tt) (lit≤ tt))) (λ rname.
    fails_then _ _ (integer_fails 7 _ _ _ zone (key_at 7 (lit≤ tt) (lit≤ tt))) (λ ttl.
    fails_then _ _ (integer_fails 8 _ _ _ zone (key_at 8 (lit≤ tt) (lit≤ tt))) (λ refresh.
    fails_then _ _ (integer_fails 9 _ _ _ zone (key_at 9 (lit≤ tt) (lit≤ tt))) (λ retry.
    fails_then _ _ (integer_fails 10 _ _ _ zone (key_at 10 (lit≤ tt) (lit≤ tt))) (λ expire.
    fails_then _ _ (integer_fails 11 _ _ _ zone (key_at 11 (lit≤ tt) (lit≤ tt))) (λ minimum.
    fails_then _ _ (servers_fails 12 _ zone (key_at 12 (lit≤ tt) (lit≤ tt))) (λ servers. fine _)))))))))

pub policy_fails : (top : Members) → Fails (policy_in top)
unfolding policy_in
policy_fails top =
    fails_then _ _ (registry_fails 1 _ top (key_at 1 (lit≤ tt) (lit≤ tt))) (λ registry.
    fails_then _ _ (integer_fails 2 _ _ _ top (key_at 2 (lit≤ tt) (lit≤ tt))) (λ quarantine_days.
    fails_then _ _ (integer_fails 3 _ _ _ top (key_at 3 (lit≤ tt) (lit≤ tt))) (λ hold_days.
    fails_then _ _ (hostmasters_fails 4 _ top (key_at 4 (lit≤ tt) (lit≤ tt))) (λ hostmasters.
    fails_then _ _ (zone_fails top) (λ zone.
    fails_then _ _ (rows_fails 13 Ipv4 top (lit≤ tt) (lit≤ tt)) (λ ipv4.
    fails_then _ _ (rows_fails 22 Ipv6 top (lit≤ tt) (lit≤ tt)) (λ ipv6.
    fails_then _ _ (rows_fails 31 Asn top (lit≤ tt) (lit≤ tt)) (λ asn. fine _))))))))

pub document_fails : (bytes : List ℕ) → Fails (document_of bytes)
unfolding document_of
document_fails bytes = fails_if _ _ _ (fails_or _ _ (tt, λ e. cc)) (fails_by _ (tt, λ e. cc))

-- an error that isn't want of memory is the answer's, and want of memory is no fault of the file
pub inner : {A : Type 0} (e : PolicyFault) (answer : Result A PolicyFault) → Fails answer → (e ≢ NoMemory → answer ≡ Err e) → IsInner e
inner NoMemory answer fails same = (tt, λ e. cc)
inner TooLong answer fails same = let P : Result _ PolicyFault → Type 0 = λ r. IfErr r IsInner in subst P (same (λ e. cc)) fails.fault
inner Text answer fails same = let P : Result _ PolicyFault → Type 0 = λ r. IfErr r IsInner in subst P (same (λ e. cc)) fails.fault
inner (Missing key) answer fails same = let P : Result _ PolicyFault → Type 0 = λ r. IfErr r IsInner in subst P (same (λ e. cc)) fails.fault
inner (Wrong key) answer fails same = let P : Result _ PolicyFault → Type 0 = λ r. IfErr r IsInner in subst P (same (λ e. cc)) fails.fault
inner (Bounds key) answer fails same = let P : Result _ PolicyFault → Type 0 = λ r. IfErr r IsInner in subst P (same (λ e. cc)) fails.fault

-- what was returned for a file of an allowed length
pub inner_result : {X A : Type 0} (view : X → A) (result : Result X PolicyFault) (answer : Result A PolicyFault) → Fails answer → Gives view result answer → IfErr result IsInner
inner_result view (Ok x) answer fails same = tt
inner_result view (Err e) answer fails same = inner e answer fails same

not_too_long : {X : Type 0} (result : Result X PolicyFault) → IfErr result IsInner → result ≡ Err TooLong → ⊥
not_too_long (Ok x) h e = cc
not_too_long (Err e) h is = h.1 (err_is e TooLong is)

pub short_answer : {X : Type 0} (result : Result X PolicyFault) (n : ℕ) → IfErr result IsInner → n ≤ 65536 → (result ≡ Err TooLong → 65536 < n) × (65536 < n → result ≡ Err TooLong)
short_answer result n h short = (λ is. absurd (not_too_long result h is), λ long. absurd (omega arith))

pub key_answer : {X : Type 0} (result : Result X PolicyFault) → IfErr result IsInner → IfErr result HasKey
key_answer (Ok x) h = tt
key_answer (Err e) h = h.0
