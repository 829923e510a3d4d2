-- Each event keeps what a course promises, and lets nothing fall.
use Rattle.std.proofs.Common.{◌≡◌, ℕ, zero, suc, ◌≤◌, ◌==◌, min, max, Bool, true, false, cond, List, [], ◌∷◌, ◌++◌, length, take, get_or, set, replicate, refl, sym, ◌∙◌, ap, subst, length-append, arith}
use Rattle.std.proofs.lemmas.Bool.{eqb-true}
use Rattle.std.proofs.lemmas.List.{length-take-le, take-append-le}
use Rattle.reg_entry.specs.declared.rooms.Rooms.{Rooms}
use Rattle.reg_entry.specs.declared.entry.Reply.{Reply}
use Rattle.reg_entry.specs.declared.entry.Reply.TheVariants.{Accepted, Refused}
use Rattle.reg_entry.specs.declared.request.Request.{Request}
use Rattle.reg_entry.specs.Entry.{PlainEntry}
use Rattle.reg_entry.specs.Policy.{PlainPolicy, IsPolicy}
use Rattle.reg_entry.specs.Request.{is_request}
use Rattle.reg_entry.specs.Register.{register_after, empty_register}
use Rattle.reg_entry.specs.Decision.{IfAccepted}
use Rattle.reg_entry.specs.Next.{IsNextEntry, IsLegal}
use Rattle.reg_entry.specs.Operations.{objects_after, operations_of}
use Rattle.reg_entry.specs.Whole.{IsWholeRegister}
use Rattle.reg_laws.proofs.Accepting.{accepted_is_next}
use Rattle.reg_laws.proofs.Reaching.{legal-append, register_of_legal, reached_once, reached_pooled, reached_sizes}
use Rattle.reg_laws.proofs.Leading.{operations_give}
use Rattle.reg_laws.proofs.WholeStep.{legal_whole}
use Rattle.course_core.specs.declared.event.Event.{Event}
use Rattle.course_core.specs.declared.event.Event.TheVariants.{Submit, Publish, Look, Tell, Pull}
use Rattle.course_core.specs.Course.{PlainCourse, new_course, head_register, register_at, published_entries, published_serial, seen_by, serial_of, decided, with_accepted, with_seen, after_event, after_events, said, is_lookup_by, counted, lookups_of}
use Rattle.course_core.specs.Promises.{IsEvent, AreEvents, KeepsPromises, NothingFalls, AreRisingPrefixes}
use Rattle.course_core.proofs.Prefixes.{legal_prefix, first_operations, serials_rise}

-- what goes on from event to event
pub record IsCourse (c : PlainCourse) : Type 0 where
  pub policy : IsPolicy c.policy
  pub legal : IsLegal c.rooms c.journal
  pub published : c.published ≤ length c.journal
  pub seen : (pass : ℕ) → seen_by c pass ≤ c.published
  pub fed : (mirror : ℕ) → serial_of c mirror ≤ published_serial c

-- ---- the promises at one moment

pub keeps_promises : (c : PlainCourse) → IsCourse c → KeepsPromises c
keeps_promises c h =
    let legal_at : (k : ℕ) → IsLegal c.rooms (take k c.journal) = λ k. legal_prefix (empty_register c.rooms) c.journal k h.legal in
    record {
      legal = h.legal;
      fronts = legal_at;
      published = h.published;
      seen = h.seen;
      fed = h.fed;
      whole = λ k. legal_whole c.rooms (take k c.journal) (legal_at k);
      cards = λ k n. reached_once (register_at c k) (take k c.journal) n (register_of_legal c.rooms (take k c.journal) (legal_at k));
      pooled = λ k n. reached_pooled (register_at c k) (take k c.journal) n (register_of_legal c.rooms (take k c.journal) (legal_at k));
      sizes = λ k space. reached_sizes (register_at c k) (take k c.journal) space (register_of_legal c.rooms (take k c.journal) (legal_at k));
      objects = λ k. ap objects_after (first_operations c.rooms c.journal k) ∙ operations_give c.rooms (take k c.journal) (legal_at k);
    }

-- ---- a list of counts of which one is raised

raised : (xs : List ℕ) (i j v : ℕ) → get_or xs i 0 ≤ v → get_or xs j 0 ≤ get_or (set xs i v) j 0
raised [] i j v h = omega arith
raised (x ∷ xs) zero zero v h = h
raised (x ∷ xs) zero (suc j) v h = omega arith
raised (x ∷ xs) (suc i) zero v h = omega arith
raised (x ∷ xs) (suc i) (suc j) v h = raised xs i j v h

bounded : (xs : List ℕ) (i j v most : ℕ) → ((k : ℕ) → get_or xs k 0 ≤ most) → v ≤ most → get_or (set xs i v) j 0 ≤ most
bounded [] i j v most h e = h j
bounded (x ∷ xs) zero zero v most h e = e
bounded (x ∷ xs) zero (suc j) v most h e = h (suc j)
bounded (x ∷ xs) (suc i) zero v most h e = h 0
bounded (x ∷ xs) (suc i) (suc j) v most h e = bounded xs i j v most (λ k. h (suc k)) e

none_yet : (n i : ℕ) → ◌≡◌ {A = ℕ} (get_or (replicate n 0) i 0) 0
none_yet zero i = refl
none_yet (suc n) zero = refl
none_yet (suc n) (suc i) = none_yet n i

-- ---- the journal with what was accepted

still_legal : (rooms : Rooms) (es : List PlainEntry) (reply : Reply) → IsLegal rooms es
    → IfAccepted reply (IsNextEntry (register_after rooms es)) → IsLegal rooms (with_accepted es reply)
still_legal rooms es (Accepted e) legal next = legal-append (empty_register rooms) es (e ∷ []) legal (next, tt)
still_legal rooms es (Refused refusal) legal next = legal

same_prefix : (es : List PlainEntry) (reply : Reply) (k : ℕ) → k ≤ length es → take k (with_accepted es reply) ≡ take k es
same_prefix es (Accepted e) k h = take-append-le k es (e ∷ []) h
same_prefix es (Refused refusal) k h = refl

no_shorter : (es : List PlainEntry) (reply : Reply) → length es ≤ length (with_accepted es reply)
no_shorter es (Accepted e) = omega (arith, length-append es (e ∷ []))
no_shorter es (Refused refusal) = omega arith

next_accepted : (c : PlainCourse) (day : ℕ) (who : List ℕ) (request : Request) → IsCourse c → is_request request ≡ true
    → IfAccepted (decided c day who request) (IsNextEntry (head_register c))
next_accepted c day who request h valid =
    let whole : IsWholeRegister (head_register c) = legal_whole c.rooms c.journal h.legal in
    accepted_is_next (head_register c) c.policy day who request
    (record { pool = whole.pieces; day = whole.days.1; policy = h.policy; valid = valid })

-- ---- one event more

-- the entries that are published stay when the journal goes on
same_published : (c : PlainCourse) (day : ℕ) (who : List ℕ) (request : Request) → IsCourse c
    → published_serial (after_event c (Submit day who request)) ≡ published_serial c
same_published c day who request h =
    ap (λ es. length (operations_of c.rooms es)) (same_prefix c.journal (decided c day who request) c.published h.published)

pub event_keeps : (c : PlainCourse) (e : Event) → IsCourse c → IsEvent e → IsCourse (after_event c e)
event_keeps c (Submit day who request) h valid = record {
  policy = h.policy;
  legal = still_legal c.rooms c.journal (decided c day who request) h.legal (next_accepted c day who request h valid);
  published = further (no_shorter c.journal (decided c day who request)) h.published;
  seen = h.seen;
  fed = λ mirror. subst (λ n. serial_of c mirror ≤ n) (sym (same_published c day who request h)) (h.fed mirror);
}
  where
    further : {a b m : ℕ} → a ≤ b → m ≤ a → m ≤ b
    further s t = omega arith
event_keeps c Publish h valid = record {
  policy = h.policy;
  legal = h.legal;
  published = omega arith;
  seen = λ pass. further (h.seen pass) h.published;
  fed = λ mirror. further (h.fed mirror) (serials_rise c.rooms c.journal c.published (length c.journal) h.published);
}
  where
    further : {a b m : ℕ} → m ≤ a → a ≤ b → m ≤ b
    further s t = omega arith
event_keeps c (Look pass) h valid = record {
  policy = h.policy;
  legal = h.legal;
  published = h.published;
  seen = λ other. bounded c.seen pass other c.published c.published h.seen (omega arith);
  fed = h.fed;
}
event_keeps c (Tell pass) h valid = record {
  policy = h.policy;
  legal = h.legal;
  published = h.published;
  seen = λ other. bounded c.seen pass other c.published c.published h.seen (omega arith);
  fed = h.fed;
}
event_keeps c (Pull mirror upto) h valid = record {
  policy = h.policy;
  legal = h.legal;
  published = h.published;
  seen = h.seen;
  fed = λ other. bounded c.serials mirror other _ (published_serial c) h.fed (within (serial_of c mirror) upto (published_serial c) (h.fed mirror));
}
  where
    within : (own upto last : ℕ) → own ≤ last → max own (min upto last) ≤ last
    within own upto last s = omega arith

pub event_raises : (c : PlainCourse) (e : Event) → IsCourse c → NothingFalls c (after_event c e)
event_raises c (Submit day who request) h = record {
  entries = no_shorter c.journal (decided c day who request);
  prefixes = same_prefix c.journal (decided c day who request);
  published = omega arith;
  seen = λ pass. omega arith;
  serials = λ mirror. omega arith;
}
event_raises c Publish h = record {
  entries = omega arith;
  prefixes = λ k s. refl;
  published = h.published;
  seen = λ pass. omega arith;
  serials = λ mirror. omega arith;
}
event_raises c (Look pass) h = record {
  entries = omega arith;
  prefixes = λ k s. refl;
  published = omega arith;
  seen = λ other. raised c.seen pass other c.published (h.seen pass);
  serials = λ mirror. omega arith;
}
event_raises c (Tell pass) h = record {
  entries = omega arith;
  prefixes = λ k s. refl;
  published = omega arith;
  seen = λ other. raised c.seen pass other c.published (h.seen pass);
  serials = λ mirror. omega arith;
}
event_raises c (Pull mirror upto) h = record {
  entries = omega arith;
  prefixes = λ k s. refl;
  published = omega arith;
  seen = λ pass. omega arith;
  serials = λ other. raised c.serials mirror other _ (own (serial_of c mirror) (min upto (published_serial c)));
}
  where
    own : (a b : ℕ) → a ≤ max a b
    own a b = omega arith

-- ---- every list of events

pub new_is_course : (rooms : Rooms) (policy : PlainPolicy) (passes mirrors : ℕ) → IsPolicy policy → IsCourse (new_course rooms policy passes mirrors)
new_is_course rooms policy passes mirrors valid = record {
  policy = valid;
  legal = tt;
  published = omega arith;
  seen = λ pass. subst (λ n. n ≤ 0) (sym (none_yet passes pass)) (omega arith);
  fed = λ mirror. subst (λ n. n ≤ 0) (sym (none_yet mirrors mirror)) (omega arith);
}

pub events_keep : (c : PlainCourse) (es : List Event) → IsCourse c → AreEvents es → IsCourse (after_events c es)
events_keep c [] h valid = h
events_keep c (e ∷ es) h valid = events_keep (after_event c e) es (event_keeps c e h valid.0) valid.1

nothing_falls_in_none : (c : PlainCourse) → NothingFalls c c
nothing_falls_in_none c = record {
  entries = omega arith;
  prefixes = λ k s. refl;
  published = omega arith;
  seen = λ pass. omega arith;
  serials = λ mirror. omega arith;
}

further_on : (a b c : PlainCourse) → NothingFalls a b → NothingFalls b c → NothingFalls a c
further_on a b c h t = record {
  entries = further h.entries t.entries;
  prefixes = λ k s. t.prefixes k (further s h.entries) ∙ h.prefixes k s;
  published = further h.published t.published;
  seen = λ pass. further (h.seen pass) (t.seen pass);
  serials = λ mirror. further (h.serials mirror) (t.serials mirror);
}
  where
    further : {a b m : ℕ} → m ≤ a → a ≤ b → m ≤ b
    further s t = omega arith

pub events_raise : (c : PlainCourse) (es : List Event) → IsCourse c → AreEvents es → NothingFalls c (after_events c es)
events_raise c [] h valid = nothing_falls_in_none c
events_raise c (e ∷ es) h valid =
    further_on c (after_event c e) (after_events (after_event c e) es) (event_raises c e h)
    (events_raise (after_event c e) es (event_keeps c e h valid.0) valid.1)

-- ---- the lookups of one pass

from_lower : {T : Type 0} (low high : ℕ) (ns : List ℕ) (xs : List T) → low ≤ high → AreRisingPrefixes high ns xs → AreRisingPrefixes low ns xs
from_lower low high [] xs s h = further s h
  where
    further : {a b m : ℕ} → m ≤ a → a ≤ b → m ≤ b
    further s t = omega arith
from_lower low high (n ∷ ns) xs s h = (further s h.0, h.1)
  where
    further : {a b m : ℕ} → m ≤ a → a ≤ b → m ≤ b
    further s t = omega arith

seen_is_published : (c : PlainCourse) (pass : ℕ) → IsCourse c → seen_by c pass ≤ length (published_entries c)
seen_is_published c pass h = subst (λ n. seen_by c pass ≤ n) (sym (length-take-le c.published c.journal h.published)) (h.seen pass)

-- what the pass looked up, or nothing, before what comes after it
row : {T : Type 0} (own : Bool) (low count now : ℕ) (ns : List ℕ) (xs : List T) → (own ≡ true → count ≡ now) → low ≤ now
    → AreRisingPrefixes now ns xs → AreRisingPrefixes low (cond own (count ∷ []) [] ++ ns) xs
row true low count now ns xs e s h = subst (λ n. AreRisingPrefixes low (n ∷ ns) xs) (sym (e refl)) (s, h)
row false low count now ns xs e s h = from_lower low now ns xs s h

pub lookups_rise : (pass : ℕ) (c : PlainCourse) (es : List Event) → IsCourse c → AreEvents es
    → AreRisingPrefixes (seen_by c pass) (lookups_of pass c es) (published_entries (after_events c es))
lookups_rise pass c [] h valid = seen_is_published c pass h
lookups_rise pass c (e ∷ es) h valid =
    let rest : AreRisingPrefixes (seen_by (after_event c e) pass) (lookups_of pass (after_event c e) es) (published_entries (after_events (after_event c e) es))
    = lookups_rise pass (after_event c e) es (event_keeps c e h valid.0) valid.1 in
    one pass c e _ _ ((event_raises c e h).seen pass) rest
  where
    one : (pass : ℕ) (c : PlainCourse) (e : Event) (ns : List ℕ) (xs : List PlainEntry) → seen_by c pass ≤ seen_by (after_event c e) pass
        → AreRisingPrefixes (seen_by (after_event c e) pass) ns xs
        → AreRisingPrefixes (seen_by c pass) (cond (is_lookup_by pass e) (counted (said c e)) [] ++ ns) xs
    one pass c (Submit day who request) ns xs s h = from_lower _ _ ns xs s h
    one pass c Publish ns xs s h = from_lower _ _ ns xs s h
    one pass c (Look other) ns xs s h =
        row (other == pass) _ (seen_by (with_seen c other) other) (seen_by (with_seen c other) pass) ns xs
        (λ t. ap (seen_by (with_seen c other)) (eqb-true other pass t)) s h
    one pass c (Tell other) ns xs s h =
        row (other == pass) _ (seen_by (with_seen c other) other) (seen_by (with_seen c other) pass) ns xs
        (λ t. ap (seen_by (with_seen c other)) (eqb-true other pass t)) s h
    one pass c (Pull mirror upto) ns xs s h = from_lower _ _ ns xs s h
