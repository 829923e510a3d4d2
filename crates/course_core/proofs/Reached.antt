-- The courses of lists of events go on with each event more.
use Rattle.std.proofs.Common.{◌≡◌, ℕ, zero, suc, ◌+◌, ◌^◌, ◌<◌, min, max, List, [], ◌∷◌, ◌++◌, length, take, get_or, refl, sym, ◌∙◌, ap, subst, length-append, arith}
use Rattle.std.proofs.lemmas.List.{take-append-le}
use Rattle.std.proofs.Math.Seq.{take-length}
use Rattle.reg_entry.specs.declared.rooms.Rooms.{Rooms}
use Rattle.reg_entry.specs.declared.entry.Reply.TheVariants.{Accepted}
use Rattle.reg_entry.specs.declared.object.Object.{Object}
use Rattle.reg_entry.specs.declared.object.Act.{Act}
use Rattle.reg_entry.specs.declared.request.Request.{Request}
use Rattle.reg_entry.specs.Entry.{PlainEntry}
use Rattle.reg_entry.specs.Policy.{PlainPolicy, IsPolicy}
use Rattle.reg_entry.specs.Register.{Register, register_after, after_entry, after_entries, empty_register}
use Rattle.reg_entry.specs.Operations.{changes_of, numbered, operations_from, operations_of}
use Rattle.reg_laws.proofs.Reaching.{after_entries-append}
use Rattle.course_core.specs.declared.event.Event.{Event}
use Rattle.course_core.specs.declared.event.Event.TheVariants.{Submit, Publish, Look, Tell, Pull}
use Rattle.course_core.specs.Course.{PlainCourse, new_course, head_register, decided, with_accepted, with_seen, with_fed, after_event, after_events}
use Rattle.course_core.specs.Promises.{IsEvent, AreEvents, KeepsPromises}
use Rattle.course_core.specs.Kept.{IsReached, kept_serial, IsKeptAs}
use Rattle.course_core.proofs.Keeping.{IsCourse, keeps_promises, new_is_course, events_keep}

-- ---- reached

after_more : (c : PlainCourse) (es : List Event) (e : Event) → after_events c (es ++ e ∷ []) ≡ after_event (after_events c es) e
after_more c [] e = refl
after_more c (f ∷ es) e = after_more (after_event c f) es e

are_more : (es : List Event) (e : Event) → AreEvents es → IsEvent e → AreEvents (es ++ e ∷ [])
are_more [] e h t = (t, tt)
are_more (f ∷ es) e h t = (h.0, are_more es e h.1 t)

pub is_course : (c : PlainCourse) → IsReached c → IsCourse c
is_course c h = subst IsCourse h.same (events_keep (new_course c.rooms c.policy h.passes h.mirrors) h.events (new_is_course c.rooms c.policy h.passes h.mirrors h.policy) h.are)

pub reached_promises : (c : PlainCourse) → IsReached c → KeepsPromises c
reached_promises c h = keeps_promises c (is_course c h)

terms_stay : (c : PlainCourse) (e : Event) → ((after_event c e).rooms ≡ c.rooms) × ((after_event c e).policy ≡ c.policy)
terms_stay c (Submit day who request) = (refl, refl)
terms_stay c Publish = (refl, refl)
terms_stay c (Look pass) = (refl, refl)
terms_stay c (Tell pass) = (refl, refl)
terms_stay c (Pull mirror upto) = (refl, refl)

pub reached_more : (c : PlainCourse) (e : Event) → IsReached c → IsEvent e → IsReached (after_event c e)
reached_more c e h valid =
    let terms = terms_stay c e in
    record {
      passes = h.passes;
      mirrors = h.mirrors;
      events = h.events ++ e ∷ [];
      policy = subst IsPolicy (sym terms.1) h.policy;
      are = are_more h.events e h.are valid;
      same =
          ap (λ (x : Rooms). after_events (new_course x (after_event c e).policy h.passes h.mirrors) (h.events ++ e ∷ [])) terms.0
          ∙ ap (λ (x : PlainPolicy). after_events (new_course c.rooms x h.passes h.mirrors) (h.events ++ e ∷ [])) terms.1
          ∙ after_more (new_course c.rooms c.policy h.passes h.mirrors) h.events e
          ∙ ap (λ (x : PlainCourse). after_event x e) h.same;
    }

pub reached_new : (rooms : Rooms) (policy : PlainPolicy) (passes mirrors : ℕ) → IsPolicy policy → IsReached (new_course rooms policy passes mirrors)
reached_new rooms policy passes mirrors valid = record { passes = passes; mirrors = mirrors; events = []; policy = valid; are = tt; same = refl }

-- ---- serials

numbered-length : (last : ℕ) (cs : List (Act × Object)) → length (numbered last cs) ≡ length cs
numbered-length last [] = refl
numbered-length last (c ∷ cs) = ap (λ (n : ℕ). suc n) (numbered-length (last + 1) cs)

pub operations_more : (rooms : Rooms) (es : List PlainEntry) (e : PlainEntry)
    → length (operations_of rooms (es ++ e ∷ [])) ≡ length (operations_of rooms es) + length (changes_of (register_after rooms es) e)
operations_more rooms es e = from (empty_register rooms) 0 es e
  where
    from : (r : Register) (last : ℕ) (es : List PlainEntry) (e : PlainEntry)
        → length (operations_from r last (es ++ e ∷ [])) ≡ length (operations_from r last es) + length (changes_of (after_entries r es) e)
    from r last [] e =
        let a = length-append (numbered last (changes_of r e)) [] in
        let b = numbered-length last (changes_of r e) in
        omega arith
    from r last (f ∷ es) e =
        let a = length-append (numbered last (changes_of r f)) (operations_from (after_entry r f) (last + length (changes_of r f)) (es ++ e ∷ [])) in
        let b = length-append (numbered last (changes_of r f)) (operations_from (after_entry r f) (last + length (changes_of r f)) es) in
        let c = from (after_entry r f) (last + length (changes_of r f)) es e in
        omega arith

-- ---- kept

abbrev submitted : PlainCourse → List PlainEntry → PlainCourse
submitted c es = record c { journal = es }

-- the course with the entry that was accepted
pub kept_accepted : (c : PlainCourse) (before after new copy : Register) (serial published changes sum : ℕ) (day : ℕ) (who : List ℕ) (request : Request) (e : PlainEntry)
    → IsKeptAs c before after serial published → IsEvent (Submit day who request) → decided c day who request ≡ Accepted e
    → new ≡ after_entry before e → copy ≡ after_entry after e → changes ≡ kept_serial (length (changes_of before e)) → sum ≡ kept_serial (serial + changes)
    → IsKeptAs (submitted c (c.journal ++ e ∷ [])) new copy sum published
kept_accepted c before after new copy serial published changes sum day who request e h valid is new_is copy_is changes_is sum_is =
    let journal : with_accepted c.journal (decided c day who request) ≡ c.journal ++ e ∷ [] = ap (with_accepted c.journal) is in
    let more : register_after c.rooms (c.journal ++ e ∷ []) ≡ after_entry (head_register c) e = after_entries-append (empty_register c.rooms) c.journal (e ∷ []) in
    let within = (is_course c h.reached).published in
    let same : take c.published (c.journal ++ e ∷ []) ≡ take c.published c.journal = take-append-le c.published c.journal (e ∷ []) within in
    record {
      reached = subst (λ es. IsReached (submitted c es)) journal (reached_more c (Submit day who request) h.reached valid);
      head = new_is ∙ ap (λ (r : Register). after_entry r e) h.head ∙ sym more;
      copy = copy_is ∙ ap (λ (r : Register). after_entry r e) h.copy ∙ sym more;
      serial_is =
          let count = operations_more c.rooms c.journal e in
          let own : length (changes_of before e) ≡ length (changes_of (head_register c) e) = ap (λ (r : Register). length (changes_of r e)) h.head in
          let so_far = h.serial_is in
          omega arith;
      published_is = h.published_is ∙ ap (λ (es : List PlainEntry). kept_serial (length (operations_of c.rooms es))) (sym same);
    }

pub kept_published : (c : PlainCourse) (before after : Register) (serial published : ℕ) → IsKeptAs c before after serial published
    → IsKeptAs (after_event c Publish) before after serial serial
kept_published c before after serial published h = record {
  reached = reached_more c Publish h.reached tt;
  head = h.head;
  copy = h.copy;
  serial_is = h.serial_is;
  published_is = h.serial_is ∙ ap (λ (es : List PlainEntry). kept_serial (length (operations_of c.rooms es))) (sym (take-length c.journal));
}

pub kept_seen : (c : PlainCourse) (before after : Register) (serial published pass : ℕ) → IsKeptAs c before after serial published
    → IsKeptAs (with_seen c pass) before after serial published
kept_seen c before after serial published pass h = record {
  reached = reached_more c (Look pass) h.reached tt;
  head = h.head;
  copy = h.copy;
  serial_is = h.serial_is;
  published_is = h.published_is;
}

pub kept_fed : (c : PlainCourse) (before after : Register) (serial published mirror upto : ℕ) → IsKeptAs c before after serial published
    → IsKeptAs (with_fed c mirror upto) before after serial published
kept_fed c before after serial published mirror upto h = record {
  reached = reached_more c (Pull mirror upto) h.reached tt;
  head = h.head;
  copy = h.copy;
  serial_is = h.serial_is;
  published_is = h.published_is;
}

-- a serial of the type is no greater than the last, where it is no greater than the last as it is kept
pub fed_to : (own now upto last kept : ℕ) → now ≡ own → upto < 2 ^ 64 → kept ≡ kept_serial last → max now (min upto kept) ≡ max own (min upto last)
fed_to own now upto last kept same fits is = omega arith

-- reading a list does not depend on what is read past its end
pub read_as : (xs : List ℕ) (i d n : ℕ) → i < length xs → n ≡ get_or xs i n → n ≡ get_or xs i d
read_as [] i d n h e = absurd (omega arith)
read_as (x ∷ xs) zero d n h e = e
read_as (x ∷ xs) (suc i) d n h e = read_as xs i d n (omega arith) e

pub kept_as : (c : PlainCourse) (rooms : Rooms) (journal es : List PlainEntry) (new copy : Register) (sum published : ℕ) → rooms ≡ c.rooms → journal ≡ es
    → IsKeptAs (submitted c es) new copy sum published
    → IsKeptAs (record { rooms = rooms; policy = c.policy; journal = journal; published = c.published; seen = c.seen; serials = c.serials }) new copy sum published
kept_as c rooms journal es new copy sum published same is h =
    subst (λ (r : Rooms). IsKeptAs (record { rooms = r; policy = c.policy; journal = journal; published = c.published; seen = c.seen; serials = c.serials }) new copy sum published) (sym same)
    (subst (λ (xs : List PlainEntry). IsKeptAs (submitted c xs) new copy sum published) (sym is) h)
