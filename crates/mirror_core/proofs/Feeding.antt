-- What feeding does, byte by byte, and so what it does with stretches of bytes.
use Rattle.std.proofs.Common.{◌≡◌, ℕ, ◌+◌, ◌-◌, ◌^◌, ◌≤◌, List, [], ◌∷◌, ◌++◌, length, Option, None, Some, Result, Ok, Err, IfSome, inl, inr, refl, sym, ap, ◌∙◌, subst, arith, append_assoc}
use Rattle.std.specs.Str.Lines.{strip_carriage_return}
use Rattle.mirror_core.specs.declared.fault.FeedFault.{FeedFault}
use Rattle.mirror_core.specs.declared.fault.FeedFault.TheVariants.{Spelling, Gap, ForeignSource, ClassOut, Announced, NoMemory}
use Rattle.mirror_core.specs.Mirror.{PlainMirror, PlainStream, later, broken, passed}
use Rattle.mirror_core.specs.Line.{after_line}
use Rattle.mirror_core.specs.Feed.{behind_line, with_byte, after_byte, fed}
use Rattle.mirror_core.specs.Replica.{PlainReplica, mirror_with, standing, IsBehind}
use Rattle.mirror_core.specs.Fed.{IsFedWith, IsOutOfMemory, IsFed, IsStill}

-- ---- pieces

pub fed_more : (m : PlainMirror) (bytes more : List ℕ) → fed (fed m bytes) more ≡ fed m (bytes ++ more)
fed_more m [] more = refl
fed_more m (b ∷ bytes) more = fed_more (after_byte m b) bytes more

-- ---- places

later_later : (place a b : ℕ) → later (later place a) b ≡ later place (a + b)
later_later place a b = omega arith

later_none : (place : ℕ) → place ≤ 2 ^ 64 - 1 → later place 0 ≡ place
later_none place h = omega arith

pub broken_more : (m : PlainMirror) (a b : ℕ) (f : FeedFault) → broken (broken m a f) b f ≡ broken m (a + b) f
broken_more m a b f =
    ap (λ (place : ℕ). record { source = m.source; objects = m.objects; serial = m.serial; stream = None; line = []; place = place; fault = Some f })
    (later_later m.place a b)

-- ---- after a fault

abbrev by_fault : PlainMirror → ℕ → Option FeedFault → PlainMirror
by_fault m b fault = elim fault [
  | None ↦ with_byte m b
  | Some f ↦ broken m 1 f
]

pub sound_byte : (m : PlainMirror) (b : ℕ) → m.fault ≡ None → after_byte m b ≡ with_byte m b
sound_byte m b h = ap (by_fault m b) h

fault_byte : (m : PlainMirror) (b : ℕ) (f : FeedFault) → m.fault ≡ Some f → after_byte m b ≡ broken m 1 f
fault_byte m b f h = ap (by_fault m b) h

pub fed_stopped : (m : PlainMirror) (f : FeedFault) → m.fault ≡ Some f → (b : ℕ) (bytes : List ℕ) → fed m (b ∷ bytes) ≡ broken m (length (b ∷ bytes)) f
fed_stopped m f h b [] = fault_byte m b f h
fed_stopped m f h b (c ∷ bytes) =
    ap (λ (n : PlainMirror). fed n (c ∷ bytes)) (fault_byte m b f h) ∙ fed_stopped (broken m 1 f) f refl c bytes ∙ broken_more m 1 (length (c ∷ bytes)) f
    ∙ ap (λ (n : ℕ). broken m n f) (omega arith)

-- the fault stays
pub fault_stays : (m : PlainMirror) (f : FeedFault) → m.fault ≡ Some f → (bytes : List ℕ)
    → ((fed m bytes).objects ≡ m.objects) × ((fed m bytes).serial ≡ m.serial) × ((fed m bytes).fault ≡ m.fault)
fault_stays m f h [] = (refl, refl, refl)
fault_stays m f h (b ∷ bytes) =
    let stopped = fed_stopped m f h b bytes in
    (ap (λ (n : PlainMirror). n.objects) stopped, ap (λ (n : PlainMirror). n.serial) stopped, ap (λ (n : PlainMirror). n.fault) stopped ∙ sym h)

stopped_parts : (m : PlainMirror) (f : FeedFault) → m.fault ≡ Some f → IsStill m → (m.stream ≡ None) × (m.line ≡ [])
stopped_parts m f h still = subst (λ (o : Option FeedFault). IfSome o (λ _. (m.stream ≡ None) × (m.line ≡ []))) h still.stopped

-- after a fault the place alone goes on
pub passed_fed : (m : PlainMirror) (f : FeedFault) → m.fault ≡ Some f → IsStill m → (bytes : List ℕ) → passed m (length bytes) ≡ fed m bytes
passed_fed m f h still [] =
    ap (λ (place : ℕ). record { source = m.source; objects = m.objects; serial = m.serial; stream = m.stream; line = m.line; place = place; fault = m.fault })
    (later_none m.place still.fits)
passed_fed m f h still (b ∷ bytes) =
    let parts = stopped_parts m f h still in
    let made : Option PlainStream → List ℕ → Option FeedFault → PlainMirror =
    λ (s : Option PlainStream) (l : List ℕ) (o : Option FeedFault). record { source = m.source; objects = m.objects; serial = m.serial; stream = s; line = l; place = later m.place (length (b ∷ bytes)); fault = o } in
    ap (λ (s : Option PlainStream). made s m.line m.fault) parts.0 ∙ ap (λ (l : List ℕ). made None l m.fault) parts.1 ∙ ap (λ (o : Option FeedFault). made None [] o) h
    ∙ sym (fed_stopped m f h b bytes)

-- ---- what is answered

pub told : (old : PlainMirror) (bytes : List ℕ) (new : PlainMirror) (f : FeedFault) → new ≡ fed old bytes → new.fault ≡ Some f → IsFed old bytes new (Err f)
told old bytes new (Spelling place) is fault = (is, fault)
told old bytes new (Gap want got) is fault = (is, fault)
told old bytes new (ForeignSource place) is fault = (is, fault)
told old bytes new (ClassOut place) is fault = (is, fault)
told old bytes new (Announced place) is fault = (is, fault)
told old bytes new NoMemory is fault = inl (is, fault)

fed_with : (m : PlainMirror) (front rest : List ℕ) (new : PlainMirror) (fault : Option FeedFault) → IsFedWith (fed m front) rest new fault → IsFedWith m (front ++ rest) new fault
fed_with m front rest new fault h = (h.0 ∙ fed_more m front rest, h.1)

out_of_memory : (m : PlainMirror) (front rest : List ℕ) (new : PlainMirror) → IsOutOfMemory (fed m front) rest new → IsOutOfMemory m (front ++ rest) new
out_of_memory m front rest new h = record {
  front = front ++ h.front;
  rest = h.rest;
  count = h.count;
  split = ap (λ (t : List ℕ). front ++ t) h.split ∙ sym (append_assoc front h.front h.rest);
  sound = ap (λ (n : PlainMirror). n.fault) (sym (fed_more m front h.front)) ∙ h.sound;
  stopped = h.stopped ∙ ap (λ (n : PlainMirror). broken n h.count NoMemory) (fed_more m front h.front);
}

-- a feed behind others
pub behind : (m : PlainMirror) (front rest : List ℕ) (new : PlainMirror) (result : Result (Unit {0}) FeedFault) → IsFed (fed m front) rest new result → IsFed m (front ++ rest) new result
behind m front rest new (Ok u) h = fed_with m front rest new None h
behind m front rest new (Err (Spelling place)) h = fed_with m front rest new (Some (Spelling place)) h
behind m front rest new (Err (Gap want got)) h = fed_with m front rest new (Some (Gap want got)) h
behind m front rest new (Err (ForeignSource place)) h = fed_with m front rest new (Some (ForeignSource place)) h
behind m front rest new (Err (ClassOut place)) h = fed_with m front rest new (Some (ClassOut place)) h
behind m front rest new (Err (Announced place)) h = fed_with m front rest new (Some (Announced place)) h
behind m front rest new (Err NoMemory) (inl h) = inl (fed_with m front rest new (Some NoMemory) h)
behind m front rest new (Err NoMemory) (inr h) = inr (out_of_memory m front rest new h)

passed_with : (m : PlainMirror) (front rest : List ℕ) (new : PlainMirror) (f : FeedFault) → IsStill new → IsFedWith m front new (Some f) → IsFedWith m (front ++ rest) (passed new (length rest)) (Some f)
passed_with m front rest new f still h =
    (passed_fed new f h.1 still rest ∙ ap (λ (n : PlainMirror). fed n rest) h.0 ∙ fed_more m front rest, h.1)

passed_without : (m : PlainMirror) (front rest : List ℕ) (new : PlainMirror) → IsOutOfMemory m front new → IsOutOfMemory m (front ++ rest) (passed new (length rest))
passed_without m front rest new h = record {
  front = h.front;
  rest = h.rest ++ rest;
  count = h.count + length rest;
  split = ap (λ (t : List ℕ). t ++ rest) h.split ∙ append_assoc h.front h.rest rest;
  sound = h.sound;
  stopped = ap (λ (n : PlainMirror). passed n (length rest)) h.stopped ∙ broken_more (fed m h.front) h.count (length rest) NoMemory;
}

-- more bytes behind a fault
pub followed : (m : PlainMirror) (front rest : List ℕ) (new : PlainMirror) (f : FeedFault) → IsStill new → IsFed m front new (Err f)
    → IsFed m (front ++ rest) (passed new (length rest)) (Err f)
followed m front rest new (Spelling place) still h = passed_with m front rest new (Spelling place) still h
followed m front rest new (Gap want got) still h = passed_with m front rest new (Gap want got) still h
followed m front rest new (ForeignSource place) still h = passed_with m front rest new (ForeignSource place) still h
followed m front rest new (ClassOut place) still h = passed_with m front rest new (ClassOut place) still h
followed m front rest new (Announced place) still h = passed_with m front rest new (Announced place) still h
followed m front rest new NoMemory still (inl h) = inl (passed_with m front rest new NoMemory still h)
followed m front rest new NoMemory still (inr h) = inr (passed_without m front rest new h)

-- ---- lines one by one

-- a front of the bytes was fed, and these are left
pub record HasFed (old : PlainMirror) (bytes : List ℕ) (now : PlainMirror) (left : List ℕ) : Type 0 where
  pub front : List ℕ
  pub split : bytes ≡ front ++ left
  pub is : now ≡ fed old front
  pub sound : now.fault ≡ None

whole : (front piece rest bytes left : List ℕ) → bytes ≡ front ++ left → left ≡ piece ++ 10 ∷ rest → bytes ≡ (front ++ (piece ++ 10 ∷ [])) ++ rest
whole front piece rest bytes left split parts =
    split ∙ ap (λ (t : List ℕ). front ++ t) (parts ∙ sym (append_assoc piece (10 ∷ []) rest)) ∙ sym (append_assoc front (piece ++ 10 ∷ []) rest)

pub line_more : (old now new : PlainMirror) (bytes left piece rest : List ℕ) → HasFed old bytes now left → left ≡ piece ++ 10 ∷ rest
    → IsFedWith now (piece ++ 10 ∷ []) new None → HasFed old bytes new rest
line_more old now new bytes left piece rest h parts fed_line = record {
  front = h.front ++ (piece ++ 10 ∷ []);
  split = whole h.front piece rest bytes left h.split parts;
  is = fed_line.0 ∙ ap (λ (n : PlainMirror). fed n (piece ++ 10 ∷ [])) h.is ∙ fed_more old h.front (piece ++ 10 ∷ []);
  sound = fed_line.1;
}

pub line_last : (old now new : PlainMirror) (bytes left : List ℕ) (result : Result (Unit {0}) FeedFault) → HasFed old bytes now left → IsFed now left new result
    → IsFed old bytes new result
line_last old now new bytes left result h feeds =
    subst (λ (bs : List ℕ). IsFed old bs new result) (sym h.split)
    (behind old h.front left new result (subst (λ (n : PlainMirror). IsFed n left new result) h.is feeds))

pub line_stops : (old now new last : PlainMirror) (bytes left piece rest : List ℕ) (f : FeedFault) → HasFed old bytes now left → left ≡ piece ++ 10 ∷ rest
    → IsFed now (piece ++ 10 ∷ []) new (Err f) → IsStill new → last ≡ passed new (length rest) → IsFed old bytes last (Err f)
line_stops old now new last bytes left piece rest f h parts feeds still passes =
    subst (λ (n : PlainMirror). IsFed old bytes n (Err f)) (sym passes)
    (subst (λ (bs : List ℕ). IsFed old bs (passed new (length rest)) (Err f)) (sym (whole h.front piece rest bytes left h.split parts))
    (followed old (h.front ++ (piece ++ 10 ∷ [])) rest new f still
    (behind old h.front (piece ++ 10 ∷ []) new (Err f) (subst (λ (n : PlainMirror). IsFed n (piece ++ 10 ∷ []) new (Err f)) h.is feeds))))

pub still_stopped : (old last : PlainMirror) (bytes : List ℕ) (f : FeedFault) → old.fault ≡ Some f → IsStill old → last ≡ passed old (length bytes) → IsFed old bytes last (Err f)
still_stopped old last bytes f h still passes =
    told old bytes last f (passes ∙ passed_fed old f h still bytes) (ap (λ (n : PlainMirror). n.fault) passes ∙ h)
