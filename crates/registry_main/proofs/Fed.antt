-- The mirror that is fed a script, followed over its pieces, where the bytes are known.
use Rattle.std.proofs.Common.{◌≡◌, ◌≢◌, ℕ, true, false, Bool, length, List, [], ◌∷◌, ◌++◌, codes, Option, None, Some, refl, sym, ◌∙◌, ap, append_assoc, append-nil}
use Rattle.std.specs.Prelude.{⊤}
use Rattle.std.specs.Io.KnownBytes.{Consumes, IsAtEnd, Appends, Keeps, append_known}
use Rattle.reg_entry.specs.declared.object.Key.{Key}
use Rattle.rpsl_text.specs.Object.{attributes_text}
use Rattle.mirror_core.specs.declared.fault.FeedFault.{FeedFault}
use Rattle.mirror_core.specs.declared.fault.FeedFault.TheVariants.{Spelling, NoMemory}
use Rattle.mirror_core.specs.Mirror.{PlainMirror, is_at_rest, later, fault_at_end, end_fault}
use Rattle.mirror_core.specs.Objects.{objects_text}
use Rattle.mirror_core.specs.Feed.{fed}
use Rattle.registry_main.specs.Batch.{BeginsWith, IsFrontWritten}
use Rattle.registry_main.proofs.Written.{front_more, BeginsWith_kept}
use Rattle.registry_main.specs.Mirror.{IsFedAll, EndsWith, with_objects}

-- feeding in two pieces is feeding both
abbrev FedAlike : Type 0
FedAlike = (m : PlainMirror) (bytes more : List ℕ) → fed (fed m bytes) more ≡ fed m (bytes ++ more)

-- a fault stays
abbrev FaultsStay : Type 0
FaultsStay = (m : PlainMirror) (f : FeedFault) (bytes : List ℕ) → m.fault ≡ Some f
    → ((fed m bytes).objects ≡ m.objects) × ((fed m bytes).serial ≡ m.serial) × ((fed m bytes).fault ≡ m.fault)

-- where the script is known, feeding all of it is feeding this mirror what is left
abbrev pub FedHere : PlainMirror → Option (List ℕ) → PlainMirror → Option (List ℕ) → Type 0
FedHere m₀ None m left = ⊤
FedHere m₀ (Some script) m None = ⊥
FedHere m₀ (Some script) m (Some left) = fed m₀ script ≡ fed m left

pub fed_at_first : (m : PlainMirror) (left : Option (List ℕ)) → FedHere m left m left
fed_at_first m None = tt
fed_at_first m (Some script) = refl

-- a piece was read and fed
pub fed_on : FedAlike → (m₀ m m' : PlainMirror) (piece : List ℕ) (script left left' : Option (List ℕ))
    → FedHere m₀ script m left → Consumes left left' piece → m' ≡ fed m piece → FedHere m₀ script m' left'
fed_on alike m₀ m m' piece None left left' h c e = tt
fed_on alike m₀ m m' piece (Some xs) None left' h c e = absurd h
fed_on alike m₀ m m' piece (Some xs) (Some ys) None h c e = absurd c
fed_on alike m₀ m m' piece (Some xs) (Some ys) (Some zs) h c e =
    h ∙ ap (fed m) c ∙ sym (alike m piece zs) ∙ ap (λ n. fed n zs) (sym e)

-- nothing is left
pub fed_to_end : (m₀ m : PlainMirror) (script left left' : Option (List ℕ))
    → FedHere m₀ script m left → Consumes left left' [] → IsAtEnd left' → IsFedAll m₀ script m
fed_to_end m₀ m None left left' h c e = tt
fed_to_end m₀ m (Some xs) None left' h c e = absurd h
fed_to_end m₀ m (Some xs) (Some ys) None h c e = absurd c
fed_to_end m₀ m (Some xs) (Some ys) (Some zs) h c e = h ∙ ap (fed m) (c ∙ e)

-- a mirror with a fault has it at the end
ends_in_fault : (m : PlainMirror) (fault : FeedFault) → m.fault ≡ Some fault → end_fault m ≡ Some fault
ends_in_fault m fault e = ap (λ found. fault_at_end found (is_at_rest m) (later m.place (length m.line))) e

-- a piece was read, and feeding it is a fault
pub fed_refused : FaultsStay → (m₀ m : PlainMirror) (fault : FeedFault) (script left : Option (List ℕ))
    → FedHere m₀ script m left → m.fault ≡ Some fault → EndsWith m₀ script (Some fault)
fed_refused stay m₀ m fault None left h e = tt
fed_refused stay m₀ m fault (Some xs) None h e = absurd h
fed_refused stay m₀ m fault (Some xs) (Some zs) h e = ap end_fault h ∙ ends_in_fault (fed m zs) fault ((stay m fault zs e).2 ∙ e)

fault_is_told : (found : Option FeedFault) (at_rest : Bool) (end : ℕ) (fault : FeedFault) → found ≡ None
    → fault_at_end found at_rest end ≡ Some fault → fault ≢ NoMemory
fault_is_told (Some f) at_rest end fault sound e starved = absurd (cc)
fault_is_told None true end fault sound e starved = absurd (cc)
fault_is_told None false end fault sound e starved = absurd (spelled (e ∙ ap Some starved))
  where
    spelled : Some (Spelling end) ≡ Some NoMemory → ⊥
    spelled x = cc

-- a mirror without a fault ends with none but that of its place
pub end_is_told : (m : PlainMirror) (fault : FeedFault) → m.fault ≡ None → end_fault m ≡ Some fault → fault ≢ NoMemory
end_is_told m fault sound e = fault_is_told m.fault (is_at_rest m) (later m.place (length m.line)) fault sound e

-- ---- what is written of the mirror at the end

-- how it ends is seen at its end
pub ends_with : (m₀ m : PlainMirror) (script : Option (List ℕ)) (fault : Option FeedFault) → IsFedAll m₀ script m → end_fault m ≡ fault
    → EndsWith m₀ script fault
ends_with m₀ m None fault is e = tt
ends_with m₀ m (Some xs) fault is e = ap end_fault is ∙ e

pub objects_written : (m₀ m : PlainMirror) (script w w' : Option (List ℕ)) → IsFedAll m₀ script m → Appends w w' (objects_text m.objects)
    → Keeps (with_objects m₀ w script) w'
objects_written m₀ m None w w' is wrote = tt
objects_written m₀ m (Some xs) None w' is wrote = tt
objects_written m₀ m (Some xs) (Some ws) None is wrote = absurd wrote
objects_written m₀ m (Some xs) (Some ws) (Some vs) is wrote = wrote ∙ ap (λ (n : PlainMirror). ws ++ objects_text n.objects) (sym is)

pub objects_begun : (m₀ m : PlainMirror) (script w w' : Option (List ℕ)) → IsFedAll m₀ script m
    → IsFrontWritten w (objects_text m.objects) w' → BeginsWith (with_objects m₀ w script) w'
objects_begun m₀ m None w w' is part = tt
objects_begun m₀ m (Some xs) None w' is part = tt
objects_begun m₀ m (Some xs) (Some ws) None is part = absurd part
objects_begun m₀ m (Some xs) (Some ws) (Some vs) is part =
    (part.0, ap (λ (n : PlainMirror). ws ++ objects_text n.objects) is ∙ part.1)

nothing_begun : (w : Option (List ℕ)) (text : List ℕ) → IsFrontWritten w text w
nothing_begun None text = tt
nothing_begun (Some xs) text = (text, refl)

pub no_objects : (m₀ : PlainMirror) (script w : Option (List ℕ)) → BeginsWith (with_objects m₀ w script) w
no_objects m₀ None w = tt
no_objects m₀ (Some xs) None = tt
no_objects m₀ (Some xs) (Some ws) = (objects_text (fed m₀ xs).objects, refl)

-- ---- the objects, block by block

-- an object as text, with an empty line behind it
abbrev pub object_text_of : Key × List (List ℕ × List ℕ) → List ℕ
object_text_of o = attributes_text o.1 ++ codes "\n"

-- what is to be written: what is kept of it, and then the objects that are left
abbrev pub still : Option (List ℕ) → List ℕ → List (Key × List (List ℕ × List ℕ)) → Option (List ℕ)
still w block left = append_known w (block ++ objects_text left)

-- an object was kept
pub object_kept : (w : Option (List ℕ)) (block block' : List ℕ) (o : Key × List (List ℕ × List ℕ)) (left left' : List (Key × List (List ℕ × List ℕ)))
    → left ≡ o ∷ left' → block' ≡ block ++ object_text_of o → still w block left ≡ still w block' left'
object_kept w block block' o left left' is more =
    ap (still w block) is ∙ ap (append_known w) (sym (append_assoc block (object_text_of o) (objects_text left')))
    ∙ ap (λ b. append_known w (b ++ objects_text left')) (sym more)

-- what was kept was written
pub block_written : (w w' : Option (List ℕ)) (block : List ℕ) (left : List (Key × List (List ℕ × List ℕ))) → Appends w w' block
    → Keeps (still w block left) (still w' [] left)
block_written None w' block left wrote = tt
block_written (Some xs) None block left wrote = absurd wrote
block_written (Some xs) (Some ys) block left wrote =
    ap (λ t. t ++ objects_text left) wrote ∙ append_assoc xs block (objects_text left)

-- where a part of it was, that is a part of what is to be written
pub block_begun : (w₀ w w' : Option (List ℕ)) (text block : List ℕ) (left : List (Key × List (List ℕ × List ℕ)))
    → Keeps (append_known w₀ text) (still w block left) → IsFrontWritten w block w' → IsFrontWritten w₀ text w'
block_begun w₀ w w' text block left kept part = BeginsWith_kept _ _ _ kept (front_more w w' block (objects_text left) part)

-- where nothing of it was, what was written before is
pub nothing_more : (w₀ w : Option (List ℕ)) (text block : List ℕ) (left : List (Key × List (List ℕ × List ℕ)))
    → Keeps (append_known w₀ text) (still w block left) → IsFrontWritten w₀ text w
nothing_more w₀ w text block left kept = BeginsWith_kept _ _ _ kept (nothing_begun w (block ++ objects_text left))

-- the last block was written
pub all_written : (w₀ w w' : Option (List ℕ)) (text block : List ℕ) → Keeps (append_known w₀ text) (still w block [])
    → Appends w w' block → Appends w₀ w' text
all_written None w w' text block kept wrote = tt
all_written (Some xs) None w' text block kept wrote = absurd kept
all_written (Some xs) (Some ys) None text block kept wrote = absurd wrote
all_written (Some xs) (Some ys) (Some zs) text block kept wrote = wrote ∙ ap (λ b. ys ++ b) (sym (append-nil block)) ∙ kept
