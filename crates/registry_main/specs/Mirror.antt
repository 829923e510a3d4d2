-- What the command `mirror` writes of the change stream that the script is, where the bytes are known.
use Rattle.std.specs.Prelude.{◌≡◌, ℕ, List, ⊤, Option, None, Some}
use Rattle.std.specs.Io.KnownBytes.{append_known, Keeps, IsAtEnd}
use Rattle.mirror_core.specs.declared.fault.FeedFault.{FeedFault}
use Rattle.mirror_core.specs.declared.fault.FeedFault.TheVariants.{NoMemory}
use Rattle.mirror_core.specs.Mirror.{PlainMirror, new_mirror, end_fault}
use Rattle.mirror_core.specs.Objects.{objects_text}
use Rattle.mirror_core.specs.Feed.{fed}
use Rattle.nrtm_stream.specs.Stream.{capitals}
use Rattle.registry_main.specs.declared.exit.Exit.{Exit}
use Rattle.registry_main.specs.declared.exit.Exit.TheVariants.{Done, FeedRefused}
use Rattle.registry_main.specs.declared.mirror.Unmirrored.{Unmirrored}
use Rattle.registry_main.specs.declared.mirror.Unmirrored.TheVariants.{Memory, Refused}
use Rattle.registry_main.specs.Batch.{BeginsWith, Known}

-- the mirror of a registry before it is fed
abbrev pub mirror_of : List ℕ → PlainMirror
mirror_of registry = new_mirror (capitals registry)

-- where the feed is known, the one mirror fed all of it is the other
abbrev pub IsFedAll : PlainMirror → Option (List ℕ) → PlainMirror → Type 0
IsFedAll m None after = ⊤
IsFedAll m (Some feed) after = fed m feed ≡ after

-- where the feed is known, the mirror fed all of it has this fault, or none, at the feed's end
abbrev pub EndsWith : PlainMirror → Option (List ℕ) → Option FeedFault → Type 0
EndsWith m None fault = ⊤
EndsWith m (Some feed) fault = end_fault (fed m feed) ≡ fault

-- what was written before, and then the objects of the mirror that was fed the script
abbrev pub with_objects : PlainMirror → Option (List ℕ) → Option (List ℕ) → Option (List ℕ)
with_objects m before None = None
with_objects m before (Some feed) = append_known before (objects_text (fed m feed).objects)

-- It is mirrored: Done says that the script was read to its end, that the mirror was at rest there without a fault, and that
-- all its objects were written; a refused feed tells the fault that the mirror has at the script's end. After any other end a
-- front of the objects was written.
pub record IsMirrored (registry : List ℕ) (before : Known) (result : Exit) (after : Known) : Type 0 where
  pub front : BeginsWith (with_objects (mirror_of registry) before.written before.left) after.written
  pub done : result ≡ Done → Keeps (with_objects (mirror_of registry) before.written before.left) after.written
      × IsAtEnd after.left × EndsWith (mirror_of registry) before.left None
  pub refused : (fault : FeedFault) → result ≡ FeedRefused fault → EndsWith (mirror_of registry) before.left (Some fault)

-- why the objects aren't written, where feeding them failed
abbrev pub of_fault : FeedFault → Unmirrored
of_fault NoMemory = Memory
of_fault fault = Refused fault
