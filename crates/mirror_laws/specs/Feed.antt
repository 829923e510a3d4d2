-- Feeds of a register's own stream: texts of the stream, one behind the other.
use Rattle.std.specs.Prelude.{◌≡◌, ℕ, ◌+◌, ◌-◌, ◌≤◌, max, List, [], ◌∷◌, take, drop, length, fold, Option, None, Some}
use Rattle.std.specs.List.{flat_map}
use Rattle.reg_entry.specs.Op.{PlainOp}
use Rattle.nrtm_stream.specs.Stream.{stream_text, no_newer_text}
use Rattle.mirror_core.specs.Mirror.{PlainMirror}
use Rattle.mirror_core.specs.Feed.{fed}

-- the operations with serials from the first to the last
abbrev pub ops_between : List PlainOp → ℕ → ℕ → List PlainOp
ops_between ops first last = take (last + 1 - first) (drop (first - 1) ops)

-- a text of a feed: a stream from one serial to another, or the line that nothing is newer
abbrev pub feed_text : List ℕ → List PlainOp → Option (ℕ × ℕ) → List ℕ
feed_text source ops None = no_newer_text
feed_text source ops (Some serials) = stream_text source serials.0 serials.1 (ops_between ops serials.0 serials.1)

-- each stream has operations that there are, and begins at most one past the greatest serial so far
abbrev pub IsFeedPlan : ℕ → ℕ → List (Option (ℕ × ℕ)) → Type 0
IsFeedPlan count seen [] = Unit {0}
IsFeedPlan count seen (None ∷ texts) = IsFeedPlan count seen texts
IsFeedPlan count seen (Some serials ∷ texts) =
    (1 ≤ serials.0) × (serials.0 ≤ serials.1) × (serials.1 ≤ count) × (serials.0 ≤ seen + 1)
    × IsFeedPlan count (max seen serials.1) texts

-- the greatest serial of the texts and so far
abbrev pub last_serial : ℕ → List (Option (ℕ × ℕ)) → ℕ
last_serial seen [] = seen
last_serial seen (None ∷ texts) = last_serial seen texts
last_serial seen (Some serials ∷ texts) = last_serial (max seen serials.1) texts

abbrev pub feed_of : List ℕ → List PlainOp → List (Option (ℕ × ℕ)) → List ℕ
feed_of source ops texts = flat_map (feed_text source ops) texts

-- the bytes are a feed of these operations
pub record IsFeedOf (source : List ℕ) (ops : List PlainOp) (bytes : List ℕ) : Type 0 where
  pub texts : List (Option (ℕ × ℕ))
  pub plan : IsFeedPlan (length ops) 0 texts
  pub same : bytes ≡ feed_of source ops texts

-- the mirror after the pieces, one after the other
abbrev pub fed_pieces : PlainMirror → List (List ℕ) → PlainMirror
fed_pieces m pieces = fold fed m pieces
