use Rattle.std.proofs.Common.{◌∷◌, [], List, ℕ, ◌++◌, map, take, ap, ◌∙◌, append-nil}
use Rattle.reg_entry.specs.Op.{PlainOp}
use Rattle.reg_entry.specs.Operations.{operations_of, objects_after}
use Rattle.mirror_core.specs.Objects.{mirrored}
use Rattle.mirror_laws.specs.Feed.{IsFeedOf}
use Rattle.mirror_laws.proofs.laws.whole_feeds_are_mirrored.Goals as goal

-- a feed, as that of one piece
one_piece : (source : List ℕ) (ops : List PlainOp) (bytes rest : List ℕ) → IsFeedOf source ops (bytes ++ rest) → IsFeedOf source ops (bytes ++ [] ++ rest)
one_piece source ops bytes rest feed = record { texts = feed.texts; plan = feed.plan; same = ap (λ (t : List ℕ). t ++ rest) (append-nil bytes) ∙ feed.same }

abbrev whole : (source : List ℕ) (ops : List PlainOp) (bytes : List ℕ) → IsFeedOf source ops bytes → IsFeedOf source ops (bytes ++ [])
whole source ops bytes feed = record { texts = feed.texts; plan = feed.plan; same = append-nil bytes ∙ feed.same }

pub returns : goal.returns
returns c =
    let law = c.mirrors_follow_feeds.ensures in
    record {
      follows = λ rooms es source bytes rest are feed.
          law.follows rooms es source (bytes ∷ []) rest are (one_piece source (operations_of rooms es) bytes rest feed);
      rests = λ rooms es source bytes are feed. law.rests rooms es source (bytes ∷ []) are (whole source (operations_of rooms es) bytes feed);
      objects = λ rooms es source bytes are feed.
          let once = whole source (operations_of rooms es) bytes feed in
          (law.follows rooms es source (bytes ∷ []) [] are (one_piece source (operations_of rooms es) bytes [] once)).objects
          ∙ ap (λ (n : ℕ). map (mirrored source) (objects_after (take n (operations_of rooms es)))) (law.serial rooms es source (bytes ∷ []) are once);
      all_objects = λ rooms es source bytes are feed last. law.all_objects rooms es source (bytes ∷ []) are (whole source (operations_of rooms es) bytes feed) last;
    }
