use Rattle.mirror_laws.proofs.Made.{nothing_is_feed, more_is_feed, whole_is_feed, longer_is_feed}
use Rattle.mirror_laws.proofs.laws.texts_make_feeds.Goals as goal

pub returns : goal.returns
returns c = record { nothing = nothing_is_feed; more = more_is_feed; whole = whole_is_feed; grows = longer_is_feed }
