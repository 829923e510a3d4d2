-- How feeds are made of texts, one behind the other.
use Rattle.std.proofs.Common.{◌≡◌, ℕ, ◌+◌, ◌-◌, ◌≤◌, max, List, [], ◌∷◌, ◌++◌, length, take, drop, Option, None, Some, refl, sym, ap, ap₂, ◌∙◌, arith, append-nil, length-append, length-drop, take_all}
use Rattle.std.proofs.lemmas.Grind.{flat_map-append}
use Rattle.std.proofs.lemmas.List.{take-append-le, drop-append-le}
use Rattle.reg_entry.specs.Op.{PlainOp}
use Rattle.nrtm_stream.specs.Stream.{stream_text, no_newer_text}
use Rattle.mirror_laws.specs.Feed.{ops_between, feed_text, IsFeedPlan, last_serial, feed_of, IsFeedOf}

abbrev Texts : Type 0
Texts = List (Option (ℕ × ℕ))

plan_more : (count seen : ℕ) (texts more : Texts) → IsFeedPlan count seen texts → IsFeedPlan count (last_serial seen texts) more → IsFeedPlan count seen (texts ++ more)
plan_more count seen [] more h k = k
plan_more count seen (None ∷ texts) more h k = plan_more count seen texts more h k
plan_more count seen (Some serials ∷ texts) more h k = (h.0, h.1, h.2, h.3, plan_more count (max seen serials.1) texts more h.4 k)

pub nothing_is_feed : (source : List ℕ) (ops : List PlainOp) → IsFeedOf source ops []
nothing_is_feed source ops = record { texts = []; plan = tt; same = refl }

pub more_is_feed : (source : List ℕ) (ops : List PlainOp) (bytes : List ℕ) (feed : IsFeedOf source ops bytes) (more : Texts)
    → IsFeedPlan (length ops) (last_serial 0 feed.texts) more → IsFeedOf source ops (bytes ++ feed_of source ops more)
more_is_feed source ops bytes feed more plan = record {
  texts = feed.texts ++ more;
  plan = plan_more (length ops) 0 feed.texts more feed.plan plan;
  same = ap (λ (t : List ℕ). t ++ feed_of source ops more) feed.same ∙ sym (flat_map-append (feed_text source ops) feed.texts more);
}

pub whole_is_feed : (source : List ℕ) (ops : List PlainOp) → 1 ≤ length ops → IsFeedOf source ops (stream_text source 1 (length ops) ops)
whole_is_feed source ops some = record {
  texts = Some (1, length ops) ∷ [];
  plan = (omega arith, some, omega arith, omega arith, tt);
  same = ap (stream_text source 1 (length ops)) (sym (take_all (length ops + 1 - 1) ops (omega arith))) ∙ sym (append-nil (feed_text source ops (Some (1, length ops))));
}

-- ---- as the register grows

between_same : (ops more : List PlainOp) (first last : ℕ) → 1 ≤ first → first ≤ last → last ≤ length ops → ops_between (ops ++ more) first last ≡ ops_between ops first last
between_same ops more first last low order high =
    ap (take (last + 1 - first)) (drop-append-le (first - 1) ops more (omega arith))
    ∙ take-append-le (last + 1 - first) (drop (first - 1) ops) more (omega (arith, length-drop (first - 1) ops))

texts_same : (source : List ℕ) (ops more : List PlainOp) (seen : ℕ) (texts : Texts) → IsFeedPlan (length ops) seen texts → feed_of source ops texts ≡ feed_of source (ops ++ more) texts
texts_same source ops more seen [] h = refl
texts_same source ops more seen (None ∷ texts) h = ap (λ (t : List ℕ). no_newer_text ++ t) (texts_same source ops more seen texts h)
texts_same source ops more seen (Some serials ∷ texts) h =
    ap₂ (λ (s t : List ℕ). s ++ t) (ap (stream_text source serials.0 serials.1) (sym (between_same ops more serials.0 serials.1 h.0 h.1 h.2)))
    (texts_same source ops more (max seen serials.1) texts h.4)

plan_longer : (count longer seen : ℕ) (texts : Texts) → count ≤ longer → IsFeedPlan count seen texts → IsFeedPlan longer seen texts
plan_longer count longer seen [] more h = tt
plan_longer count longer seen (None ∷ texts) more h = plan_longer count longer seen texts more h
plan_longer count longer seen (Some serials ∷ texts) more h =
    (h.0, h.1, omega (arith, h.2), h.3, plan_longer count longer (max seen serials.1) texts more h.4)

pub longer_is_feed : (source : List ℕ) (ops more : List PlainOp) (bytes : List ℕ) → IsFeedOf source ops bytes → IsFeedOf source (ops ++ more) bytes
longer_is_feed source ops more bytes feed = record {
  texts = feed.texts;
  plan = plan_longer (length ops) (length (ops ++ more)) 0 feed.texts (omega (arith, length-append ops more)) feed.plan;
  same = feed.same ∙ texts_same source ops more 0 feed.texts feed.plan;
}
