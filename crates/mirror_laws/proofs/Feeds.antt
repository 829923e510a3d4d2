-- The texts of a feed, one by one, and any front of a feed.
use Rattle.std.proofs.Common.{◌≡◌, ℕ, ◌+◌, ◌-◌, ◌^◌, ◌<◌, ◌≤◌, max, true, List, [], ◌∷◌, ◌++◌, length, take, drop, flat_map, codes, decimal, Option, None, Some, refl, sym, ap, ◌∙◌, subst, arith, append_assoc, length-append, length-take, length-drop, take-append-drop}
use Rattle.std.proofs.lemmas.List.Elements.{All-nil}
use Rattle.std.specs.List.{concat}
use Rattle.reg_entry.specs.Op.{PlainOp}
use Rattle.op_feed.specs.ReachedBoard.{HaveSerialsFrom}
use Rattle.nrtm_stream.specs.Stream.{operation_text, stream_text, no_newer_text}
use Rattle.mirror_core.specs.Mirror.{PlainMirror, new_mirror, is_at_rest, later}
use Rattle.mirror_core.specs.Feed.{fed}
use Rattle.mirror_laws.specs.Feed.{ops_between, feed_text, IsFeedPlan, last_serial, feed_of, IsFeedOf, fed_pieces}
use Rattle.mirror_laws.specs.Follows.{Follows}
use Rattle.mirror_laws.proofs.Moments.{Leads, fed_append, at_front, nothing_leads, both_lead, line_and_more, same_bytes}
use Rattle.mirror_laws.proofs.Lines.{IsPlain, at, IsKept, is_kept, line_leads}
use Rattle.mirror_laws.proofs.Words.{IsSource, decimal_word, word_between}
use Rattle.mirror_laws.proofs.PlainTexts.{IsPlainText, cons, and, word, known}
use Rattle.mirror_laws.proofs.Framing.{between, start_text, no_newer_passes, start_passes, empty_passes, end_passes}
use Rattle.mirror_laws.proofs.Operations.{decimal_short}
use Rattle.mirror_laws.proofs.Streams.{AreReadable, held, IsHeld, P, is_held, operations_lead, serials_parts, readable_parts}

module _ (source : List ℕ) (is_source : IsSource source) where
  start_plain : (a b : ℕ) → a < 2 ^ 64 → b < 2 ^ 64 → IsPlainText (start_text source a b)
  start_plain a b low high =
      and (known (codes "%START Version: 3 ") refl)
      (and (word is_source.word) (cons {b = 32} (omega arith) (word (word_between (decimal a) (decimal b) 45 (omega arith) (decimal_word a low) (decimal_word b high)))))

  start_short : (a b : ℕ) → a < 2 ^ 64 → b < 2 ^ 64 → length (start_text source a b) ≤ 1024
  start_short a b low high =
      omega (arith, length-append source (32 ∷ (decimal a ++ 45 ∷ decimal b)), length-append (decimal a) (45 ∷ decimal b), decimal_short a low, decimal_short b high, is_source.short)

  end_plain : IsPlainText (codes "%END " ++ source)
  end_plain = and (known (codes "%END ") refl) (word is_source.word)

module _ (source : List ℕ) (ops : List PlainOp) (is_source : IsSource source) (fits : length ops < 2 ^ 64) (serials : HaveSerialsFrom 1 ops) (reads : AreReadable source ops) where
  abbrev outside : ℕ → ℕ → PlainMirror
  outside n place = at source (held source ops n) n None [] place

  record LeadsOutside (n place : ℕ) (bytes : List ℕ) (k : ℕ) : Type 0 where
    there : ℕ
    leads : Leads (P source ops fits) (outside n place) bytes (outside k there)

  abbrev here : (n : ℕ) → n ≤ length ops → IsHeld source ops (held source ops n) n
  here n h = is_held source ops fits n h

  stream_leads : (a b n place : ℕ) → 1 ≤ a → a ≤ b → b ≤ length ops → a ≤ n + 1 → n ≤ length ops
      → LeadsOutside n place (stream_text source a b (ops_between ops a b)) (max n b)
  stream_leads a b n place first order within near high =
      let before : List PlainOp = take (a - 1) ops in
      let rest : List PlainOp = drop (a - 1) ops in
      let left : List PlainOp = take (b + 1 - a) rest in
      let after : List PlainOp = drop (b + 1 - a) rest in
      let is : ops ≡ before ++ (left ++ after) = sym (take-append-drop (a - 1) ops) ∙ ap (λ (t : List PlainOp). before ++ t) (sym (take-append-drop (b + 1 - a) rest)) in
      let count : length before ≡ a - 1 = omega (arith, length-take (a - 1) ops) in
      let size : length left ≡ b + 1 - a = omega (arith, length-take (b + 1 - a) rest, length-drop (a - 1) ops) in
      let their_serials = serials_parts 1 before (left ++ after) (subst (HaveSerialsFrom 1) is serials) in
      let left_serials = serials_parts (1 + length before) left after their_serials.1 in
      let their_reads = readable_parts source before (left ++ after) (subst (AreReadable source) is reads) in
      let left_reads = readable_parts source left after their_reads.1 in
      let low : a < 2 ^ 64 = omega arith in
      let top : b < 2 ^ 64 = omega arith in
      let start = line_leads (IsHeld source ops) source (held source ops n) (held source ops n) n n None (between a b None) place (start_text source a b)
      (start_short source is_source a b low top) (start_plain source is_source a b low top).each (here n high) (here n high)
      (start_passes source (held source ops n) n place (start_text source a b) a b refl is_source.word near low top order) in
      let begun : ℕ = later place (length (start_text source a b) + 1) in
      let empty = line_leads (IsHeld source ops) source (held source ops n) (held source ops n) n n (between a b None) (between a b None) begun []
      (omega arith) (All-nil IsPlain) (here n high) (here n high) (empty_passes source (held source ops n) n begun [] a b) in
      let body = operations_lead source ops fits before left after n a b (later begun 1) (max n b) (b + 1) is (omega arith)
      (subst (λ (k : ℕ). HaveSerialsFrom k left) (let e : 1 + length before ≡ a = omega arith in e) left_serials.0) left_reads.0 (omega arith) high (omega arith)
      (ap (max n) (let e : b ≡ length before + length left = omega arith in e)) (omega arith) in
      let ends = line_leads (IsHeld source ops) source (held source ops (max n b)) (held source ops (max n b)) (max n b) (max n b) (between (b + 1) b None) None body.place (codes "%END " ++ source)
      (omega (arith, is_source.short)) (end_plain source is_source).each (here (max n b) (omega arith)) (here (max n b) (omega arith))
      (end_passes source (held source ops (max n b)) (max n b) body.place (codes "%END " ++ source) (b + 1) b refl is_source.word (omega arith)) in
      let there : ℕ = later body.place (length (codes "%END " ++ source) + 1) in
      let m₁ : PlainMirror = at source (held source ops n) n (between a b None) [] begun in
      let m₂ : PlainMirror = at source (held source ops n) n (between a b None) [] (later begun 1) in
      let m₃ : PlainMirror = at source (held source ops (max n b)) (max n b) (between (b + 1) b None) [] body.place in
      record {
        there = there;
        leads = same_bytes (P source ops fits) (outside n place) (outside (max n b) there) (stream_text source a b left)
            (start_text source a b ++ 10 ∷ ([] ++ 10 ∷ (flat_map (operation_text source) left ++ (codes "%END " ++ source ++ 10 ∷ []))))
            (simp append_assoc)
            (line_and_more (P source ops fits) (outside n place) m₁ (outside (max n b) there) (start_text source a b)
            ([] ++ 10 ∷ (flat_map (operation_text source) left ++ (codes "%END " ++ source ++ 10 ∷ []))) start
            (line_and_more (P source ops fits) m₁ m₂ (outside (max n b) there) [] (flat_map (operation_text source) left ++ (codes "%END " ++ source ++ 10 ∷ [])) empty
            (both_lead (P source ops fits) m₂ m₃ (outside (max n b) there) (flat_map (operation_text source) left) (codes "%END " ++ source ++ 10 ∷ []) body.leads ends)));
      }

  no_newer_leads : (n place : ℕ) → n ≤ length ops → LeadsOutside n place no_newer_text n
  no_newer_leads n place high = record {
    there = _;
    leads = line_leads (IsHeld source ops) source (held source ops n) (held source ops n) n n None None place (codes "% no newer operations") (omega arith)
        (known (codes "% no newer operations") refl).each (here n high) (here n high)
        (no_newer_passes source (held source ops n) n place (codes "% no newer operations") refl);
  }

  then_more : (n k z place : ℕ) (text more : List ℕ) (h : LeadsOutside n place text k) → LeadsOutside k h.there more z → LeadsOutside n place (text ++ more) z
  then_more n k z place text more h g = record {
    there = g.there;
    leads = both_lead (P source ops fits) (outside n place) (outside k h.there) (outside z g.there) text more h.leads g.leads;
  }

  feed_leads : (texts : List (Option (ℕ × ℕ))) (n place : ℕ) → n ≤ length ops → IsFeedPlan (length ops) n texts
      → LeadsOutside n place (feed_of source ops texts) (last_serial n texts)
  feed_leads [] n place high plan = record { there = place; leads = nothing_leads (P source ops fits) _ (is_kept (IsHeld source ops) source _ n None [] place (here n high)) }
  feed_leads (None ∷ texts) n place high plan =
      let first : LeadsOutside n place no_newer_text n = no_newer_leads n place high in
      then_more n n _ place no_newer_text (feed_of source ops texts) first (feed_leads texts n first.there high plan)
  feed_leads (Some serials ∷ texts) n place high plan =
      let first : LeadsOutside n place (feed_text source ops (Some serials)) (max n serials.1) =
      stream_leads serials.0 serials.1 n place plan.0 plan.1 plan.2 plan.3 high in
      then_more n (max n serials.1) _ place (feed_text source ops (Some serials)) (feed_of source ops texts) first
      (feed_leads texts (max n serials.1) first.there (omega (arith, plan.2)) plan.4)

  whole_leads : (bytes : List ℕ) (h : IsFeedOf source ops bytes) → LeadsOutside 0 0 bytes (last_serial 0 h.texts)
  whole_leads bytes h =
      subst (λ (t : List ℕ). LeadsOutside 0 0 t (last_serial 0 h.texts)) (sym h.same) (feed_leads h.texts 0 0 (omega arith) h.plan)

  follows_of : (m : PlainMirror) → IsKept (IsHeld source ops) m → Follows source ops m
  follows_of m h = record { fault = h.fault; serial = h.kept.serial; objects = h.kept.objects }

  -- wherever the feed is cut, the mirror follows
  pub front_follows : (front rest : List ℕ) → IsFeedOf source ops (front ++ rest) → Follows source ops (fed (new_mirror source) front)
  front_follows front rest h = follows_of _ (at_front (P source ops fits) (new_mirror source) front rest (whole_leads (front ++ rest) h).leads.along)

  -- behind the whole feed it is at rest
  pub rests_behind : (bytes : List ℕ) (h : IsFeedOf source ops bytes)
      → (is_at_rest (fed (new_mirror source) bytes) ≡ true) × ((fed (new_mirror source) bytes).serial ≡ last_serial 0 h.texts)
  rests_behind bytes h = let ends = (whole_leads bytes h).leads.ends in (ap is_at_rest ends, ap (λ (m : PlainMirror). m.serial) ends)

pub pieces_joined : (m : PlainMirror) (pieces : List (List ℕ)) → fed_pieces m pieces ≡ fed m (concat pieces)
pieces_joined m [] = refl
pieces_joined m (piece ∷ pieces) = pieces_joined (fed m piece) pieces ∙ sym (fed_append m piece (concat pieces))
