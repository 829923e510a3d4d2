-- What is published behind what was written before, where the bytes are known.
use Rattle.std.proofs.Common.{◌≡◌, ℕ, List, [], ◌∷◌, ◌++◌, Bool, true, cond, Option, None, Some, refl, sym, ◌∙◌, ap, subst, inl, inr, filter, append-nil}
use Rattle.std.specs.List.{flat_map}
use Rattle.std.proofs.lemmas.Bool.{cond-true, cases_Bool}
use Rattle.std.specs.Io.KnownBytes.{append_known, Appends, Keeps}
use Rattle.reverse_zone.specs.declared.apex.Apex.{Apex}
use Rattle.reverse_zone.specs.Zone.{in_pool, zone_text, apexes}
use Rattle.command_words.specs.declared.command.Publication.{Publication}
use Rattle.command_words.specs.declared.command.Publication.TheVariants.{Zones}
use Rattle.registry_main.specs.Session.{PlainSession, after_text}
use Rattle.registry_main.specs.Batch.{BeginsWith, IsFrontWritten}
use Rattle.registry_main.specs.Published.{IsAfterScript, session_text, zone_or_none, with_text_after}

-- ---- the text behind what was written

-- it was written
pub text_written : (what : Publication) (s after : PlainSession) (left w w' : Option (List ℕ)) → IsAfterScript s left after
    → Appends w w' (session_text what after) → Keeps (with_text_after what s w left) w'
text_written what s after None w w' is wrote = tt
text_written what s after (Some script) None w' is wrote = tt
text_written what s after (Some script) (Some xs) None is wrote = absurd wrote
text_written what s after (Some script) (Some xs) (Some ys) is wrote = wrote ∙ ap (λ t. xs ++ session_text what t) (sym is)

-- where a part of it was, that is a front of what was to be written
pub text_begun : (what : Publication) (s after : PlainSession) (left w w' : Option (List ℕ)) → IsAfterScript s left after
    → IsFrontWritten w (session_text what after) w' → BeginsWith (with_text_after what s w left) w'
text_begun what s after None w w' is part = tt
text_begun what s after (Some script) None w' is part = tt
text_begun what s after (Some script) (Some xs) None is part = absurd part
text_begun what s after (Some script) (Some xs) (Some ys) is part = (part.0, ap (λ t. xs ++ session_text what t) is ∙ part.1)

-- nothing of it was
pub no_text : (what : Publication) (s : PlainSession) (left w : Option (List ℕ)) → BeginsWith (with_text_after what s w left) w
no_text what s None w = tt
no_text what s (Some script) None = tt
no_text what s (Some script) (Some xs) = (session_text what (after_text s script), refl)

-- nothing is a front of every text
pub nothing_begun : (w : Option (List ℕ)) (text : List ℕ) → IsFrontWritten w text w
nothing_begun None text = tt
nothing_begun (Some xs) text = (text, refl)

pub nothing_added : (w : Option (List ℕ)) → Appends w w []
nothing_added None = tt
nothing_added (Some xs) = sym (append-nil xs)

-- ---- zone by zone

texts_of_filtered : {A : Type 0} (test : A → Bool) (text : A → List ℕ) (xs : List A)
    → flat_map text (filter test xs) ≡ flat_map (λ x. cond (test x) (text x) []) xs
texts_of_filtered test text [] = refl
texts_of_filtered test text (x ∷ xs) = elim (cases_Bool (test x)) [
  | inl t ↦ rw t (ap (λ l. text x ++ l) (texts_of_filtered test text xs))
  | inr f ↦ rw f (texts_of_filtered test text xs)
]

-- the zones are written where each zone that there is was
pub zones_by_apex : (s : PlainSession) → session_text Zones s ≡ flat_map (zone_or_none s) apexes
zones_by_apex s = texts_of_filtered (in_pool s.register) (zone_text s.register s.policy.zone) apexes

pub zone_is_there : (s : PlainSession) (apex : Apex) (text : List ℕ) (there : Bool) → there ≡ in_pool s.register apex → there ≡ true
    → text ≡ zone_text s.register s.policy.zone apex → text ≡ zone_or_none s apex
zone_is_there s apex text there is shown e =
    e ∙ sym (cond-true (in_pool s.register apex) (zone_text s.register s.policy.zone apex) [] (sym is ∙ shown))

pub zones_written : (s : PlainSession) (w w' : Option (List ℕ))
    → Keeps (append_known w (flat_map (zone_or_none s) apexes)) (append_known w' []) → Appends w w' (session_text Zones s)
zones_written s None w' kept = tt
zones_written s (Some xs) None kept = absurd kept
zones_written s (Some xs) (Some ys) kept = sym (append-nil ys) ∙ kept ∙ ap (λ t. xs ++ t) (sym (zones_by_apex s))

pub zones_begun : (s : PlainSession) (w w' : Option (List ℕ)) → IsFrontWritten w (flat_map (zone_or_none s) apexes) w'
    → IsFrontWritten w (session_text Zones s) w'
zones_begun s w w' part = subst (λ (text : List ℕ). IsFrontWritten w text w') (sym (zones_by_apex s)) part
