-- The session that the lines of a script lead to, followed over its pieces.
use Rattle.std.proofs.Common.{◌≡◌, ℕ, ◌<◌, length, List, [], ◌∷◌, ◌++◌, Option, None, Some, refl, sym, ◌∙◌, ap, append_assoc, append-nil}
use Rattle.std.specs.Prelude.{⊤}
use Rattle.std.specs.Str.Lines.{lines, strip_carriage_return}
use Rattle.std.specs.Io.KnownBytes.{Consumes, IsAtEnd}
use Rattle.registry_main.specs.Session.{PlainSession, answered, session_after, after_text}
use Rattle.registry_main.specs.LineBuffer.{HasNoNewline, LeadsAs}
use Rattle.registry_main.specs.Published.{IsAfterScript}
use Rattle.registry_main.proofs.FirstLine.{lines-line, lines-last}

-- ---- a line

pub line_applied : (s s' : PlainSession) (line text : List ℕ) → HasNoNewline line → text ≡ strip_carriage_return line
    → s' ≡ (answered s text).session → (tail : List ℕ) → after_text s (line ++ 10 ∷ tail) ≡ after_text s' tail
line_applied s s' line text h e q tail =
    ap (session_after s) (lines-line line tail h) ∙ ap (λ t. session_after (answered s t).session (lines tail)) (sym e)
    ∙ ap (λ t. after_text t tail) (sym q)

pub last_applied : (s s' : PlainSession) (line : List ℕ) → HasNoNewline line → 0 < length line → s' ≡ (answered s line).session
    → after_text s line ≡ s'
last_applied s s' line h some q = ap (session_after s) (lines-last line h some) ∙ sym q

-- ---- a piece of the script

-- the end of a line that is kept, with what stands behind it
pub piece_leads_on : (s₀ s s' : PlainSession) (line front behind rest held new : List ℕ) (whole : List ℕ → List ℕ)
    → ((tail : List ℕ) → after_text s₀ (whole tail) ≡ after_text s (line ++ (rest ++ tail)))
    → LeadsAs held (line ++ front) → rest ≡ front ++ 10 ∷ behind
    → ((tail : List ℕ) → after_text s (held ++ 10 ∷ tail) ≡ after_text s' tail) → new ≡ []
    → (tail : List ℕ) → after_text s₀ (whole tail) ≡ after_text s' (new ++ (behind ++ tail))
piece_leads_on s₀ s s' line front behind rest held new whole before same e applied n tail =
    let more : List ℕ = 10 ∷ (behind ++ tail) in
    before tail
    ∙ ap (λ t. after_text s (line ++ (t ++ tail))) e
    ∙ ap (λ t. after_text s (line ++ t)) (append_assoc front (10 ∷ behind) tail)
    ∙ ap (after_text s) (sym (append_assoc line front more))
    ∙ sym (same s more)
    ∙ applied (behind ++ tail)
    ∙ ap (λ t. after_text s' (t ++ (behind ++ tail))) (sym n)

-- the rest of a piece is kept
pub piece_leads_to : (s₀ s : PlainSession) (line rest held : List ℕ) (whole : List ℕ → List ℕ)
    → ((tail : List ℕ) → after_text s₀ (whole tail) ≡ after_text s (line ++ (rest ++ tail)))
    → LeadsAs held (line ++ rest)
    → (tail : List ℕ) → after_text s₀ (whole tail) ≡ after_text s (held ++ tail)
piece_leads_to s₀ s line rest held whole before same tail =
    before tail ∙ ap (after_text s) (sym (append_assoc line rest tail)) ∙ sym (same s tail)

-- ---- the script

-- where the script is known, all of it leads where the line that is kept and what is left of it lead
abbrev pub LeadsHere : PlainSession → Option (List ℕ) → PlainSession → List ℕ → Option (List ℕ) → Type 0
LeadsHere s₀ None s line left = ⊤
LeadsHere s₀ (Some script) s line None = ⊥
LeadsHere s₀ (Some script) s line (Some left) = after_text s₀ script ≡ after_text s (line ++ left)

pub leads_at_first : (s : PlainSession) (left : Option (List ℕ)) → LeadsHere s left s [] left
leads_at_first s None = tt
leads_at_first s (Some script) = refl

-- a piece was read and applied
pub leads_on : (s₀ s s' : PlainSession) (line line' piece : List ℕ) (script left left' : Option (List ℕ))
    → LeadsHere s₀ script s line left → Consumes left left' piece
    → ((tail : List ℕ) → after_text s (line ++ (piece ++ tail)) ≡ after_text s' (line' ++ tail))
    → LeadsHere s₀ script s' line' left'
leads_on s₀ s s' line line' piece None left left' h c applied = tt
leads_on s₀ s s' line line' piece (Some xs) None left' h c applied = absurd h
leads_on s₀ s s' line line' piece (Some xs) (Some ys) None h c applied = absurd c
leads_on s₀ s s' line line' piece (Some xs) (Some ys) (Some zs) h c applied =
    h ∙ ap (λ t. after_text s (line ++ t)) c ∙ applied zs

-- nothing is left, and the line that is kept was applied
pub leads_to_end : (s₀ s s' : PlainSession) (line : List ℕ) (script left left' : Option (List ℕ))
    → LeadsHere s₀ script s line left → Consumes left left' [] → IsAtEnd left' → after_text s line ≡ s'
    → IsAfterScript s₀ script s'
leads_to_end s₀ s s' line None left left' h c e applied = tt
leads_to_end s₀ s s' line (Some xs) None left' h c e applied = absurd h
leads_to_end s₀ s s' line (Some xs) (Some ys) None h c e applied = absurd c
leads_to_end s₀ s s' line (Some xs) (Some ys) (Some zs) h c e applied =
    h ∙ ap (λ t. after_text s (line ++ t)) (c ∙ e) ∙ ap (after_text s) (append-nil line) ∙ applied
