-- What a request and a draw make of a load.
use Rattle.std.proofs.Common.{◌≡◌, ℕ, ◌+◌, List, ◌∷◌, Some, drop, length, ◌≤◌, refl, sym, ap, subst, ◌∙◌, add-one}
use Rattle.std.specs.List.{slice_get}
use Rattle.std.proofs.lemmas.List.{drop_more, drop_all}
use Rattle.std.proofs.lemmas.Option.{slice_get_within, get_or_from_slice_get}
use Rattle.reg_entry.specs.declared.request.Request.{Request}
use Rattle.load_gen.specs.Draw.{PlainDraw, draw_at, first_day}
use Rattle.load_gen.specs.Draws.{PlainDraws}
use Rattle.load_gen.specs.Load.{PlainLoad, after_request, after_requests, after_draw, after_draws}

-- ---- the requests that a load begins with

-- a request is the first of those that are left, and the others stand behind it
left_behind : (qs : List Request) (i : ℕ) (q : Request) → slice_get qs i ≡ Some q → drop i qs ≡ q ∷ drop (i + 1) qs
left_behind qs i q is =
    drop_more qs i q (slice_get_within qs i q is)
    ∙ ap (λ first. first ∷ drop (i + 1) qs) (get_or_from_slice_get qs i q q is)

-- what the requests that are left lead to stays the same
pub after_one : (end old new : PlainLoad) (qs : List Request) (i : ℕ) (q : Request) → after_requests old (drop i qs) ≡ end
    → slice_get qs i ≡ Some q → new ≡ after_request old first_day q → after_requests new (drop (i + 1) qs) ≡ end
after_one end old new qs i q leads is asked =
    ap (λ l. after_requests l (drop (i + 1) qs)) asked ∙ (ap (after_requests old) (sym (left_behind qs i q is)) ∙ leads)

-- and where none is left, it is reached
pub after_all : (end l : PlainLoad) (qs : List Request) (i : ℕ) → length qs ≤ i → after_requests l (drop i qs) ≡ end → l ≡ end
after_all end l qs i past leads = ap (after_requests l) (sym (drop_all i qs past)) ∙ leads

-- ---- the draws

-- one draw more
after_more : (begun old new : PlainLoad) (seed k : ℕ) (d : PlainDraw) → old ≡ after_draws begun seed k → d ≡ draw_at seed (k + 1)
    → new ≡ after_draw old d → new ≡ after_draws begun seed (k + 1)
after_more begun old new seed k d so_far is drawn =
    let more : after_draw (after_draws begun seed k) (draw_at seed (k + 1)) ≡ after_draws begun seed (k + 1) =
    subst (λ n. after_draw (after_draws begun seed k) (draw_at seed n) ≡ after_draws begun seed n) (sym (add-one k)) refl in
    drawn ∙ (ap (λ l. after_draw l d) so_far ∙ (ap (after_draw (after_draws begun seed k)) is ∙ more))

-- and it is the next that the seed gives
pub after_next : (begun old new : PlainLoad) (seed : ℕ) (given give : PlainDraws) (d : PlainDraw) → old ≡ after_draws begun seed given.given
    → given.seed ≡ seed → d ≡ draw_at given.seed (given.given + 1) → give ≡ record { seed = given.seed; given = given.given + 1 }
    → new ≡ after_draw old d → new ≡ after_draws begun seed give.given
after_next begun old new seed given give d so_far same is next drawn =
    after_more begun old new seed given.given d so_far (is ∙ ap (λ s. draw_at s (given.given + 1)) same) drawn
    ∙ ap (λ draws. after_draws begun seed draws.given) (sym next)
