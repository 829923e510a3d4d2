use Rattle.std.proofs.Common.{subst, ◌≤◌, length, ℕ}
use Rattle.page_dir.specs.Pages.{page_of}
use Rattle.page_dir.specs.Spread.{PlainSpread, pages_in}
use Rattle.page_dir.proofs.Spreads.{pages_within}
use Rattle.page_dir.proofs.spread.Spread.pages_are_small.Goals as goal

pub returns : goal.returns
returns g c = subst (λ (s : PlainSpread (g.row.K.Denot × g.row.V.Denot)). (i : ℕ) → length (page_of (pages_in s) i) ≤ 64) c.self.view_is (pages_within c.self.invariant)
