-- How pieces give way to others: a run of them goes, and the others come in its stead.
use Rattle.std.specs.Prelude.{◌≡◌, ℕ, ◌≤◌, ◌+◌, nat_lt, List, [], ◌∷◌, ◌++◌, length, take, drop}
use Rattle.std.specs.List.{prefix_len}
use Rattle.reg_entry.specs.declared.piece.Piece.{Piece}

-- how many pieces begin below the value
abbrev pub begun_below : ℕ → List Piece → ℕ
begun_below value ps = prefix_len (λ p. nat_lt p.range.first value) ps

-- where the first of the pieces begins
abbrev pub start_of : List Piece → ℕ
start_of [] = 0
start_of (p ∷ ps) = p.range.first

-- the place of the first piece that begins where those that come do, or above
abbrev pub place_of : List Piece → List Piece → ℕ
place_of come ps = begun_below (start_of come) ps

-- as many pieces as go give way, from the place on, to those that come
abbrev pub exchanged : List Piece → List Piece → List Piece → List Piece
exchanged gone come ps = take (place_of come ps) ps ++ (come ++ drop (place_of come ps + length gone) ps)

-- those that go stand at the place in one run, and the pieces after are these
pub record IsExchange (gone come ps new : List Piece) : Type 0 where
  pub place : place_of come ps + length gone ≤ length ps
  pub pieces : exchanged gone come ps ≡ new
