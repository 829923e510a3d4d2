-- Which texts spell which blocks.
use Rattle.std.specs.Prelude.{◌≡◌, ℕ, ◌≤◌, List, ◌++◌, codes, decimal}
use Rattle.num_range.specs.Space.{width_of}
use Rattle.num_range.specs.Number.{PlainNumber}
use Rattle.addr_text.specs.Address.{SpellsAddress}

-- an address, `/` and a prefix length up to the address's width (RFC 4632 3.1, RFC 4291 2.3); the address may have bits
-- set past the length
abbrev pub SpellsBlock : List ℕ → PlainNumber → ℕ → Type 0
SpellsBlock text n len =
    (address : List ℕ) × (text ≡ address ++ codes "/" ++ decimal len) × SpellsAddress address n
    × (len ≤ width_of n.space)
