-- Which texts spell which ranges, and the texts that are written of a range.
use Rattle.std.specs.Prelude.{◌≡◌, ℕ, ◌≤◌, ◌⊎◌, Bool, List, ◌++◌, codes, if◌then◌else◌}
use Rattle.num_range.specs.Number.{PlainNumber}
use Rattle.num_range.specs.Range.{PlainRange}
use Rattle.num_range.specs.Block.{IsBlockStart, block_of}
use Rattle.addr_text.specs.Number.{SpellsNumber, number_text}
use Rattle.addr_text.specs.Block.{SpellsBlock}

-- a number, as the range of it alone
abbrev pub IsOneNumber : List ℕ → PlainRange → Type 0
IsOneNumber text r =
    (n : PlainNumber) × SpellsNumber text n
    × (r ≡ record { space = n.space; first = n.value; last = n.value })

-- a block without bits set past its length
abbrev pub IsWholeBlock : List ℕ → PlainRange → Type 0
IsWholeBlock text r =
    (n : PlainNumber) × (len : ℕ) × SpellsBlock text n len × IsBlockStart n.space n.value len
    × (r ≡ block_of n.space n.value len)

-- two numbers of one space with `-` between them, the first at most the second
abbrev pub IsFirstToLast : List ℕ → PlainRange → Type 0
IsFirstToLast text r =
    (first last : List ℕ) × (text ≡ first ++ codes "-" ++ last)
    × SpellsNumber first (record { space = r.space; value = r.first })
    × SpellsNumber last (record { space = r.space; value = r.last }) × (r.first ≤ r.last)

abbrev pub SpellsRange : List ℕ → PlainRange → Type 0
SpellsRange text r = IsOneNumber text r ⊎ (IsWholeBlock text r ⊎ IsFirstToLast text r)

-- its first and its last number, with ` - ` or `-` between them
abbrev pub range_text : Bool → PlainRange → List ℕ
range_text spaced r =
    number_text (record { space = r.space; value = r.first })
    ++ (if spaced then codes " - " else codes "-")
    ++ number_text (record { space = r.space; value = r.last })
