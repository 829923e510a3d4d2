-- What the records of a piece need so that their lines can be written.
use Rattle.std.specs.Prelude.{◌^◌, ◌<◌, ◌≤◌}
use Rattle.num_range.specs.Range.{size_of}
use Rattle.reg_entry.specs.declared.piece.Piece.{Piece}
use Rattle.reg_entry.specs.Days.{last_date}

-- its day is a date, and its numbers can be counted
abbrev pub IsWritable : Piece → Type 0
IsWritable p = (p.card.day ≤ last_date) × (size_of p.range < 2 ^ 128)
