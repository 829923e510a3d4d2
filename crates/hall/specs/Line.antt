-- The line of a request that is handed in over HTTP.
use Rattle.std.specs.Prelude.{ℕ, ◌-◌, ◌==◌, if◌then◌else◌, List, take, length, slice_index}
use Rattle.std.specs.Str.Lines.{strip_carriage_return}

-- a body without one line end: a line feed, with or without a carriage return before it
abbrev pub without_line_end : List ℕ → List ℕ
without_line_end body =
    if slice_index body (length body - 1) == 10 then strip_carriage_return (take (length body - 1) body) else body
