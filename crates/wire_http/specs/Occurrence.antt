-- How often a name stands among the header lines of a head.
use Rattle.std.specs.Prelude.{ℕ, List, map}
use Rattle.httparse.specs.declared.spans.HeaderSpan.{HeaderSpan}
use Rattle.httparse.specs.Spans.{header_bytes}
use Rattle.wire_http.specs.declared.head.Occurrence.{Occurrence}
use Rattle.wire_http.specs.declared.head.Occurrence.TheVariants as found
use Rattle.wire_http.specs.Fields.{values_named, Occurs, Never, Once, Repeated}

-- the same of what the code found
abbrev pub occurs : Occurrence → Occurs
occurs found.Never = Never
occurs (found.Once value) = Once value.now
occurs found.Repeated = Repeated

-- the values of a name among the header lines that the spans cover
abbrev pub values_in : List ℕ → List HeaderSpan → List ℕ → List (List ℕ)
values_in bytes headers name = values_named name (map (header_bytes bytes) headers)
