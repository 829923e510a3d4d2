-- The head of a message: what httparse reads as a request's head by default, of at most 8,192 bytes and 64 header lines
-- (RFC 9112 2.1, 3, 5).
use Rattle.std.specs.Prelude.{ℕ, ◌≤◌, List, [], ◌++◌, length, map, take}
use Rattle.httparse.specs.Grammar.{RequestHead, print_request, ReadsRequest}
use Rattle.httparse.specs.declared.spans.HeaderSpan.{HeaderSpan}
use Rattle.httparse.specs.declared.spans.RequestSpans.{RequestSpans}
use Rattle.httparse.specs.Spans.{name_and_value, span_bytes, header_bytes}

-- the bytes are the head and then the rest
pub record ReadsHead (bytes : List ℕ) (h : RequestHead) (rest : List ℕ) : Type 0 where
  pub reads : ReadsRequest bytes h rest
  pub short : length (print_request h) ≤ 8192
  pub lines : length h.fields ≤ 64

-- the bytes are a head and nothing else
abbrev pub IsHead : List ℕ → RequestHead → Type 0
IsHead bytes h = ReadsHead bytes h []

-- no front of the bytes is a head
abbrev pub HasNoHead : List ℕ → Type 0
HasNoHead bytes = (h : RequestHead) (rest : List ℕ) → ¬ (ReadsHead bytes h rest)

-- however the bytes go on, no front of them is a head
abbrev pub NeverHasHead : List ℕ → Type 0
NeverHasHead bytes = (more : List ℕ) → HasNoHead (bytes ++ more)

-- the first so many of the bytes have no head at their front
pub record IsSearched (seen : ℕ) (bytes : List ℕ) : Type 0 where
  pub within : seen ≤ length bytes
  pub none : HasNoHead (take seen bytes)

-- what a head says: the method, the target, the minor version of HTTP/1, and of each header line the name and the value
-- without the white space around it
pub record PlainHead : Type 0 where
  pub method : List ℕ
  pub target : List ℕ
  pub minor : ℕ
  pub fields : List (List ℕ × List ℕ)

abbrev pub plain_head : RequestHead → PlainHead
plain_head h = record { method = h.method; target = h.target; minor = h.minor; fields = map name_and_value h.fields }

-- the head whose parts stand at these places of the bytes
abbrev pub head_at : List ℕ → List HeaderSpan → RequestSpans → PlainHead
head_at bytes headers spans = record {
  method = span_bytes bytes spans.method;
  target = span_bytes bytes spans.path;
  minor = spans.version;
  fields = map (header_bytes bytes) (take spans.headers headers);
}
