-- What stands at the front of bytes.
use Rattle.std.specs.Prelude.{◌≡◌, ℕ, ◌<◌, List, length, drop}
use Rattle.httparse.specs.Grammar.{RequestHead, print_request}
use Rattle.wire_http.specs.declared.front.Front.{Front}
use Rattle.wire_http.specs.declared.front.Front.TheVariants.{Whole, Partial, Never}
use Rattle.wire_http.specs.Head.{PlainHead, ReadsHead, HasNoHead, NeverHasHead, plain_head}

-- the first so many bytes are a head, which says this
pub record BeginsWithHead (bytes : List ℕ) (head : PlainHead) (size : ℕ) (h : RequestHead) : Type 0 where
  pub reads : ReadsHead bytes h (drop size bytes)
  pub size_is : size ≡ length (print_request h)
  pub head_is : head ≡ plain_head h

abbrev pub IsFront : Front → List ℕ → Type 0
IsFront (Whole head size) bytes = (h : RequestHead) × BeginsWithHead bytes head size h
IsFront Partial bytes = HasNoHead bytes × (length bytes < 8192)
IsFront Never bytes = NeverHasHead bytes
