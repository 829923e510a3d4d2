-- What a read from a link brings into a framer.
use Rattle.std.specs.Prelude.{◌≡◌, ℕ, Bool, true, false, List, [], ◌++◌, Option, Result, Ok, Err}
use Rattle.std.specs.Io.KnownBytes.{Appends, Consumes}

-- this piece came from the link, behind the bytes that the framer had
pub record Comes (taken left : Option (List ℕ)) (bytes : List ℕ) (now_taken now_left : Option (List ℕ)) (now : List ℕ) (piece : List ℕ) : Type 0 where
  pub taken_is : Appends taken now_taken piece
  pub left_is : Consumes left now_left piece
  pub bytes_are : now ≡ bytes ++ piece

-- a piece came, which is empty where there were no more bytes or the read failed
abbrev pub HasReceived : {E : Type 0} → Result Bool E → Option (List ℕ) → Option (List ℕ) → List ℕ → Option (List ℕ) → Option (List ℕ) → List ℕ → Type 0
HasReceived (Ok true) taken left bytes now_taken now_left now = (piece : List ℕ) × Comes taken left bytes now_taken now_left now piece
HasReceived (Ok false) taken left bytes now_taken now_left now = Comes taken left bytes now_taken now_left now []
HasReceived (Err e) taken left bytes now_taken now_left now = Comes taken left bytes now_taken now_left now []
