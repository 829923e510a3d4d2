-- What is answered to a feed.
use Rattle.std.specs.Prelude.{◌≡◌, ◌⊎◌, ℕ, ◌-◌, ◌^◌, ◌≤◌, false, List, [], ◌++◌, IfSome, Option, None, Some, Result, Ok, Err}
use Rattle.mirror_core.specs.declared.fault.FeedFault.{FeedFault}
use Rattle.mirror_core.specs.declared.fault.FeedFault.TheVariants.{Spelling, Gap, ForeignSource, ClassOut, Announced, NoMemory}
use Rattle.mirror_core.specs.Mirror.{PlainMirror, broken}
use Rattle.mirror_core.specs.Line.{is_too_long}
use Rattle.mirror_core.specs.Feed.{at_line, fed}
use Rattle.mirror_core.specs.Replica.{PlainReplica}

-- the mirror that was fed the bytes, with this fault or none
abbrev pub IsFedWith : PlainMirror → List ℕ → PlainMirror → Option FeedFault → Type 0
IsFedWith old bytes new fault = (new ≡ fed old bytes) × (new.fault ≡ fault)

-- a front of the bytes was fed, and then memory was wanting
pub record IsOutOfMemory (old : PlainMirror) (bytes : List ℕ) (new : PlainMirror) : Type 0 where
  pub front : List ℕ
  pub rest : List ℕ
  pub count : ℕ
  pub split : bytes ≡ front ++ rest
  pub sound : (fed old front).fault ≡ None
  pub stopped : new ≡ broken (fed old front) count NoMemory

-- the mirror is the one that was fed the bytes, and its fault is answered; but memory may be wanting before
abbrev pub IsFed : PlainMirror → List ℕ → PlainMirror → Result (Unit {0}) FeedFault → Type 0
IsFed old bytes new (Ok _) = IsFedWith old bytes new None
IsFed old bytes new (Err (Spelling place)) = IsFedWith old bytes new (Some (Spelling place))
IsFed old bytes new (Err (Gap want got)) = IsFedWith old bytes new (Some (Gap want got))
IsFed old bytes new (Err (ForeignSource place)) = IsFedWith old bytes new (Some (ForeignSource place))
IsFed old bytes new (Err (ClassOut place)) = IsFedWith old bytes new (Some (ClassOut place))
IsFed old bytes new (Err (Announced place)) = IsFedWith old bytes new (Some (Announced place))
IsFed old bytes new (Err NoMemory) = IsFedWith old bytes new (Some NoMemory) ⊎ IsOutOfMemory old bytes new

-- the mirror with more bytes of its line
abbrev pub holding : PlainMirror → List ℕ → PlainMirror
holding m more = at_line m (m.line ++ more) m.place

-- what holds of every mirror: its line isn't too long, and after a fault there is neither a line nor a stream
pub record IsSound (r : PlainReplica) (line : List ℕ) (fault : Option FeedFault) : Type 0 where
  pub short : is_too_long line ≡ false
  pub stopped : IfSome fault (λ _. (r.stream ≡ None) × (line ≡ []))

-- the same as those who feed it see
pub record IsStill (m : PlainMirror) : Type 0 where
  pub stopped : IfSome m.fault (λ _. (m.stream ≡ None) × (m.line ≡ []))
  pub fits : m.place ≤ 2 ^ 64 - 1
