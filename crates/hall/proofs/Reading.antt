-- The bytes of a line as they come.
use Rattle.std.proofs.Common.{ℕ, Bool, true, false, List, [], Option, subst, sym}
use Rattle.std.specs.Prelude.{Result, Ok, Err}
use Rattle.std.specs.Io.KnownBytes.{Appends, Consumes}
use Rattle.std.proofs.KnownBytes.{Appends-nil, Consumes-nil, Appends-trans, Consumes-trans}
use Rattle.hall.specs.Receive.{Comes, HasReceived}

-- these bytes have come from the link
pub record HaveCome (taken left now_taken now_left : Option (List ℕ)) (bytes : List ℕ) : Type 0 where
  pub taken_is : Appends taken now_taken bytes
  pub left_is : Consumes left now_left bytes

pub none_came : (taken left : Option (List ℕ)) → HaveCome taken left taken left []
none_came taken left = record { taken_is = Appends-nil taken; left_is = Consumes-nil left }

comes_behind : (t0 l0 t l t1 l1 : Option (List ℕ)) (bytes now piece : List ℕ) → HaveCome t0 l0 t l bytes → Comes t l bytes t1 l1 now piece
    → HaveCome t0 l0 t1 l1 now
comes_behind t0 l0 t l t1 l1 bytes now piece have comes = record {
  taken_is = subst (Appends t0 t1) (sym comes.bytes_are) (Appends-trans t0 t t1 bytes piece have.taken_is comes.taken_is);
  left_is = subst (Consumes l0 l1) (sym comes.bytes_are) (Consumes-trans l0 l l1 bytes piece have.left_is comes.left_is);
}

-- whatever a read answered
pub received : {E : Type 0} (r : Result Bool E) (t0 l0 t l t1 l1 : Option (List ℕ)) (bytes now : List ℕ) → HaveCome t0 l0 t l bytes
    → HasReceived r t l bytes t1 l1 now → HaveCome t0 l0 t1 l1 now
received (Ok true) t0 l0 t l t1 l1 bytes now have piece = comes_behind t0 l0 t l t1 l1 bytes now piece.0 have piece.1
received (Ok false) t0 l0 t l t1 l1 bytes now have comes = comes_behind t0 l0 t l t1 l1 bytes now [] have comes
received (Err e) t0 l0 t l t1 l1 bytes now have comes = comes_behind t0 l0 t l t1 l1 bytes now [] have comes
