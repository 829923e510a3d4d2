-- What a write to a link does, and what it leaves.
use Rattle.std.specs.Prelude.{ℕ, List, Option, Result, OnOk, OnErr}
use Rattle.std.specs.Io.KnownBytes.{Appends}
use Rattle.link_face.specs.Bytes.{AppendsPrefix}

-- the text was written behind what was written before, or where the link failed a front of it
pub record IsWritten {T E : Type 0} (result : Result T E) (before : Option (List ℕ)) (text : List ℕ) (after : Option (List ℕ)) : Type 0 where
  pub ok : OnOk result (Appends before after text)
  pub err : OnErr result (AppendsPrefix before after text)

-- what a link has read and still gives
pub record ReadSide : Type 0 where
  pub taken : Option (List ℕ)
  pub left : Option (List ℕ)
  pub budget : ℕ

abbrev pub read_side : Option (List ℕ) → Option (List ℕ) → ℕ → ReadSide
read_side taken left budget = record { taken = taken; left = left; budget = budget }
