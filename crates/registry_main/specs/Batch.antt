-- What is written while a script is read and answered, where the bytes are known.
use Rattle.std.specs.Prelude.{◌≡◌, ℕ, ◌==◌, List, [], ◌∷◌, ◌++◌, ⊤, Option, None, Some}
use Rattle.std.specs.List.{slice_split}
use Rattle.std.specs.Str.Lines.{strip_carriage_return}
use Rattle.std.specs.Io.KnownBytes.{append_known, Keeps, Appends, Consumes, IsAtEnd}
use Rattle.reg_entry.specs.Policy.{PlainPolicy}
use Rattle.registry_main.specs.declared.exit.Exit.{Exit}
use Rattle.registry_main.specs.declared.exit.Exit.TheVariants.{Done, ReadFault}
use Rattle.registry_main.specs.Session.{PlainSession, new_session, replies, replies_to, batch_text}

-- what was written, and then the replies to the lines of a text
abbrev pub with_replies : Option (List ℕ) → PlainSession → List ℕ → Option (List ℕ)
with_replies written s text = append_known written (replies_to s text)

-- the same for a text that goes on with what is left of the script
abbrev pub with_all_replies : Option (List ℕ) → PlainSession → List ℕ → Option (List ℕ) → Option (List ℕ)
with_all_replies written s text None = None
with_all_replies written s text (Some left) = with_replies written s (text ++ left)

-- a known text begins with the known bytes
abbrev pub BeginsWith : Option (List ℕ) → Option (List ℕ) → Type 0
BeginsWith None written = ⊤
BeginsWith (Some text) None = ⊥
BeginsWith (Some text) (Some written) = (rest : List ℕ) × (text ≡ written ++ rest)

-- a front of the text was written behind what was written before
abbrev pub IsFrontWritten : Option (List ℕ) → List ℕ → Option (List ℕ) → Type 0
IsFrontWritten before text after = BeginsWith (append_known before text) after

-- ---- what has come of a script

-- each part that a newline ends, without its one carriage return
abbrev pub lines_before_last : List (List ℕ) → List (List ℕ)
lines_before_last [] = []
lines_before_last (x ∷ []) = []
lines_before_last (x ∷ y ∷ more) = strip_carriage_return x ∷ lines_before_last (y ∷ more)

-- the lines of a text that have ended; what stands behind the last newline is none of them
abbrev pub ended_lines : List ℕ → List (List ℕ)
ended_lines text = lines_before_last (slice_split (λ b. b == 10) text)

-- what the source of a script and the sink of its answers tell: the bytes taken, left and written
pub record Known : Type 0 where
  pub taken : Option (List ℕ)
  pub left : Option (List ℕ)
  pub written : Option (List ℕ)

abbrev pub known : Option (List ℕ) → Option (List ℕ) → Option (List ℕ) → Known
known taken left written = record { taken = taken; left = left; written = written }

-- of the bytes that came each line that has ended is answered, and nothing else is written
pub record IsUpToDate (s : PlainSession) (before after : Known) : Type 0 where
  pub came : List ℕ
  pub taken : Appends before.taken after.taken came
  pub left : Consumes before.left after.left came
  pub written : Appends before.written after.written (replies s (ended_lines came))

-- ---- the script under a policy

-- what was written before a script is answered under a policy, on a clock's day, and then the text that it is answered
abbrev pub with_batch_text : PlainPolicy → ℕ → Option (List ℕ) → Option (List ℕ) → Option (List ℕ)
with_batch_text policy day before None = None
with_batch_text policy day before (Some script) = append_known before (batch_text policy day script)

-- A script is answered: Done says that it was read to its end and all was written, a read fault that all was written that
-- the lines that had come are answered. After any other end a front of the text was.
pub record IsAnswered (policy : PlainPolicy) (day : ℕ) (before : Known) (result : Exit) (after : Known) : Type 0 where
  pub front : BeginsWith (with_batch_text policy day before.written before.left) after.written
  pub done : result ≡ Done → Keeps (with_batch_text policy day before.written before.left) after.written × IsAtEnd after.left
  pub read : result ≡ ReadFault → IsUpToDate (new_session policy day) before after
