-- Texts of bytes that may stand in a line.
use Rattle.std.proofs.Common.{◌≡◌, ℕ, true, nat_le, List, [], ◌∷◌, ◌++◌, All, arith}
use Rattle.std.proofs.lemmas.Bool.{and_parts}
use Rattle.std.proofs.lemmas.Bool.Decides.{nat_tests}
use Rattle.std.proofs.lemmas.List.Elements.{All-nil, All-cons, All-append, All-weaker}
use Rattle.std.specs.List.{list_all}
use Rattle.mirror_laws.proofs.Lines.{IsPlain}
use Rattle.mirror_laws.proofs.Words.{IsWordByte, IsWord}

-- `All`, in a record so that antt reads the list off a goal
pub record IsPlainText (text : List ℕ) : Type 0 where
  pub each : All IsPlain text

pub nil : IsPlainText []
nil = record { each = All-nil IsPlain }

pub cons : {b : ℕ} {bytes : List ℕ} → IsPlain b → IsPlainText bytes → IsPlainText (b ∷ bytes)
cons {b} {bytes} h k = record { each = All-cons IsPlain b bytes h k.each }

pub and : {xs ys : List ℕ} → IsPlainText xs → IsPlainText ys → IsPlainText (xs ++ ys)
and {xs} {ys} h k = record { each = All-append IsPlain xs ys h.each k.each }

pub word : {text : List ℕ} → IsWord text → IsPlainText text
word {text} h = record { each = All-weaker IsWordByte IsPlain (λ b k. omega arith) text h.bytes }

byte : (b : ℕ) → nat_le 32 b ≡ true → IsPlain b
byte b h = grind (arith, nat_tests)

pub known : (text : List ℕ) → list_all (nat_le 32) text ≡ true → IsPlainText text
known [] h = nil
known (b ∷ text) h = let parts = and_parts (nat_le 32 b) (list_all (nat_le 32) text) h in cons (byte b parts.0) (known text parts.1)
