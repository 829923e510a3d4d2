-- What is written to a link in two pieces, and what stands of it where the link fails.
use Rattle.std.proofs.Common.{◌≡◌, ℕ, ◌+◌, List, ◌++◌, Option, None, Some, true≢false, length, take, drop, take-append-drop, sym, ap, ◌∙◌, append_assoc}
use Rattle.std.specs.Prelude.{Result, Ok, Err, OnOk, OnErr}
use Rattle.std.specs.Result.{IsErr}
use Rattle.std.specs.Io.KnownBytes.{Appends}
use Rattle.link_face.specs.Bytes.{AppendsPrefix}
use Rattle.hall.specs.Written.{IsWritten}
use Rattle.std.proofs.KnownBytes.{Appends-trans}
use Rattle.std.proofs.Math.Seq.{take-append_seam, take-append-add}

-- a front of the second piece is one of both
pub prefix_behind : (a b c : Option (List ℕ)) (xs ys : List ℕ) → Appends a b xs → AppendsPrefix b c ys → AppendsPrefix a c (xs ++ ys)
prefix_behind None b c xs ys first second = tt
prefix_behind (Some x) None c xs ys first second = absurd first
prefix_behind (Some x) (Some y) None xs ys first second = absurd second
prefix_behind (Some x) (Some y) (Some z) xs ys first second = (
  length xs + second.0,
  second.1 ∙ ap (λ l. l ++ take second.0 ys) first ∙ append_assoc x xs (take second.0 ys)
      ∙ ap (λ l. x ++ l) (sym (take-append-add xs ys second.0)),
)

-- a front of the first piece is one of both
pub prefix_before : (a b : Option (List ℕ)) (xs ys : List ℕ) → AppendsPrefix a b xs → AppendsPrefix a b (xs ++ ys)
prefix_before None b xs ys first = tt
prefix_before (Some x) None xs ys first = absurd first
prefix_before (Some x) (Some z) xs ys first =
    let front : List ℕ = take first.0 xs in
    let back : List ℕ = drop first.0 xs ++ ys in
    let parted : front ++ back ≡ xs ++ ys = sym (append_assoc front (drop first.0 xs) ys) ∙ ap (λ l. l ++ ys) (take-append-drop first.0 xs) in
    (length front, first.1 ∙ ap (λ l. x ++ l) (sym (take-append_seam front back) ∙ ap (take (length front)) parted))

-- the second write makes the whole, or a front of it
pub written_second : {T E : Type 0} (result : Result T E) (a b c : Option (List ℕ)) (xs ys : List ℕ) → Appends a b xs
    → OnOk result (Appends b c ys) → OnErr result (AppendsPrefix b c ys) → IsWritten result a (xs ++ ys) c
written_second (Ok x) a b c xs ys first ok err = record { ok = Appends-trans a b c xs ys first ok; err = tt }
written_second (Err e) a b c xs ys first ok err = record { ok = tt; err = prefix_behind a b c xs ys first err }

-- where the first write fails, a front of it was written
pub unwritten_first : {T E : Type 0} (result : Result T E) (a b : Option (List ℕ)) (xs ys : List ℕ) → IsErr result
    → AppendsPrefix a b xs → IsWritten result a (xs ++ ys) b
unwritten_first (Ok x) a b xs ys fails first = absurd (true≢false (sym fails))
unwritten_first (Err e) a b xs ys fails first = record { ok = tt; err = prefix_before a b xs ys first }
