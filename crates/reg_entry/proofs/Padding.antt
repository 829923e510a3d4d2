-- A list written over an array of zeros.
use Rattle.std.proofs.Common.{◌≡◌, ℕ, ◌-◌, ◌≤◌, List, ◌++◌, length, drop, replicate, sym, ◌∙◌, ap, subst, arith, length-append}
use Rattle.std.proofs.lemmas.List.{drop-replicate, length-replicate}
use Rattle.std.proofs.Math.Seq.{take-append_seam}
use Rattle.reg_entry.specs.Label.{padded, IsPadded}

padded_is_padded : (room : ℕ) (bytes zeros : List ℕ) → length bytes ≤ room → length zeros ≡ room - length bytes
    → length (bytes ++ zeros) ≡ room
padded_is_padded room bytes zeros h e = length-append bytes zeros ∙ omega arith

pub over_zeros : (room : ℕ) (bytes : List ℕ) → length bytes ≤ room → IsPadded room (bytes ++ drop (length bytes) (replicate room 0)) (length bytes)
over_zeros room bytes h =
    let zeros : List ℕ = replicate (room - length bytes) 0 in
    let e : bytes ++ drop (length bytes) (replicate room 0) ≡ bytes ++ zeros = ap (λ zs. bytes ++ zs) (drop-replicate (length bytes) room 0) in
    let P : List ℕ → Type 0 = λ array. IsPadded room array (length bytes) in
    subst P (sym e) (record {
      fits = h;
      long = padded_is_padded room bytes zeros h (length-replicate (room - length bytes) 0);
      zeros = ap (padded room) (take-append_seam bytes zeros);
    })
