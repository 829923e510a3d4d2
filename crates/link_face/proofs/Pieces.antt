-- A read of n bytes, from the place `at` in a list of bytes, into the front of a buffer.
use Rattle.std.proofs.Common.{◌≡◌, ℕ, ◌+◌, ◌-◌, ◌<◌, ◌≤◌, min, List, [], ◌++◌, length, take, drop, sym, ap, subst, ◌∙◌, arith, length-drop}
use Rattle.std.proofs.lemmas.List.{length-take-le, take-append-drop, take_rest, drop_all, drop-drop}
use Rattle.std.proofs.Math.Seq.{take-append_seam, take-add}

module _ (n at : ℕ) (bytes copied after : List ℕ) (is : copied ≡ take n (take (length bytes - at) (drop at bytes)))
    (within : n ≤ length (take (length bytes - at) (drop at bytes))) where
  -- the front of the buffer is what was copied to it
  pub take-copied : take n (copied ++ after) ≡ take n (drop at bytes)
  take-copied =
      let len : length copied ≡ n = ap length is ∙ length-take-le n _ within in
      subst (λ k. take k (copied ++ after) ≡ copied) len (take-append_seam copied after) ∙ is ∙ ap (take n) (take_rest bytes at)

  pub left-copied : drop at bytes ≡ take n (copied ++ after) ++ drop (at + n) bytes
  left-copied =
      sym (take-append-drop n (drop at bytes)) ∙ ap (λ l. l ++ drop n (drop at bytes)) (sym take-copied)
      ∙ ap (λ l. take n (copied ++ after) ++ l) (drop-drop n at bytes)

  pub taken-copied : take (at + n) bytes ≡ take at bytes ++ take n (copied ++ after)
  taken-copied = take-add at n bytes ∙ ap (λ l. take at bytes ++ l) (sym take-copied)

-- nothing is read only where nothing is left
pub drop-at_end : (n at room piece : ℕ) (bytes : List ℕ) → at ≤ length bytes → n ≡ min (min (length (take (length bytes - at) (drop at bytes))) room) piece
    → 0 < room → 0 < piece → n ≡ 0 → drop (at + n) bytes ≡ []
drop-at_end n at room piece bytes inside is some_room some_piece none =
    let all : length (take (length bytes - at) (drop at bytes)) ≡ length bytes - at = ap length (take_rest bytes at) ∙ length-drop at bytes in
    drop_all (at + n) bytes (omega (arith, all, is, inside, some_room, some_piece, none))
