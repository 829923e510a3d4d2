-- The holders' numbers under the numbers of their handles.
use Rattle.std.specs.Prelude.{◌≡◌, ◌≢◌, ℕ, List, None, Some, IsTrue, length}
use Rattle.std.specs.List.{All}
use Rattle.std.specs.Ordering.{nat_cmp}
use Rattle.page_dir.specs.Sorted.{Rises}
use Rattle.reg_entry.specs.declared.holder.Holder.{Holder}
use Rattle.reg_entry.specs.Handle.{is_handle}
use Rattle.reg_entry.specs.Holders.{holder_number}
use Rattle.holder_book.specs.HandleKey.{handle_key}

-- they rise, a handle's has its holder's number, and each holder's handle is there
pub record IsHolderIndex (hs : List (Holder × ℕ)) (ps : List (ℕ × ℕ)) : Type 0 where
  pub rises : Rises nat_cmp ps
  pub known : All (λ p. (handle : List ℕ) → IsTrue (is_handle handle) → p.0 ≡ handle_key handle → holder_number hs handle ≡ Some p.1) ps
  pub whole : (handle : List ℕ) → IsTrue (is_handle handle) → All (λ p. p.0 ≢ handle_key handle) ps → holder_number hs handle ≡ None
  pub count : length ps ≡ length hs
