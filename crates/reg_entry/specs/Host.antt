-- Hosts: the full names of name servers (RFC 1035 2.3.1, with a digit first as RFC 1123 2.1 allows).
use Rattle.std.specs.Prelude.{ℕ, Bool, ◌&&◌, ◌||◌, ◌==◌, nat_le, List, length}
use Rattle.std.specs.List.{list_all, slice_split}
use Rattle.reg_entry.specs.Name.{is_name_byte}
use Rattle.reg_entry.specs.Text.{is_bare_of}

abbrev pub is_host_byte : ℕ → Bool
is_host_byte b = is_name_byte b || b == 45

-- 1 to 63 small letters, digits and `-`, with no `-` at either end
abbrev pub is_host_label : List ℕ → Bool
is_host_label bytes =
    nat_le 1 (length bytes) && nat_le (length bytes) 63 && list_all is_host_byte bytes && is_bare_of 45 bytes

-- the labels, parted by dots
abbrev pub host_labels : List ℕ → List (List ℕ)
host_labels bytes = slice_split (λ b. b == 46) bytes

-- two or more labels, 96 bytes in all at most
abbrev pub is_host : List ℕ → Bool
is_host bytes =
    nat_le (length bytes) 96 && nat_le 2 (length (host_labels bytes)) && list_all is_host_label (host_labels bytes)
