-- There are no more due pieces than pieces.
use Rattle.std.proofs.Common.{ℕ, ◌≤◌, ◌++◌, length, arith}
use Rattle.std.proofs.lemmas.List.{length-append}
use Rattle.std.proofs.lemmas.List.Sums.{length-filter, count_by-le-length}
use Rattle.reg_entry.specs.Partition.{Partition, piece_count}
use Rattle.quarantine.specs.Due.{all_pieces, due_pieces, is_due}

pub due_within : (pool : Partition) (day : ℕ) → length (due_pieces pool day) ≤ piece_count pool
due_within pool day =
    let front = length-append pool.asn (pool.ipv4 ++ pool.ipv6) in
    let back = length-append pool.ipv4 pool.ipv6 in
    let same = length-filter (is_due day) (all_pieces pool) in
    let less = count_by-le-length (is_due day) (all_pieces pool) in
    omega arith
