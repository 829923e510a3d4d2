-- What a board answers of the stream is a text of a feed.
use Rattle.std.proofs.Common.{◌≡◌, ℕ, ◌≤◌, true, false, ◌&&◌, nat_le, List, length, None, Some, sym, ap, ◌∙◌, arith}
use Rattle.std.proofs.lemmas.Bool.{and_parts, leb-true, cond-true, cond-false}
use Rattle.reg_entry.specs.Entry.{PlainEntry}
use Rattle.reg_entry.specs.Operations.{PlainBoard, operations_of, board_after}
use Rattle.reg_entry.specs.declared.rooms.Rooms.{Rooms}
use Rattle.op_feed.specs.ReachedBoard.{IsBoardOf, first_kept}
use Rattle.nrtm_stream.specs.declared.ask.Ask.{Ask}
use Rattle.nrtm_stream.specs.Answer.{last_asked, asks_for_newer, is_kept, are_kept, operations_between, not_kept_text, between_text, stream_answer}
use Rattle.nrtm_stream.specs.Stream.{stream_text, no_newer_text}
use Rattle.mirror_laws.specs.Feed.{ops_between, feed_text}

pub newer_text : (b : PlainBoard) (es : List PlainEntry) (source : List ℕ) (ask : Ask) → asks_for_newer b ask ≡ true
    → stream_answer b source ask ≡ feed_text source (operations_of b.register.rooms es) None
newer_text b es source ask h = cond-true (asks_for_newer b ask) no_newer_text (between_text b source ask.first (last_asked b.serial ask.last)) h

pub kept_text : (b : PlainBoard) (es : List PlainEntry) (source : List ℕ) (ask : Ask)
    → operations_between b ask.first (last_asked b.serial ask.last) ≡ ops_between (operations_of b.register.rooms es) ask.first (last_asked b.serial ask.last)
    → asks_for_newer b ask ≡ false → are_kept b ask.first (last_asked b.serial ask.last) ≡ true
    → stream_answer b source ask ≡ feed_text source (operations_of b.register.rooms es) (Some (ask.first, last_asked b.serial ask.last))
kept_text b es source ask same old kept =
    let first : ℕ = ask.first in
    let last : ℕ = last_asked b.serial ask.last in
    cond-false (asks_for_newer b ask) no_newer_text (between_text b source first last) old
    ∙ cond-true (are_kept b first last) (stream_text source first last (operations_between b first last)) (not_kept_text b first last) kept
    ∙ ap (stream_text source first last) same

-- the serials are those of operations that there are
pub kept_serials : (b : PlainBoard) (es : List PlainEntry) (first last : ℕ) → length b.kept ≤ b.serial → b.serial ≡ length (operations_of b.register.rooms es)
    → are_kept b first last ≡ true → (1 ≤ first) × (first ≤ last) × (last ≤ length (operations_of b.register.rooms es))
kept_serials b es first last few count kept =
    let all = and_parts (nat_le first last && is_kept b first) (is_kept b last) kept in
    let front = and_parts (nat_le first last) (is_kept b first) all.0 in
    let order = leb-true first last front.0 in
    let low = leb-true (first_kept b) first (and_parts (nat_le (first_kept b) first) (nat_le first b.serial) front.1).0 in
    let high = leb-true last b.serial (and_parts (nat_le (first_kept b) last) (nat_le last b.serial) all.1).1 in
    (omega arith, order, omega arith)

pub serial_of : (count : (rooms : Rooms) (es : List PlainEntry) → (board_after rooms es).serial ≡ length (operations_of rooms es))
    (b : PlainBoard) (es : List PlainEntry) → IsBoardOf b es → b.serial ≡ length (operations_of b.register.rooms es)
serial_of count b es is = ap (λ (c : PlainBoard). c.serial) (sym is.same) ∙ count b.register.rooms es
