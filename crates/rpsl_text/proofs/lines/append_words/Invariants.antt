use Rattle.std.proofs.Common.{◌≡◌, ◌≤◌, length, take, drop}
use Rattle.rpsl_text.specs.Lines.{words, with_words, continued}
use Rattle.rpsl_text.proofs.lines.append_words.Given as goal

abbrev pub invariant-words : goal.invariant-words
invariant-words l = record {
  front : take l.start l.bytes.items ≡ take l.start l.fn.bytes.items;
  value : with_words (drop l.start l.bytes.items) (words l.left) ≡ continued (drop l.start l.fn.bytes.items) l.text;
  start : l.start ≤ length l.bytes.items;
}

abbrev pub decreases-words : goal.decreases-words
decreases-words l = length l.left
