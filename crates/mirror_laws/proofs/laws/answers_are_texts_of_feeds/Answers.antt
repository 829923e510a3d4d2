use Rattle.mirror_laws.proofs.Kept.{newer_text, kept_text, kept_serials, serial_of}
use Rattle.nrtm_stream.specs.Answer.{last_asked}
use Rattle.mirror_laws.proofs.laws.answers_are_texts_of_feeds.Goals as goal

pub returns : goal.returns
returns c = record {
  newer = newer_text;
  stream = λ b es source ask is old kept.
      kept_text b es source ask (c.streams_have_all_operations.ensures b es ask.first (last_asked b.serial ask.last) is kept) old kept;
  serials = λ b es first last is kept.
      kept_serials b es first last (c.reached_boards_number_operations.ensures.few b (es, is)) (serial_of c.boards_keep_last_operations.ensures.serial b es is) kept;
}
