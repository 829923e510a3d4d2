use Rattle.std.proofs.Common.{[]}
use Rattle.mirror_laws.proofs.NumberTexts.{NumberLaws}
use Rattle.mirror_laws.proofs.Legal.{StreamLaws, follows, has_objects, rests, has_all}
use Rattle.mirror_laws.proofs.laws.mirrors_follow_feeds.Goals as goal

pub returns : goal.returns
returns c =
    let numbers : NumberLaws = record {
      written = c.reads_written.ensures.number;
      computed = c.computes_spelled.ensures.number;
      once = c.spells_one.ensures.number;
    } in
    let laws : StreamLaws = record {
      numbers = numbers;
      lines = c.lines_are_read_alone.ensures;
      cuts = c.cuts_are_widest.ensures.cuts;
      whole = c.next_entry_keeps_whole.ensures;
      empty = λ rooms. c.legal_entries_are_whole.ensures rooms [] tt;
      serial = c.boards_keep_last_operations.ensures.serial;
      bound = c.reached_boards_number_operations.ensures.bound;
      objects = c.operations_lead_to_objects.ensures.list;
    } in
    record {
      follows = λ rooms es source pieces rest are feed. follows laws rooms es source are pieces rest feed;
      objects = λ rooms es source pieces rest k are feed serial. has_objects laws rooms es source are pieces rest k feed serial;
      rests = λ rooms es source pieces are feed. (rests laws rooms es source are pieces feed).0;
      serial = λ rooms es source pieces are feed. (rests laws rooms es source are pieces feed).1;
      all_objects = λ rooms es source pieces are feed last. has_all laws rooms es source are pieces feed last;
    }
