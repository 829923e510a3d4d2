-- The counts of running snapshots, as a course has them.
use Rattle.std.specs.Prelude.{List, length, map}
use Rattle.reg_entry.specs.Entry.{PlainEntry}
use Rattle.course_core.specs.Course.{PlainCourse}
use Rattle.snapshot_pub.specs.declared.view.View.{View}
use Rattle.snapshot_pub.specs.Shown.{PlainShown}

-- a course with this journal, which has published and seen what the snapshots have; its passes are the readers, by their seats
abbrev pub counted : PlainCourse → List PlainEntry → PlainShown → List View → PlainCourse
counted c journal x views = record c {
  journal = journal;
  published = length x.front.entries;
  seen = map (λ v. length v.seen.entries) views;
}
