-- A pass when snapshots are opened.
use Rattle.snapshot_pub.specs.Pass.{PlainPass}
use Rattle.snapshot_pub.specs.Press.{PlainPress}

-- it has seen what is published, and was never shut
abbrev pub new_pass : PlainPress → PlainPass
new_pass p = record { book = p.book; rooms = p.rooms; entries = p.published; shuts = 0 }
