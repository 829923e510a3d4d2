use Rattle.std.proofs.Common.{codes}
use Rattle.reg_entry.specs.Days.{day_text}
use Rattle.desk_text.specs.ReplyText.{spaced_range}
use Rattle.rpsl_text.specs.Object.{attribute_line}
use Rattle.rpsl_text.proofs.Appended.{next, last, valued}
use Rattle.rpsl_text.proofs.write.append_sub.Goals as goal

pub returns : goal.returns
returns c =
    next _ _ _ (attribute_line (codes "sub-assignment", spaced_range c.args.range.now)) _ c.in_ok-append_range.ensures
    (next _ _ _ (attribute_line (codes "org", c.args.handle.now)) _ (valued _ _ (codes "org") _ _ c.in_ok-append_attribute.ensures c.bytes.ensures.bytes)
    (last _ _ (attribute_line (codes "date", day_text c.args.day)) c.in_ok-append_day.ensures))
