use Rattle.std.proofs.Common.{codes}
use Rattle.reg_entry.specs.Days.{day_text}
use Rattle.desk_text.specs.Vocabulary.{kind_word}
use Rattle.rpsl_text.specs.Object.{attribute_line}
use Rattle.rpsl_text.proofs.Appended.{next, last, valued}
use Rattle.rpsl_text.proofs.write.append_holder.Goals as goal

pub returns : goal.returns
returns c =
    next _ _ _ (attribute_line (codes "organisation", c.args.holder.now.handle)) _
    (valued _ _ (codes "organisation") _ _ c.in_ok-append_attribute.ensures c.bytes.ensures.bytes)
    (next _ _ _ (attribute_line (codes "org-name", c.args.holder.now.name)) _
    (valued _ _ (codes "org-name") _ _ c.in_ok-append_attribute-2.ensures c.bytes-2.ensures.bytes)
    (next _ _ _ (attribute_line (codes "org-type", kind_word c.args.holder.now.kind)) _
    (valued _ _ (codes "org-type") _ _ c.in_ok-append_attribute-3.ensures c.kind_word.ensures)
    (next _ _ _ (attribute_line (codes "country", c.args.holder.now.cc)) _
    (valued _ _ (codes "country") _ _ c.in_ok-append_attribute-4.ensures c.bytes-3.ensures.bytes)
    (next _ _ _ (attribute_line (codes "e-mail", c.args.holder.now.email)) _
    (valued _ _ (codes "e-mail") _ _ c.in_ok-append_attribute-5.ensures c.bytes-4.ensures.bytes)
    (last _ _ (attribute_line (codes "date", day_text c.args.day)) c.in_ok-append_day.ensures)))))
