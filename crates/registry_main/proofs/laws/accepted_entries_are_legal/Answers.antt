use Rattle.std.proofs.Common.{sym, ◌∙◌}
use Rattle.reg_entry.specs.Register.{empty_register}
use Rattle.registry_main.specs.Session.{rooms, session_over, accepted_entries}
use Rattle.registry_main.proofs.Entries.{same_register, legal_entries}
use Rattle.registry_main.proofs.laws.accepted_entries_are_legal.Goals as goal

pub returns-clause-legal : goal.returns-clause-legal
returns-clause-legal c es p day lines policy legal =
    c.legal_entries_go_on.ensures.legal (empty_register rooms) es (accepted_entries (session_over es p day) lines) legal
    (legal_entries c.accepted_may_come_next.ensures.next c.next_entry_keeps_whole.ensures c.lines_are_valid.ensures
    (session_over es p day) lines policy (c.legal_entries_are_whole.ensures rooms es legal))

pub returns-clause-register : goal.returns-clause-register
returns-clause-register c es p day lines =
    same_register (session_over es p day) lines
    ∙ sym (c.legal_entries_go_on.ensures.register (empty_register rooms) es (accepted_entries (session_over es p day) lines))
