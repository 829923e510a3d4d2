use Rattle.registry_main.proofs.FirstLine.{kept_line, kept_is_answered, kept_leads}
use Rattle.registry_main.proofs.line_buffer.LineBuffer.extend.Goals as goal

pub invariant_of-self : goal.invariant_of-self
invariant_of-self c = kept_line _ _ _ c.self.invariant c.requires c.keep_front.ensures

pub returns-clause-answered : goal.returns-clause-answered
returns-clause-answered c = rw (← c.self.view_is) (kept_is_answered _ _ _ c.self.invariant c.requires c.keep_front.ensures)

pub returns-clause-leads : goal.returns-clause-leads
returns-clause-leads c = rw (← c.self.view_is) (kept_leads _ _ _ c.self.invariant c.requires c.keep_front.ensures)

pub returns-clause-line : goal.returns-clause-line
returns-clause-line c = kept_line _ _ _ c.self.invariant c.requires c.keep_front.ensures
