use Rattle.walrus_sections.proofs.sections.Sections.add_raw.Goals as goal

pub returns-clause-added : goal.returns-clause-added
returns-clause-added g c = (c.in_ok-section.section, c.in_ok-section.ensures, rw (← c.self.view_is) c.in_ok-id.ensures.added)
