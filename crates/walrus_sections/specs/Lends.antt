-- What sections end as, where a `&mut` to a boxed one is returned.
use Rattle.std.specs.Prelude.{ℕ, Option}
use Rattle.std.specs.Borrow.{Lends, LendsIf, Fml, RattleType, MutBor}
use Rattle.walrus_sections.specs.declared.section.Section.{Section}
use Rattle.walrus_sections.specs.declared.section.Section.TheVariants.{Boxed}
use Rattle.walrus_sections.specs.contracts.sections.Sections.{the_row}
use Rattle.walrus_arena.specs.Arena.{Arena, with_item}
use Rattle.walrus_sections.specs.contracts.section.Section.{the_row as SectionOf}

-- the section ends as the last one written through r
abbrev pub lends_boxed : (B : RattleType) → MutBor (Section B.Denot) → MutBor B.Denot → Fml
lends_boxed B s r = Lends (SectionOf B) B s r Boxed

module _ (B : RattleType) (s : MutBor (Arena (Section B.Denot))) (id : ℕ) where
  -- once the borrow r ends, the id has the last boxed section written through r
  abbrev pub lends_boxed_at : MutBor B.Denot → Fml
  lends_boxed_at r = Lends (the_row B) B s r (λ section. with_item s.now id (Boxed section))

  -- the same where r is a reference, and at `None` the sections stay as they are
  abbrev pub lends_get : Option (MutBor B.Denot) → Fml
  lends_get r = LendsIf (the_row B) B s r (λ section. with_item s.now id (Boxed section)) s.now
