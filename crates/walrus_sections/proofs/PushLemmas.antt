-- Sections that are asked one behind another.
use Rattle.std.proofs.Common.{List, [], ◌++◌, Option, Some, refl, sym, ap, ◌∙◌, append_assoc, append-nil}
use Rattle.std.specs.declared.result.Result.{Result}
use Rattle.std.specs.declared.result.Result.TheVariants.{Ok, Err}
use Rattle.walrus_roots.specs.declared.item.Item.{Item}
use Rattle.walrus_sections.specs.declared.fault.SectionFault.{SectionFault}
use Rattle.walrus_sections.specs.declared.fault.SectionFault.TheVariants as faults
use Rattle.walrus_sections.specs.Answers.{Pushes}
use Rattle.walrus_sections.specs.Sections.{behind}

-- what was pushed, and then what later ones answer
pub pushes-on : (first later : Option (List Item)) (old middle new : List Item) (r : Result (Unit {0}) SectionFault)
    → Pushes first old middle (Ok tt) → Pushes later middle new r → Pushes (behind first later) old new r
pushes-on first later old middle new (Ok _) f l =
    (f.0 ++ l.0, rw (f.1, l.1) refl, l.2 ∙ ap (λ (items : List Item). items ++ l.0) f.2 ∙ append_assoc old f.0 l.0)
pushes-on first later old middle new (Err faults.Refused) f l = rw (f.1, l) refl
pushes-on first later old middle new (Err faults.Memory) f l = tt

-- a refusal is that of all
pub refuses-first : (first later : Option (List Item)) (old new : List Item) (fault : SectionFault)
    → Pushes first old new (Err fault) → Pushes (behind first later) old new (Err fault)
refuses-first first later old new faults.Refused f = rw f refl
refuses-first first later old new faults.Memory f = tt

-- sections of which none is left push nothing
pub pushes-none : (items : List Item) → Pushes (Some []) items items (Ok tt)
pushes-none items = ([], refl, sym (append-nil items))
