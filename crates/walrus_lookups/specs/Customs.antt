-- Custom sections that are kept by their names.
use Rattle.std.specs.Prelude.{ℕ, ◌≡◌, Bool, true, List, Option, Some, None, if◌then◌else◌}
use Rattle.walrus_sections.specs.Sections.{name_in}
use Rattle.walrus_sections.specs.declared.section.Section.{Section}

-- where boxed sections have these names, and this may be answered of a name
module _ {B : Type 0} (names : B → List ℕ) (Answers : List ℕ → Bool → Type 0) where
  -- the answer of the name of the section that is there; none stays as it is
  abbrev pub Stays : Option (Section B) → Bool → Type 0
  Stays None answer = answer ≡ true
  Stays (Some section) answer = Answers (name_in names section) answer

  -- the section that is there stays, or goes, as is answered of its name
  abbrev pub IsRetained : Option (Section B) → Option (Section B) → Type 0
  IsRetained None new = new ≡ None
  IsRetained (Some section) new = (answer : Bool) × Answers (name_in names section) answer × (new ≡ (if answer then Some section else None))
