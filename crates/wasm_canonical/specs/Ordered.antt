-- The sections that are due to a module stand in the order of a file's sections (Core Specification, binary format: modules).
use Rattle.std.specs.Prelude.{ℕ, ◌≡◌, Bool, List, [], ◌∷◌, None}
use Rattle.wasm_grammar.specs.Modules.{Custom, Module}
use Rattle.wasm_grammar.specs.States.{State, nothing_yet}
use Rattle.wasm_sections.specs.Sections.{SectionEntry, next, order_test}
use Rattle.wasm_canonical.specs.Due.{sections_due}

abbrev pub AreOrdered : State → List SectionEntry → Type 0
AreOrdered s [] = Unit {0}
AreOrdered s (x ∷ xs) = (order_test s.last x.1.0 ≡ None) × AreOrdered (next s x) xs

abbrev pub DueSectionsAreOrdered : Type 0
DueSectionsAreOrdered = (bodies : List (List ℕ)) (counted : Bool) (first last : List Custom) (m : Module) → AreOrdered nothing_yet (sections_due bodies counted first last m)
