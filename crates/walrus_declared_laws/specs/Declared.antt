-- The functions that are declared of a module are those that a plan of all that lives wants, and that nothing holds.
use Rattle.std.specs.Prelude.{ℕ, ◌<◌, List, [], ◌∷◌, length}
use Rattle.std.specs.List.{AllZip}
use Rattle.walrus_arena.specs.Arena.{entries}
use Rattle.walrus_collections.specs.LookUps.{local_entries}
use Rattle.walrus_emit_numbers.specs.Facts.{AreFacts}
use Rattle.walrus_emit_numbers.specs.Undeclared.{undeclared_of}
use Rattle.walrus_emit_numbers.specs.declared.facts.BodyFacts.{BodyFacts}
use Rattle.walrus_module.specs.Parts.{parts}
use Rattle.walrus_module.specs.declared.module.Module.{Module}
use Rattle.walrus_parse_gc_laws.specs.Numbered.{numbered}
use Rattle.wasm_part.specs.Order.{HasDeclared, Wants}
use Rattle.wasm_part.specs.Part.{Plan}
use Rattle.walrus_declared_laws.specs.Wanted.{ListsAll}

-- in one segment, where there are some
abbrev pub in_one : List ℕ → List (List ℕ)
in_one [] = []
in_one (n ∷ ns) = (n ∷ ns) ∷ []

-- where what is wanted is there
abbrev pub UndeclaredAreDeclared : Type 0 → Type 0
UndeclaredAreDeclared B = (input : Module B) (facts : List BodyFacts) → AllZip AreFacts (local_entries (entries input.funcs)) facts → (p : Plan)
    → (let m = numbered (parts input) in ListsAll p m → ((n : ℕ) → Wants m p n → n < length m.functions) → HasDeclared m p (in_one (undeclared_of input facts)))
