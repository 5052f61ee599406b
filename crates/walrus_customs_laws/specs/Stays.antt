-- Names stay where a part of a module is kept, and where a segment declares functions.
use Rattle.std.specs.Prelude.{ℕ, ◌≡◌, List}
use Rattle.wasm_formats.specs.declared.fault.Space.{Space}
use Rattle.walrus_roots.specs.declared.item.Item.{Item}
use Rattle.walrus_module.specs.Parts.{Module}
use Rattle.walrus_passes.specs.Part.{IsKeptPart}
use Rattle.walrus_emit.specs.Left.{Declares}
use Rattle.walrus_customs_laws.specs.Items.{name_in}
use Rattle.walrus_customs_laws.specs.Read.{LivesIn}

-- what lives in what is kept lived before, by its name
abbrev pub PartsKeepNames : Type 0
PartsKeepNames = (m : Module) (pushed : List Item) (n : Module) → IsKeptPart m pushed n → (space : Space) (id : ℕ) → LivesIn n space id → LivesIn m space id × (name_in n space id ≡ name_in m space id)

-- what lived before has its name where functions were declared
abbrev pub DeclaringKeepsNames : Type 0
DeclaringKeepsNames = (functions : List ℕ) (m n : Module) → Declares functions m n → (space : Space) (id : ℕ) → LivesIn m space id → name_in n space id ≡ name_in m space id
