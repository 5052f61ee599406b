-- What is due for imports.
use Rattle.std.specs.Prelude.{ℕ, true, List, [], ◌∷◌, ◌++◌, length, Option, Some, None}
use Rattle.wasm_formats.specs.declared.fault.Limited.TheVariants as limits_of
use Rattle.wasm_formats.specs.declared.fault.Space.{Space}
use Rattle.wasm_formats.specs.declared.fault.Space.TheVariants as spaces
use Rattle.wasm_operators.specs.Items as items
use Rattle.wasm_grammar.specs.Modules.{Function, Import, Module}
use Rattle.walrus_errors.specs.declared.error.ModuleError.TheVariants.{NotLinked}
use Rattle.walrus_pairing.specs.Looks.{Look}
use Rattle.walrus_emit_parts.specs.Due.{Due, lacking, limited, text, written}
use Rattle.walrus_emit_due.specs.Values.{index}
use Rattle.walrus_emit_due.specs.Items.{global_type, memory, space_kind, table_type, tag}
use Rattle.walrus_emit_due.specs.Own.{live, own_section}
use Rattle.walrus_emit_due.specs.Slots.{live_at}

-- of what lives alone
abbrev pub linked : {A : Type 0} → (A → Due) → Option A → Due
linked due (Some x) = due x
linked due None = lacking NotLinked

abbrev pub function_type : Look → Function → Due
function_type look f = index spaces.«Type» (look items.Types f.ty)

-- the type of an item; nothing else is imported
abbrev pub type_at : Look → Module → Space → ℕ → Due
type_at look m spaces.Function id = linked (function_type look) (live_at m.functions id)
type_at look m spaces.Table id = linked (table_type look) (live_at m.tables id)
type_at look m spaces.Memory id = linked memory (live_at m.memories id)
type_at look m spaces.Global id = linked (global_type look) (live_at m.globals id)
type_at look m spaces.Tag id = linked (tag look) (live_at m.tags id)
type_at look m _ id = []

abbrev pub entity : Look → Module → Space → ℕ → Due
entity look m space id = written (space_kind space ∷ []) ++ type_at look m space id

abbrev pub name : List ℕ → Due
name bytes = limited 100000 (length bytes) limits_of.String (text bytes)

abbrev pub import : Look → Module → Import → Due
import look m i = name i.space_name ++ (name i.name ++ entity look m i.item.space i.item.number)

abbrev pub imports : Look → Module → Due
imports look m = limited 1000000 (length (live m.imports)) limits_of.Imports (own_section 2 (λ _. true) (import look m) m.imports)
