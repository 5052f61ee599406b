-- The names of the locals of a module that was read are the last that its file gives to the locals that its bodies use (Core Specification, appendix Custom
-- Sections: name section).
use Rattle.std.specs.Prelude.{ℕ, ◌≡◌, ◌≤◌, false, true, List, length, Some, None, slice_get, slice_index_or}
use Rattle.wasm_grammar.specs.Modules as grammar
use Rattle.wasm_ruled_modules.specs.Rules.{around_bodies}
use Rattle.wasm_rewritten.specs.Customs.{names_from, slot_names}
use Rattle.walrus_arena.specs.Arena.{item_at}
use Rattle.walrus_config.specs.declared.config.ModuleConfig.{ModuleConfig}
use Rattle.walrus_index_maps.specs.Maps.{Ids}
use Rattle.walrus_index_maps.specs.Runs.{nowhere}
use Rattle.walrus_items.specs.declared.local.Local.{Local}
use Rattle.walrus_local_function.specs.declared.local_function.LocalFunction.{LocalFunction}
use Rattle.walrus_local_numbers.specs.Declared.{has_number}
use Rattle.walrus_meaning.specs.Bodies.{local_ids, named_locals, own_operators}
use Rattle.walrus_module.specs.declared.module.Module.{Module as Whole}
use Rattle.walrus_module_items.specs.Functions.{local_of}
use Rattle.walrus_module_items.specs.declared.function.Function.{Function}
use Rattle.walrus_named_bodies.specs.Parsed.{read_features}
use Rattle.walrus_parse_laws.specs.Means.{MeansFile}
use Rattle.walrus_customs_laws.specs.Locals.{used_name}

-- the number that stands for no local is none's id
abbrev pub AreFew : List Local → Type 0
AreFew locals = length locals ≤ nowhere

-- these are the locals that the body's operators name
abbrev pub AreNamed : LocalFunction → List ℕ → Type 0
AreNamed local used = (id : ℕ) → has_number used id ≡ has_number (named_locals (own_operators local)) id

-- of each function that has a body, where synthetic names aren't asked for
abbrev pub ReadLocalNamesAreLast : Type 0 → Type 0
ReadLocalNamesAreLast B = (config : ModuleConfig) (file : grammar.Module) (m : Whole B) (found : Ids) → MeansFile config file m found → config.generate_synthetic_names_for_anonymous_items ≡ false
    → AreFew m.locals → (f : ℕ) (g : grammar.Function) (x : grammar.Body) → slice_get file.functions f ≡ Some (Some g) → g.origin ≡ grammar.Own x
    → (function : Function) (local : LocalFunction) → item_at m.funcs f ≡ Some function → local_of function.kind ≡ Some local → (used : List ℕ) → AreNamed local used
    → names_from (used_name m.locals used) 0 (local_ids m.locals local) ≡ slot_names file (around_bodies (read_features config) true file) f (slice_index_or file.functions f None)
