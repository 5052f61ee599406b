-- Imports and the items that they bring (Core Specification, valid modules: imports).
use Rattle.std.specs.Prelude.{ℕ, ◌≡◌, List, [], map, Option, Some, None, slice_index_or}
use Rattle.wasm_features.specs.declared.WasmFeatures.{WasmFeatures}
use Rattle.wasm_formats.specs.declared.fault.Space.{Space}
use Rattle.wasm_formats.specs.declared.fault.Space.TheVariants as spaces
use Rattle.wasm_grammar.specs.Modules.{Item, Origin, Imported, Own, Function, Table, Memory, Global, Tag, Import, Module}
use Rattle.wasm_modules.specs.Modules.{Reads}

-- the import that brings an item, if one does
abbrev pub origin_import : {A : Type 0} → Origin A → Option ℕ
origin_import (Imported n) = Some n
origin_import (Own x) = None

-- the same of the item of a slot, if there is one
abbrev pub slot_import : {A : Type 0} → (A → Option ℕ) → Option A → Option ℕ
slot_import brings None = None
slot_import brings (Some x) = brings x

abbrev pub function_brought : Function → Option ℕ
function_brought f = origin_import f.origin

abbrev pub table_brought : Table → Option ℕ
table_brought t = t.imported

abbrev pub memory_brought : Memory → Option ℕ
memory_brought x = x.imported

abbrev pub tag_brought : Tag → Option ℕ
tag_brought t = t.imported

abbrev pub global_brought : Global → Option ℕ
global_brought g = origin_import g.origin

-- of each slot of a space the import that brings its item; only five spaces have such items
abbrev pub brought : Module → Space → List (Option ℕ)
brought m spaces.Function = map (slot_import function_brought) m.functions
brought m spaces.Table = map (slot_import table_brought) m.tables
brought m spaces.Memory = map (slot_import memory_brought) m.memories
brought m spaces.Tag = map (slot_import tag_brought) m.tags
brought m spaces.Global = map (slot_import global_brought) m.globals
brought m spaces.«Type» = []
brought m spaces.Element = []
brought m spaces.Data = []
brought m spaces.Local = []
brought m spaces.Label = []

-- each import names an item that this import brings, and each item that an import brings is the one that it names
pub record AreLinked (b : Space → List (Option ℕ)) (imports : List (Option Import)) : Type 0 where
  pub named : (i : ℕ) (x : Import) → slice_index_or imports i None ≡ Some x → slice_index_or (b x.item.space) x.item.number None ≡ Some i
  pub told : (space : Space) (n i : ℕ) → slice_index_or (b space) n None ≡ Some i → (x : Import) × (slice_index_or imports i None ≡ Some x) × (x.item ≡ record { space = space; number = n })

abbrev pub ImportsLink : Module → Type 0
ImportsLink m = AreLinked (brought m) m.imports

abbrev pub ReadModulesLink : Type 0
ReadModulesLink = (features : WasmFeatures) (bytes : List ℕ) (m : Module) → Reads features bytes m → ImportsLink m
