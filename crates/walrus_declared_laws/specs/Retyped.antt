-- A plan with other numbers for types: where these are the same for all types that the items of a file name, it has the same part of the file's merged module.
use Rattle.std.specs.Prelude.{ℕ, ◌≡◌, Bool, List, Option}
use Rattle.walrus_forms.specs.Records.{TypeGroup}
use Rattle.walrus_forms.specs.Renaming.{at}
use Rattle.wasm_features.specs.declared.WasmFeatures.{WasmFeatures}
use Rattle.wasm_grammar.specs.Modules.{Module}
use Rattle.wasm_merged_modules.specs.Merged.{ids_of, merged_module}
use Rattle.wasm_normal_modules.specs.Modules.{BringsNoTypes}
use Rattle.wasm_operators.specs.Items.{Space, Types, Functions, Tables, Memories, Tags, Globals, ElementSegments, DataSegments, Locals, Labels}
use Rattle.wasm_part.specs.Order.{HasDeclared, InOrder}
use Rattle.wasm_part.specs.Part.{Plan, part}

abbrev pub for_types : {A : Type 0} → A → (Space → A) → Space → A
for_types a of Types = a
for_types a of Functions = of Functions
for_types a of Tables = of Tables
for_types a of Memories = of Memories
for_types a of Tags = of Tags
for_types a of Globals = of Globals
for_types a of ElementSegments = of ElementSegments
for_types a of DataSegments = of DataSegments
for_types a of Locals = of Locals
for_types a of Labels = of Labels

-- types are numbered by this map, and listed so
abbrev pub retyped_plan : (ℕ → ℕ) → List ℕ → Plan → Plan
retyped_plan f types q = record q { renames = for_types f q.renames; listed = for_types types q.listed }

pub record IsRetyped (m : Module) (q p : Plan) : Type 0 where
  pub same : part p m ≡ part q m
  pub ordered : InOrder m q → InOrder m p
  pub declared : (nss : List (List ℕ)) → HasDeclared m q nss → HasDeclared m p nss

abbrev pub RetypedPartsAreSame : Type 0
RetypedPartsAreSame = (place : Option ℕ → ℕ) (features : WasmFeatures) (counted : Bool) (more : List TypeGroup) (file : Module) (q : Plan) (f : ℕ → ℕ) (types : List ℕ) → BringsNoTypes file
    → ((n : ℕ) → f (at (ids_of file.groups) n) ≡ q.renames Types (at (ids_of file.groups) n)) → IsRetyped (merged_module place features counted more file) q (retyped_plan f types q)
