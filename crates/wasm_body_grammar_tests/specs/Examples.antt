-- Modules around the bodies of the examples.
use Rattle.std.specs.Prelude.{ℕ, Bool, true, false, List, [], ◌∷◌, map, Option, Some, None}
use Rattle.wasm_features.specs.declared.WasmFeatures.{WasmFeatures}
use Rattle.wasm_features.specs.Features.{SharedEverythingThreads, LegacyExceptions, WideArithmetic, features_of}
use Rattle.wasm_features.specs.Sets.{default_names}
use Rattle.walrus_forms.specs.declared.value.AbstractHeapType.TheVariants as abstracts
use Rattle.walrus_forms.specs.declared.value.HeapType.TheVariants.{Abstract, Shared, Concrete}
use Rattle.walrus_forms.specs.declared.value.RefType.{RefType}
use Rattle.walrus_forms.specs.declared.value.ValType.{ValType}
use Rattle.walrus_forms.specs.declared.value.ValType.TheVariants.{I32, I64, Ref}
use Rattle.walrus_forms.specs.Forms.{FunctionForm}
use Rattle.walrus_forms.specs.Kinds.{Kind, function_kind, struct_kind, declared_kind}
use Rattle.walrus_forms.specs.Records.{TypeGroup}
use Rattle.wasm_operators.specs.declared.memory_access.MemoryAccess.{MemoryAccess}
use Rattle.wasm_operators.specs.Operators.{Seen}
use Rattle.wasm_operators.specs.Items.{Item}
use Rattle.wasm_grammar.specs.Modules.{Function, Memory, Own, Passive, Functions, Module, Body, Placed, empty}
use Rattle.wasm_body_grammar.specs.Rules.{Around}

-- the features of a module that is parsed with no other wish
abbrev pub usual : WasmFeatures
usual = features_of (LegacyExceptions ∷ WideArithmetic ∷ default_names)

-- types of these kinds, each a group of its own
abbrev pub groups_of : List Kind → List TypeGroup
groups_of kinds = map (λ k. record { marked = false; kinds = k ∷ [] }) kinds

abbrev pub without_body : Option Function
without_body = Some (record { ty = 0; origin = Own (record { locals = []; operators = [] }) })

abbrev pub around : Module → Around
around m = record { features = usual; filled = m; same = λ t. t; counted = false }

-- a type without parameters and results, and functions of it
abbrev pub plain : List (Option Function) → Module
plain functions = record empty { groups = groups_of (function_kind [] [] ∷ []); functions = functions }

abbrev pub one : Around
one = around (plain (without_body ∷ []))

abbrev pub two : Around
two = around (plain (without_body ∷ without_body ∷ []))

-- an operator of a byte
abbrev pub op : ℕ → List Item → Seen
op n items = record { code = record { prefix = 0; number = n }; items = items }

abbrev pub at : ℕ → Seen → Placed
at place op = record { place = place; op = op }

abbrev pub just : List Placed → Body
just operators = record { locals = []; operators = operators }

-- with a local of this type
abbrev pub with_local : ValType → List Placed → Body
with_local ty operators = record { locals = ty ∷ []; operators = operators }

abbrev pub prefixed : ℕ → ℕ → List Item → Seen
prefixed prefix n items = record { code = record { prefix = prefix; number = n }; items = items }

abbrev pub access : ℕ → ℕ → ℕ → MemoryAccess
access align memory offset = record { align = align; memory = memory; offset = offset }

abbrev pub memory : Bool → Option Memory
memory wide = Some (record { shared = false; wide = wide; initial = 1; maximum = None; page_size_log2 = None; imported = None })

abbrev pub funcref : RefType
funcref = record { nullable = true; heap_type = Abstract abstracts.Func }

-- a shared one without null
abbrev pub shared_funcref : ValType
shared_funcref = Ref (record { nullable = false; heap_type = Shared abstracts.Func })

-- a reference to the values of a type
abbrev pub to : ℕ → ValType
to t = Ref (record { nullable = true; heap_type = Concrete t })

-- types: a plain function type, one from i32 to i32, a structure, and an open function type from i64 to nothing; and one item of each
-- other space, but two memories, the second with 64 bits
abbrev pub shapes : Around
shapes = record (around (record empty {
  groups = groups_of (function_kind [] [] ∷ function_kind (I32 ∷ []) (I32 ∷ []) ∷ struct_kind [] ∷ declared_kind (FunctionForm (I64 ∷ []) []) false None ∷ []);
  functions = without_body ∷ [];
  tables = Some (record { wide = false; initial = 1; maximum = None; element = funcref; init = None; imported = None }) ∷ [];
  memories = memory false ∷ memory true ∷ [];
  tags = Some (record { ty = 0; imported = None }) ∷ [];
  globals = Some (record { ty = I32; mutable = false; origin = Own [] }) ∷ [];
  elements = Some (record { mode = Passive; items = Functions [] }) ∷ [];
  segments = Some (record { mode = Passive; bytes = [] }) ∷ [];
})) { counted = true }

abbrev pub counting : Around → Around
counting a = record a { counted = true }

abbrev pub without_legacy : Around → Around
without_legacy a = record a { features = features_of (WideArithmetic ∷ default_names) }

abbrev pub without_wide : Around → Around
without_wide a = record a { features = features_of (LegacyExceptions ∷ default_names) }

abbrev pub sharing : Around → Around
sharing a = record a { features = features_of (SharedEverythingThreads ∷ default_names) }

abbrev pub with_segment : Around
with_segment = around (record (plain (without_body ∷ [])) { memories = memory false ∷ []; segments = Some (record { mode = Passive; bytes = 0x2a ∷ [] }) ∷ [] })

-- a tag of a type from i32 to nothing
abbrev pub tagged : List Kind → Around
tagged kinds = around (record empty { groups = groups_of kinds; functions = without_body ∷ []; tags = Some (record { ty = 1; imported = None }) ∷ [] })

abbrev pub with_tag : Around
with_tag = tagged (function_kind [] [] ∷ function_kind (I32 ∷ []) [] ∷ [])

-- and an open type from i32 to i32
abbrev pub with_open : Around
with_open = tagged (function_kind [] [] ∷ function_kind (I32 ∷ []) [] ∷ declared_kind (FunctionForm (I32 ∷ []) (I32 ∷ [])) false None ∷ [])
