-- Worked files that are modules.
use Rattle.std.specs.Prelude.{Bool, ℕ, pos, true, false, List, [], ◌∷◌, ◌++◌, map, Option, Some, None}
use Rattle.wasm_ref_types.specs.declared.heap.AbstractHeapType.TheVariants as read_heaps
use Rattle.wasm_ref_types.specs.declared.heap.HeapType.TheVariants.{Abstract as ReadAbstract, Concrete as ReadConcrete}
use Rattle.wasm_ref_types.specs.declared.index.UnpackedIndex.TheVariants.{Module as OfModule}
use Rattle.wasm_ref_types.specs.declared.value.ValType.TheVariants as values
use Rattle.walrus_forms.specs.declared.value.AbstractHeapType.TheVariants as heaps
use Rattle.walrus_forms.specs.declared.value.FieldType.{FieldType}
use Rattle.walrus_forms.specs.declared.value.HeapType.TheVariants.{Shared, Concrete}
use Rattle.walrus_forms.specs.declared.value.RefType.{RefType}
use Rattle.walrus_forms.specs.declared.value.StorageType.{StorageType}
use Rattle.walrus_forms.specs.declared.value.StorageType.TheVariants.{Val, I8}
use Rattle.walrus_forms.specs.declared.value.ValType.{ValType}
use Rattle.walrus_forms.specs.declared.value.ValType.TheVariants.{I32, I64, Ref}
use Rattle.walrus_forms.specs.Values.{nullable}
use Rattle.walrus_forms.specs.Forms.{StructForm}
use Rattle.walrus_forms.specs.Kinds.{Kind, declared_kind, function_kind, array_kind}
use Rattle.walrus_forms.specs.Records.{TypeGroup}
use Rattle.wasm_operators.specs.declared.block_type.BlockType.TheVariants as blocks
use Rattle.wasm_operators.specs.Items.{Item, Functions, Tags, Globals, DataSegments, Locals, Names, S32, S64, Heap, Block}
use Rattle.wasm_operators.specs.Operators.{Seen}
use Rattle.wasm_formats.specs.declared.fault.Space.{Space}
use Rattle.wasm_formats.specs.declared.fault.Space.TheVariants as spaces
use Rattle.wasm_grammar.specs.Modules.{Imported, Own, Placed, Body, Function, Table, Memory, Mode, Passive, Declared, Active, Elements, Functions as Indices, Expressions, Element, Segment, Import, Export, Custom, Module, empty}
use Rattle.wasm_module_rows.specs.Files.{magic, plain_type, one_function, exported, base, shortest, usual, with_shared, AreModules}

-- ---- words for modules

abbrev pub nullary : Kind
nullary = function_kind [] []

abbrev pub alone : Kind → TypeGroup
alone kind = record { marked = false; kinds = kind ∷ [] }

abbrev pub op : ℕ → List Item → Seen
op n items = record { code = record { prefix = 0; number = n }; items = items }

abbrev pub prefixed : ℕ → ℕ → List Item → Seen
prefixed prefix n items = record { code = record { prefix = prefix; number = n }; items = items }

abbrev pub at : ℕ → Seen → Placed
at place op = record { place = place; op = op }

abbrev pub just : List Placed → Body
just operators = record { locals = []; operators = operators }

abbrev pub own : ℕ → Body → Option Function
own ty body = Some (record { ty = ty; origin = Own body })

abbrev pub custom : List ℕ → List ℕ → Option Custom
custom name bytes = Some (record { name = name; bytes = bytes })

abbrev pub export : List ℕ → Space → ℕ → Option Export
export name space n = Some (record { name = name; item = record { space = space; number = n } })

abbrev pub funcref : RefType
funcref = nullable heaps.Func

-- functions of one type without parameters and results, of which this one is exported as `f`
abbrev pub simple : ℕ → List Body → Module
simple n bodies = record empty { groups = alone nullary ∷ []; functions = map (own 0) bodies; exports = export (0x66 ∷ []) spaces.Function n ∷ [] }

-- ---- the files

abbrev pub modules : List (List ℕ × Module)
modules =
    ((base ++ 0x0a ∷ 0x05 ∷ 0x01 ∷ 0x03 ∷ 0x00 ∷ 0x01 ∷ 0x0b ∷ []), simple 0 (just (at 3 (op 0x01 []) ∷ at 4 (op 0x0b []) ∷ []) ∷ []))
    ∷ ((magic ++ plain_type ++ 0x03 ∷ 0x03 ∷ 0x02 ∷ 0x00 ∷ 0x00 ∷ 0x07 ∷ 0x05 ∷ 0x01 ∷ 0x01 ∷ 0x66 ∷ 0x00 ∷ 0x01 ∷ 0x0a ∷ 0x08 ∷ 0x02 ∷ 0x03 ∷ 0x00 ∷ 0x0f ∷ 0x0b ∷ 0x02 ∷ 0x00 ∷ 0x0b ∷ []), simple 1 (just (at 3 (op 0x0f []) ∷ at 4 (op 0x0b []) ∷ []) ∷ just (at 7 (op 0x0b []) ∷ []) ∷ []))
    ∷ ((magic ++ plain_type ++ 0x03 ∷ 0x03 ∷ 0x02 ∷ 0x00 ∷ 0x00 ∷ [] ++ exported ++ 0x0a ∷ 0x0c ∷ 0x02 ∷ 0x04 ∷ 0x00 ∷ 0x10 ∷ 0x01 ∷ 0x0b ∷ 0x05 ∷ 0x00 ∷ 0x41 ∷ 0x07 ∷ 0x1a ∷ 0x0b ∷ []), simple 0 (just (at 3 (op 0x10 (Names Functions 1 ∷ [])) ∷ at 5 (op 0x0b []) ∷ []) ∷ just (at 8 (op 0x41 (S32 (pos 7) ∷ [])) ∷ at 10 (op 0x1a []) ∷ at 11 (op 0x0b []) ∷ []) ∷ []))
    ∷ (magic, empty)
    ∷ ((magic ++ 0x01 ∷ 0x07 ∷ 0x02 ∷ 0x60 ∷ 0x00 ∷ 0x00 ∷ 0x60 ∷ 0x00 ∷ 0x00 ∷ 0x03 ∷ 0x02 ∷ 0x01 ∷ 0x01 ∷ [] ++ exported ++ 0x0a ∷ 0x04 ∷ 0x01 ∷ 0x02 ∷ 0x00 ∷ 0x0b ∷ []), record (simple 0 []) { groups = alone nullary ∷ alone nullary ∷ []; functions = own 1 (just (at 3 (op 0x0b []) ∷ [])) ∷ [] })
    ∷ ((magic ++ 0x01 ∷ 0x09 ∷ 0x02 ∷ 0x4e ∷ 0x01 ∷ 0x60 ∷ 0x00 ∷ 0x00 ∷ 0x60 ∷ 0x00 ∷ 0x00 ∷ 0x03 ∷ 0x02 ∷ 0x01 ∷ 0x01 ∷ [] ++ exported ++ 0x0a ∷ 0x04 ∷ 0x01 ∷ 0x02 ∷ 0x00 ∷ 0x0b ∷ []), record (simple 0 []) { groups = record { marked = true; kinds = nullary ∷ [] } ∷ alone nullary ∷ []; functions = own 1 (just (at 3 (op 0x0b []) ∷ [])) ∷ [] })
    ∷ ((base ++ 0x0a ∷ 0x09 ∷ 0x01 ∷ 0x07 ∷ 0x00 ∷ 0x41 ∷ 0x01 ∷ 0x04 ∷ 0x40 ∷ 0x0b ∷ 0x0b ∷ []), simple 0 (just (at 3 (op 0x41 (S32 (pos 1) ∷ [])) ∷ at 5 (op 0x04 (Block blocks.Empty ∷ [])) ∷ at 7 (op 0x0b []) ∷ at 8 (op 0x0b []) ∷ []) ∷ []))
    ∷ ((base ++ 0x0a ∷ 0x0b ∷ 0x01 ∷ 0x09 ∷ 0x02 ∷ 0x01 ∷ 0x7f ∷ 0x01 ∷ 0x7e ∷ 0x20 ∷ 0x01 ∷ 0x1a ∷ 0x0b ∷ []), simple 0 (record { locals = I32 ∷ I64 ∷ []; operators = at 7 (op 0x20 (Names Locals 1 ∷ [])) ∷ at 9 (op 0x1a []) ∷ at 10 (op 0x0b []) ∷ [] } ∷ []))
    ∷ ((magic ++ 0x01 ∷ 0x84 ∷ 0x00 ∷ 0x01 ∷ 0x60 ∷ 0x00 ∷ 0x00 ∷ [] ++ one_function ++ exported ++ 0x0a ∷ 0x04 ∷ 0x01 ∷ 0x02 ∷ 0x00 ∷ 0x0b ∷ []), simple 0 (just (at 3 (op 0x0b []) ∷ []) ∷ []))
    ∷ ((base ++ 0x0a ∷ 0x08 ∷ 0x01 ∷ 0x06 ∷ 0x00 ∷ 0x0f ∷ 0x41 ∷ 0x07 ∷ 0x1a ∷ 0x0b ∷ []), simple 0 (just (at 3 (op 0x0f []) ∷ at 4 (op 0x41 (S32 (pos 7) ∷ [])) ∷ at 6 (op 0x1a []) ∷ at 7 (op 0x0b []) ∷ []) ∷ []))
    ∷ ((magic ++ plain_type ++ 0x03 ∷ 0x03 ∷ 0x02 ∷ 0x00 ∷ 0x00 ∷ [] ++ exported ++ 0x0a ∷ 0x0b ∷ 0x02 ∷ 0x06 ∷ 0x00 ∷ 0x12 ∷ 0x00 ∷ 0x10 ∷ 0x01 ∷ 0x0b ∷ 0x02 ∷ 0x00 ∷ 0x0b ∷ []), simple 0 (just (at 3 (op 0x12 (Names Functions 0 ∷ [])) ∷ at 5 (op 0x10 (Names Functions 1 ∷ [])) ∷ at 7 (op 0x0b []) ∷ []) ∷ just (at 10 (op 0x0b []) ∷ []) ∷ []))
    ∷ ((magic ++ plain_type ++ 0x03 ∷ 0x03 ∷ 0x02 ∷ 0x00 ∷ 0x00 ∷ 0x06 ∷ 0x06 ∷ 0x01 ∷ 0x70 ∷ 0x00 ∷ 0xd2 ∷ 0x01 ∷ 0x0b ∷ [] ++ exported ++ 0x0a ∷ 0x0a ∷ 0x02 ∷ 0x05 ∷ 0x00 ∷ 0xd2 ∷ 0x01 ∷ 0x1a ∷ 0x0b ∷ 0x02 ∷ 0x00 ∷ 0x0b ∷ []), record (simple 0 (just (at 3 (op 0xd2 (Names Functions 1 ∷ [])) ∷ at 5 (op 0x1a []) ∷ at 6 (op 0x0b []) ∷ []) ∷ just (at 9 (op 0x0b []) ∷ []) ∷ [])) { globals = Some (record { ty = Ref funcref; mutable = false; origin = Own (op 0xd2 (Names Functions 1 ∷ []) ∷ []) }) ∷ [] })
    ∷ ((magic ++ plain_type ++ one_function ++ 0x05 ∷ 0x03 ∷ 0x01 ∷ 0x00 ∷ 0x01 ∷ [] ++ exported ++ 0x0c ∷ 0x01 ∷ 0x01 ∷ 0x0a ∷ 0x07 ∷ 0x01 ∷ 0x05 ∷ 0x00 ∷ 0xfc ∷ 0x09 ∷ 0x00 ∷ 0x0b ∷ 0x0b ∷ 0x04 ∷ 0x01 ∷ 0x01 ∷ 0x01 ∷ 0x2a ∷ []), record (simple 0 (just (at 3 (prefixed 0xfc 9 (Names DataSegments 0 ∷ [])) ∷ at 6 (op 0x0b []) ∷ []) ∷ [])) { memories = Some (record { shared = false; wide = false; initial = 1; maximum = None; page_size_log2 = None; imported = None }) ∷ []; segments = Some (record { mode = Passive; bytes = 0x2a ∷ [] }) ∷ [] })
    ∷ ((magic ++ 0x00 ∷ 0x0e ∷ 0x04 ∷ 0x6e ∷ 0x61 ∷ 0x6d ∷ 0x65 ∷ 0x01 ∷ 0x07 ∷ 0x02 ∷ 0x00 ∷ 0x01 ∷ 0x61 ∷ 0x01 ∷ 0x05 ∷ 0x62 ∷ [] ++ plain_type ++ one_function ++ exported ++ 0x0a ∷ 0x04 ∷ 0x01 ∷ 0x02 ∷ 0x00 ∷ 0x0b ∷ []), record (simple 0 (just (at 3 (op 0x0b []) ∷ []) ∷ [])) { customs = Some (record { name = 0x6e ∷ 0x61 ∷ 0x6d ∷ 0x65 ∷ []; bytes = 0x01 ∷ 0x07 ∷ 0x02 ∷ 0x00 ∷ 0x01 ∷ 0x61 ∷ 0x01 ∷ 0x05 ∷ 0x62 ∷ [] }) ∷ [] })
    ∷ ((magic ++ plain_type ++ one_function ++ 0x04 ∷ 0x04 ∷ 0x01 ∷ 0x70 ∷ 0x00 ∷ 0x01 ∷ [] ++ exported ++ 0x09 ∷ 0x07 ∷ 0x01 ∷ 0x00 ∷ 0x41 ∷ 0x00 ∷ 0x0b ∷ 0x01 ∷ 0x00 ∷ 0x0a ∷ 0x04 ∷ 0x01 ∷ 0x02 ∷ 0x00 ∷ 0x0b ∷ []), record (simple 0 (just (at 3 (op 0x0b []) ∷ []) ∷ [])) { tables = Some (record { wide = false; initial = 1; maximum = None; element = funcref; init = None; imported = None }) ∷ []; elements = Some (record { mode = Active 0 (op 0x41 (S32 (pos 0) ∷ []) ∷ []); items = Indices (0 ∷ []) }) ∷ [] })
    ∷ ((magic ++ 0x01 ∷ 0x08 ∷ 0x02 ∷ 0x60 ∷ 0x00 ∷ 0x00 ∷ 0x60 ∷ 0x01 ∷ 0x7f ∷ 0x00 ∷ [] ++ one_function ++ 0x0d ∷ 0x03 ∷ 0x01 ∷ 0x00 ∷ 0x01 ∷ [] ++ exported ++ 0x0a ∷ 0x0c ∷ 0x01 ∷ 0x0a ∷ 0x00 ∷ 0x06 ∷ 0x7f ∷ 0x41 ∷ 0x01 ∷ 0x07 ∷ 0x00 ∷ 0x0b ∷ 0x1a ∷ 0x0b ∷ []), record (simple 0 (just (at 3 (op 0x06 (Block (blocks.Value values.I32) ∷ [])) ∷ at 5 (op 0x41 (S32 (pos 1) ∷ [])) ∷ at 7 (op 0x07 (Names Tags 0 ∷ [])) ∷ at 9 (op 0x0b []) ∷ at 10 (op 0x1a []) ∷ at 11 (op 0x0b []) ∷ []) ∷ [])) { groups = alone nullary ∷ alone (function_kind (I32 ∷ []) []) ∷ []; tags = Some (record { ty = 1; imported = None }) ∷ [] })
    ∷ ((magic ++ 0x00 ∷ 0x0c ∷ 0x0b ∷ 0x2e ∷ 0x64 ∷ 0x65 ∷ 0x62 ∷ 0x75 ∷ 0x67 ∷ 0x5f ∷ 0x69 ∷ 0x6e ∷ 0x66 ∷ 0x6f ∷ 0x00 ∷ 0x03 ∷ 0x01 ∷ 0x78 ∷ 0x2a ∷ 0x00 ∷ 0x0a ∷ 0x08 ∷ 0x64 ∷ 0x79 ∷ 0x6c ∷ 0x69 ∷ 0x6e ∷ 0x6b ∷ 0x2e ∷ 0x30 ∷ 0x07 ∷ []), record empty { customs = custom (0x2e ∷ 0x64 ∷ 0x65 ∷ 0x62 ∷ 0x75 ∷ 0x67 ∷ 0x5f ∷ 0x69 ∷ 0x6e ∷ 0x66 ∷ 0x6f ∷ []) [] ∷ custom (0x78 ∷ []) (0x2a ∷ []) ∷ custom (0x64 ∷ 0x79 ∷ 0x6c ∷ 0x69 ∷ 0x6e ∷ 0x6b ∷ 0x2e ∷ 0x30 ∷ []) (0x07 ∷ []) ∷ [] })
    ∷ ((magic ++ plain_type), record empty { groups = alone nullary ∷ [] })
    ∷ ((magic ++ plain_type ++ one_function ++ 0x08 ∷ 0x01 ∷ 0x00 ∷ 0x0a ∷ 0x04 ∷ 0x01 ∷ 0x02 ∷ 0x00 ∷ 0x0b ∷ []), record (simple 0 (just (at 3 (op 0x0b []) ∷ []) ∷ [])) { exports = []; start = Some 0 })
    ∷ (shortest, simple 0 (just (at 3 (op 0x0b []) ∷ []) ∷ []))
    ∷ ((base ++ 0x0a ∷ 0x0b ∷ 0x01 ∷ 0x09 ∷ 0x00 ∷ 0x41 ∷ 0x07 ∷ 0x1a ∷ 0x01 ∷ 0x41 ∷ 0x07 ∷ 0x1a ∷ 0x0b ∷ []), simple 0 (just (at 3 (op 0x41 (S32 (pos 7) ∷ [])) ∷ at 5 (op 0x1a []) ∷ at 6 (op 0x01 []) ∷ at 7 (op 0x41 (S32 (pos 7) ∷ [])) ∷ at 9 (op 0x1a []) ∷ at 10 (op 0x0b []) ∷ []) ∷ []))
    ∷ ((shortest ++ 0x00 ∷ 0x05 ∷ 0x04 ∷ 0x6e ∷ 0x61 ∷ 0x6d ∷ 0x65 ∷ []), record (simple 0 (just (at 3 (op 0x0b []) ∷ []) ∷ [])) { customs = custom (0x6e ∷ 0x61 ∷ 0x6d ∷ 0x65 ∷ []) [] ∷ [] })
    ∷ ((shortest ++ 0x00 ∷ 0x08 ∷ 0x04 ∷ 0x6e ∷ 0x61 ∷ 0x6d ∷ 0x65 ∷ 0x01 ∷ 0x7f ∷ 0x00 ∷ []), record (simple 0 (just (at 3 (op 0x0b []) ∷ []) ∷ [])) { customs = custom (0x6e ∷ 0x61 ∷ 0x6d ∷ 0x65 ∷ []) (0x01 ∷ 0x7f ∷ 0x00 ∷ []) ∷ [] })
    ∷ []

-- ---- where shared types are read

-- a nullable reference to shared functions
abbrev pub shared_funcref : ValType
shared_funcref = Ref (record { nullable = true; heap_type = Shared heaps.Func })

-- a global of one, whose type is written in its long form; and functions that have one, and one that isn't shared, for a parameter
abbrev pub shared_modules : List (List ℕ × Module)
shared_modules = (
  (magic ++ 0x06 ∷ 0x09 ∷ 0x01 ∷ 0x63 ∷ 0x65 ∷ 0x70 ∷ 0x00 ∷ 0xd0 ∷ 0x65 ∷ 0x70 ∷ 0x0b ∷ 0x07 ∷ 0x05 ∷ 0x01 ∷ 0x01 ∷ 0x67 ∷ 0x03 ∷ 0x00 ∷ []),
  record empty {
    globals = Some (record { ty = shared_funcref; mutable = false; origin = Own (op 0xd0 (Heap (ReadAbstract true read_heaps.Func) ∷ []) ∷ []) }) ∷ [];
    exports = export (0x67 ∷ []) spaces.Global 0 ∷ [];
  },
)
    ∷ (
      (magic ++ 0x01 ∷ 0x0a ∷ 0x02 ∷ 0x60 ∷ 0x01 ∷ 0x65 ∷ 0x70 ∷ 0x00 ∷ 0x60 ∷ 0x01 ∷ 0x70 ∷ 0x00 ∷ 0x03 ∷ 0x03 ∷ 0x02 ∷ 0x00 ∷ 0x01 ∷ 0x07 ∷ 0x09 ∷ 0x02 ∷ 0x01 ∷ 0x61 ∷ 0x00 ∷ 0x00 ∷ 0x01 ∷ 0x62 ∷ 0x00 ∷ 0x01 ∷ 0x0a ∷ 0x07 ∷ 0x02 ∷ 0x02 ∷ 0x00 ∷ 0x0b ∷ 0x02 ∷ 0x00 ∷ 0x0b ∷ []),
      record empty {
        groups = alone (function_kind (shared_funcref ∷ []) []) ∷ alone (function_kind (Ref funcref ∷ []) []) ∷ [];
        functions = own 0 (just (at 3 (op 0x0b []) ∷ [])) ∷ own 1 (just (at 6 (op 0x0b []) ∷ [])) ∷ [];
        exports = export (0x61 ∷ []) spaces.Function 0 ∷ export (0x62 ∷ []) spaces.Function 1 ∷ [];
      },
    )
    ∷ []

-- ---- one item of each kind, imported and not

abbrev pub everything : List ℕ
everything = magic ++ plain_type ++ 0x02 ∷ 0x25 ∷ 0x05 ∷ 0x01 ∷ 0x6d ∷ 0x01 ∷ 0x66 ∷ 0x00 ∷ 0x00 ∷ 0x01 ∷ 0x6d ∷ 0x01 ∷ 0x74 ∷ 0x01 ∷ 0x70 ∷ 0x00 ∷ 0x01 ∷ 0x01 ∷ 0x6d ∷ 0x01 ∷ 0x6d ∷ 0x02 ∷ 0x01 ∷ 0x01 ∷ 0x02 ∷ 0x01 ∷ 0x6d ∷ 0x01 ∷ 0x67 ∷ 0x03 ∷ 0x7f ∷ 0x00 ∷ 0x01 ∷ 0x6d ∷ 0x01 ∷ 0x65 ∷ 0x04 ∷ 0x00 ∷ 0x00 ∷ [] ++ one_function ++ 0x04 ∷ 0x05 ∷ 0x01 ∷ 0x70 ∷ 0x01 ∷ 0x01 ∷ 0x03 ∷ 0x05 ∷ 0x03 ∷ 0x01 ∷ 0x00 ∷ 0x01 ∷ 0x0d ∷ 0x03 ∷ 0x01 ∷ 0x00 ∷ 0x00 ∷ 0x06 ∷ 0x06 ∷ 0x01 ∷ 0x7f ∷ 0x01 ∷ 0x41 ∷ 0x07 ∷ 0x0b ∷ 0x07 ∷ 0x05 ∷ 0x01 ∷ 0x01 ∷ 0x78 ∷ 0x00 ∷ 0x01 ∷ 0x09 ∷ 0x07 ∷ 0x01 ∷ 0x00 ∷ 0x41 ∷ 0x00 ∷ 0x0b ∷ 0x01 ∷ 0x01 ∷ 0x0a ∷ 0x06 ∷ 0x01 ∷ 0x04 ∷ 0x00 ∷ 0x10 ∷ 0x00 ∷ 0x0b ∷ 0x0b ∷ 0x07 ∷ 0x01 ∷ 0x00 ∷ 0x23 ∷ 0x00 ∷ 0x0b ∷ 0x01 ∷ 0x2a ∷ []

abbrev pub import_named : ℕ → Space → ℕ → Option Import
import_named name space n = Some (record { space_name = 0x6d ∷ []; name = name ∷ []; item = record { space = space; number = n } })

abbrev pub table : ℕ → Option ℕ → Option ℕ → Option Table
table initial maximum imported = Some (record { wide = false; initial = initial; maximum = maximum; element = funcref; init = None; imported = imported })

abbrev pub memory : ℕ → Option ℕ → Option ℕ → Option Memory
memory initial maximum imported =
    Some (record { shared = false; wide = false; initial = initial; maximum = maximum; page_size_log2 = None; imported = imported })

abbrev pub all_items : Module
all_items = record {
  groups = alone nullary ∷ [];
  imports = import_named 0x66 spaces.Function 0 ∷ import_named 0x74 spaces.Table 0 ∷ import_named 0x6d spaces.Memory 0 ∷ import_named 0x67 spaces.Global 0 ∷ import_named 0x65 spaces.Tag 0 ∷ [];
  functions = Some (record { ty = 0; origin = Imported 0 }) ∷ own 0 (just (at 3 (op 0x10 (Names Functions 0 ∷ [])) ∷ at 5 (op 0x0b []) ∷ [])) ∷ [];
  tables = table 1 None (Some 1) ∷ table 1 (Some 3) None ∷ [];
  memories = memory 1 (Some 2) (Some 2) ∷ memory 1 None None ∷ [];
  tags = Some (record { ty = 0; imported = Some 4 }) ∷ Some (record { ty = 0; imported = None }) ∷ [];
  globals = Some (record { ty = I32; mutable = false; origin = Imported 3 }) ∷ Some (record { ty = I32; mutable = true; origin = Own (op 0x41 (S32 (pos 7) ∷ []) ∷ []) }) ∷ [];
  exports = export (0x78 ∷ []) spaces.Function 1 ∷ [];
  start = None;
  elements = Some (record { mode = Active 0 (op 0x41 (S32 (pos 0) ∷ []) ∷ []); items = Indices (1 ∷ []) }) ∷ [];
  segments = Some (record { mode = Active 0 (op 0x23 (Names Globals 0 ∷ []) ∷ []); bytes = 0x2a ∷ [] }) ∷ [];
  customs = [];
}

-- ---- each form of each section

abbrev pub forms : List ℕ
forms = magic ++ 0x01 ∷ 0x19 ∷ 0x03 ∷ 0x60 ∷ 0x00 ∷ 0x00 ∷ 0x4e ∷ 0x02 ∷ 0x50 ∷ 0x00 ∷ 0x5f ∷ 0x01 ∷ 0x7f ∷ 0x01 ∷ 0x4f ∷ 0x01 ∷ 0x01 ∷ 0x5f ∷ 0x02 ∷ 0x7f ∷ 0x01 ∷ 0x78 ∷ 0x00 ∷ 0x5e ∷ 0x64 ∷ 0x01 ∷ 0x00 ∷ 0x03 ∷ 0x02 ∷ 0x01 ∷ 0x00 ∷ 0x04 ∷ 0x11 ∷ 0x03 ∷ 0x70 ∷ 0x00 ∷ 0x01 ∷ 0x40 ∷ 0x00 ∷ 0x70 ∷ 0x01 ∷ 0x02 ∷ 0x03 ∷ 0xd2 ∷ 0x00 ∷ 0x0b ∷ 0x6f ∷ 0x05 ∷ 0x04 ∷ 0x05 ∷ 0x05 ∷ 0x09 ∷ 0x03 ∷ 0x00 ∷ 0x01 ∷ 0x03 ∷ 0x01 ∷ 0x02 ∷ 0x0c ∷ 0x01 ∷ 0x00 ∷ 0x0d ∷ 0x03 ∷ 0x01 ∷ 0x00 ∷ 0x00 ∷ 0x06 ∷ 0x13 ∷ 0x03 ∷ 0x7e ∷ 0x01 ∷ 0x42 ∷ 0x05 ∷ 0x0b ∷ 0x7f ∷ 0x00 ∷ 0x41 ∷ 0x01 ∷ 0x41 ∷ 0x02 ∷ 0x6a ∷ 0x0b ∷ 0x7f ∷ 0x00 ∷ 0x23 ∷ 0x01 ∷ 0x0b ∷ 0x07 ∷ 0x15 ∷ 0x05 ∷ 0x01 ∷ 0x61 ∷ 0x00 ∷ 0x00 ∷ 0x01 ∷ 0x62 ∷ 0x01 ∷ 0x02 ∷ 0x01 ∷ 0x63 ∷ 0x02 ∷ 0x02 ∷ 0x01 ∷ 0x64 ∷ 0x03 ∷ 0x02 ∷ 0x01 ∷ 0x65 ∷ 0x04 ∷ 0x00 ∷ 0x08 ∷ 0x01 ∷ 0x00 ∷ 0x09 ∷ 0x36 ∷ 0x09 ∷ 0x00 ∷ 0x41 ∷ 0x00 ∷ 0x0b ∷ 0x01 ∷ 0x00 ∷ 0x01 ∷ 0x00 ∷ 0x01 ∷ 0x00 ∷ 0x02 ∷ 0x02 ∷ 0x42 ∷ 0x00 ∷ 0x0b ∷ 0x00 ∷ 0x01 ∷ 0x00 ∷ 0x03 ∷ 0x00 ∷ 0x00 ∷ 0x04 ∷ 0x23 ∷ 0x01 ∷ 0x0b ∷ 0x01 ∷ 0xd2 ∷ 0x00 ∷ 0x0b ∷ 0x05 ∷ 0x6f ∷ 0x01 ∷ 0xd0 ∷ 0x6f ∷ 0x0b ∷ 0x06 ∷ 0x02 ∷ 0x42 ∷ 0x00 ∷ 0x0b ∷ 0x70 ∷ 0x00 ∷ 0x07 ∷ 0x63 ∷ 0x00 ∷ 0x01 ∷ 0xd0 ∷ 0x00 ∷ 0x0b ∷ 0x81 ∷ 0x00 ∷ 0x00 ∷ 0x00 ∷ 0x0c ∷ 0x01 ∷ 0x03 ∷ 0x0a ∷ 0x04 ∷ 0x01 ∷ 0x02 ∷ 0x00 ∷ 0x0b ∷ 0x0b ∷ 0x11 ∷ 0x03 ∷ 0x00 ∷ 0x41 ∷ 0x00 ∷ 0x0b ∷ 0x01 ∷ 0xaa ∷ 0x01 ∷ 0x02 ∷ 0xbb ∷ 0xcc ∷ 0x02 ∷ 0x02 ∷ 0x42 ∷ 0x00 ∷ 0x0b ∷ 0x00 ∷ []

-- the table and the memory of number 2 have 64 bits
abbrev pub field : StorageType → Bool → FieldType
field ty mutable = record { element_type = ty; mutable = mutable }

abbrev pub reference : Bool → ℕ → RefType
reference null n = record { nullable = null; heap_type = Concrete n }

abbrev pub i32_const : ℕ → Seen
i32_const n = op 0x41 (S32 (pos n) ∷ [])

abbrev pub i64_const : ℕ → Seen
i64_const n = op 0x42 (S64 (pos n) ∷ [])

abbrev pub global_get : ℕ → Seen
global_get n = op 0x23 (Names Globals n ∷ [])

abbrev pub ref_func : ℕ → Seen
ref_func n = op 0xd2 (Names Functions n ∷ [])

abbrev pub element : Mode → Elements → Option Element
element mode items = Some (record { mode = mode; items = items })

abbrev pub data_segment : Mode → List ℕ → Option Segment
data_segment mode bytes = Some (record { mode = mode; bytes = bytes })

abbrev pub all_forms : Module
all_forms = record {
  groups = alone nullary
      ∷ record { marked = true; kinds = declared_kind (StructForm (field (Val I32) true ∷ [])) false None ∷ declared_kind (StructForm (field (Val I32) true ∷ field I8 false ∷ [])) true (Some 1) ∷ [] }
      ∷ alone (array_kind (field (Val (Ref (reference false 1))) false))
      ∷ [];
  imports = [];
  functions = own 0 (just (at 3 (op 0x0b []) ∷ [])) ∷ [];
  tables = table 1 None None
      ∷ Some (record { wide = false; initial = 2; maximum = Some 3; element = funcref; init = Some (ref_func 0 ∷ []); imported = None })
      ∷ Some (record { wide = true; initial = 4; maximum = Some 5; element = nullable heaps.Extern; init = None; imported = None })
      ∷ [];
  memories = memory 1 None None
      ∷ Some (record { shared = true; wide = false; initial = 1; maximum = Some 2; page_size_log2 = None; imported = None })
      ∷ Some (record { shared = false; wide = true; initial = 1; maximum = None; page_size_log2 = Some 0; imported = None })
      ∷ [];
  tags = Some (record { ty = 0; imported = None }) ∷ [];
  globals = Some (record { ty = I64; mutable = true; origin = Own (i64_const 5 ∷ []) })
      ∷ Some (record { ty = I32; mutable = false; origin = Own (i32_const 1 ∷ i32_const 2 ∷ op 0x6a [] ∷ []) })
      ∷ Some (record { ty = I32; mutable = false; origin = Own (global_get 1 ∷ []) })
      ∷ [];
  exports = export (0x61 ∷ []) spaces.Function 0 ∷ export (0x62 ∷ []) spaces.Table 2 ∷ export (0x63 ∷ []) spaces.Memory 2 ∷ export (0x64 ∷ []) spaces.Global 2 ∷ export (0x65 ∷ []) spaces.Tag 0 ∷ [];
  start = Some 0;
  elements = element (Active 0 (i32_const 0 ∷ [])) (Indices (0 ∷ []))
      ∷ element Passive (Indices (0 ∷ []))
      ∷ element (Active 2 (i64_const 0 ∷ [])) (Indices (0 ∷ []))
      ∷ element Declared (Indices [])
      ∷ element (Active 0 (global_get 1 ∷ [])) (Expressions funcref ((ref_func 0 ∷ []) ∷ []))
      ∷ element Passive (Expressions (nullable heaps.Extern) ((op 0xd0 (Heap (ReadAbstract false read_heaps.Extern) ∷ []) ∷ []) ∷ []))
      ∷ element (Active 2 (i64_const 0 ∷ [])) (Expressions funcref [])
      ∷ element Declared (Expressions (reference true 0) ((op 0xd0 (Heap (ReadConcrete (OfModule 0)) ∷ []) ∷ []) ∷ []))
      ∷ element Passive (Indices [])
      ∷ [];
  segments = data_segment (Active 0 (i32_const 0 ∷ [])) (0xaa ∷ []) ∷ data_segment Passive (0xbb ∷ 0xcc ∷ []) ∷ data_segment (Active 2 (i64_const 0 ∷ [])) [] ∷ [];
  customs = [];
}

pub record FilesRead : Type 0 where
  pub of_each : AreModules usual modules
  pub of_all : AreModules usual ((everything, all_items) ∷ [])
  pub of_forms : AreModules usual ((forms, all_forms) ∷ [])
  pub of_shared : AreModules with_shared shared_modules
