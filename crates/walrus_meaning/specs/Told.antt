-- What a walk is told of an instruction, and what its operator names.
use Rattle.std.specs.Prelude.{◌≡◌, Bool, true, false, List, reverse, Option, Some, None, Ok, if◌then◌else◌}
use Rattle.std.specs.List.{filter_map}
use Rattle.wasm_operators.specs.Items.{Types, Functions, Tables, Memories, Tags, Globals, ElementSegments, DataSegments, Locals, Labels}
use Rattle.wasm_operators.specs.Operators.{Seen}
use Rattle.walrus_pairing.specs.wasm_operators.Names.{Name, operator_names}
use Rattle.walrus_instr.specs.declared.instr.Instr.{Instr}
use Rattle.walrus_instr.specs.declared.instr.Instr.TheVariants.{MemoryInit, MemoryCopy, TableInit, TableCopy, ArrayCopy}
use Rattle.walrus_builder.specs.walrus_walks.Events.{Event, NamesSeq, NamesLocal, NamesMemory, NamesTable, NamesGlobal, NamesFunction, NamesData, NamesType, NamesElement, NamesTag, names}
use Rattle.walrus_pairing.specs.Laws.{all}
use Rattle.walrus_pairing.specs.Write.{operator_at}

-- the name that a visitor is told
abbrev pub told : Event → Option Name
told (NamesSeq id) = Some (Labels, id)
told (NamesLocal id) = Some (Locals, id)
told (NamesMemory id) = Some (Memories, id)
told (NamesTable id) = Some (Tables, id)
told (NamesGlobal id) = Some (Globals, id)
told (NamesFunction id) = Some (Functions, id)
told (NamesData id) = Some (DataSegments, id)
told (NamesType id) = Some (Types, id)
told (NamesElement id) = Some (ElementSegments, id)
told (NamesTag id) = Some (Tags, id)
told _ = None

abbrev pub told_all : List Event → List Name
told_all events = filter_map told events

-- forms whose fields stand in the reverse of the order of the bytes: these have the destination before the source, and the segment
-- before what it fills
abbrev pub is_reversed : Instr → Bool
is_reversed (MemoryInit memory segment) = true
is_reversed (MemoryCopy src dst) = true
is_reversed (TableInit table elem) = true
is_reversed (TableCopy src dst) = true
is_reversed (ArrayCopy src dst) = true
is_reversed _ = false

-- the names that a visitor of the instruction is told, field by field, are those of the operator in the order of its bytes, which is
-- that of the fields or the reverse, form by form
abbrev pub SameNames : Instr → Seen → Type 0
SameNames i op = told_all (names i) ≡ (if is_reversed i then reverse (operator_names op) else operator_names op)

abbrev pub NamesAreTold : Type 0
NamesAreTold = (i : Instr) (op : Seen) → operator_at all i ≡ Ok (Some op) → SameNames i op
