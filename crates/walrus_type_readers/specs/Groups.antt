-- Groups of types as they are read.
use Rattle.std.specs.Prelude.{ℕ, ◌+◌, ◌≡◌, ◌⊎◌, List, [], ◌∷◌, ◌++◌, length, map, zip, Option, Some, None, Result, Ok, Err, refl}
use Rattle.std.specs.List.{filter_map}
use Rattle.std.specs.Global.{Vec}
use Rattle.wasm_features.specs.declared.WasmFeatures.{WasmFeatures}
use Rattle.wasm_types.specs.declared.subtype.SubType.{SubType}
use Rattle.wasm_types.specs.Groups.{Group}
use Rattle.wasm_types.specs.Placed.{Placed}
use Rattle.walrus_forms.specs.declared.record.TypeRecord.{TypeRecord}
use Rattle.walrus_forms.specs.declared.record.GroupRecord.{GroupRecord}
use Rattle.walrus_forms.specs.Kinds.{Kind}
use Rattle.walrus_forms.specs.Records.{TypeGroup, record_kind, type_group}
use Rattle.walrus_known_sections.specs.wasm_sections.wasm_grammar.wasm_formats.Stops.{Trouble, Parsing, ◌>>=◌}
use Rattle.walrus_known_sections.specs.wasm_sections.wasm_grammar.States.{State}
use Rattle.walrus_known_sections.specs.wasm_sections.TypeNames.{kind_of}
use Rattle.walrus_known_sections.specs.wasm_sections.TypeSection.{GroupEntry, Measured, rectype, members_test, sub_test, at_place, group, add_group, type_group as read_group}
use Rattle.walrus_section_reader.specs.declared.fault.Fault.{Fault}
use Rattle.walrus_section_reader.specs.Faults.{trouble_of, no_memory}
use Rattle.walrus_section_reader.specs.Steps.{stepped, put_in}
use Rattle.walrus_type_readers.specs.Placings.{left_in}

-- a group, each member with the number of bytes that are left at its first byte
abbrev pub parse_placed : WasmFeatures → List ℕ → Parsing Placed
parse_placed features bytes = (rectype features).parse bytes >>= put_in (left_in (length bytes))

-- a group as the state has it
abbrev pub parse_group : WasmFeatures → State → List ℕ → Parsing TypeGroup
parse_group features s = stepped (group features s) read_group

-- the group behind those before
abbrev pub put_group : State → TypeGroup → State
put_group s g = record s { filled = record s.filled { groups = s.filled.groups ++ g ∷ [] } }

abbrev pub kind_in : Measured → Option Kind
kind_in m = kind_of m.1

abbrev pub told : Fault → Option (ℕ × Trouble)
told e = Some (e.offset, trouble_of e.kind)

-- the fault is the one that was found, or want of memory
abbrev pub IsFound : Option (ℕ × Trouble) → Fault → Type 0
IsFound found e = (found ≡ told e) ⊎ (e ≡ no_memory)

-- a member's record, or what it is refused for
abbrev pub TellsMember : ℕ → ℕ → ℕ → SubType → Result TypeRecord Fault → Type 0
TellsMember end n offset ty (Ok r) = (sub_test end n ty ≡ None) × (kind_of ty ≡ Some (record_kind r))
TellsMember end n offset ty (Err e) = IsFound (at_place offset (sub_test end n ty) None) e

-- the records of all, or what the first one that is refused is refused for
abbrev pub TellsMembers : ℕ → ℕ → List (ℕ × SubType) → Result (Vec TypeRecord) Fault → Type 0
TellsMembers end n ms (Ok v) = (members_test end n ms ≡ None) × (filter_map kind_in ms ≡ map record_kind v.items)
TellsMembers end n ms (Err e) = IsFound (members_test end n ms) e

-- the members of a group with the offsets at which they were read
abbrev pub offset_members : Group → List (ℕ × SubType)
offset_members g = zip g.offsets g.types

abbrev pub told_group : Group → TypeGroup
told_group g = record { marked = g.explicit; kinds = filter_map kind_in (offset_members g) }

-- its members stand behind so many types
abbrev pub offset_test : ℕ → Group → Option (ℕ × Trouble)
offset_test types g = members_test (types + length (offset_members g)) types (offset_members g)

abbrev pub TellsGroup : ℕ → Group → Result GroupRecord Fault → Type 0
TellsGroup types g (Ok r) = (offset_test types g ≡ None) × (told_group g ≡ type_group r)
TellsGroup types g (Err e) = IsFound (offset_test types g) e

-- ---- a step over a group is one over the entry that the grammar has

pub group_stepped : (features : WasmFeatures) (s : State) (bytes : List ℕ) → (parse_group features s bytes >>= put_in (put_group s)) ≡ stepped (group features s) (add_group s) bytes
group_stepped features s bytes = go ((group features s).parse bytes)
  where
    go : (r : Parsing GroupEntry) → ((r >>= put_in read_group) >>= put_in (put_group s)) ≡ (r >>= put_in (add_group s))
    go (Ok x) = refl
    go (Err e) = refl
