-- Files that show what is a number and what a byte, which of two faults goes first, and where a limit lies.
use Rattle.std.specs.Prelude.{ℕ, List, [], ◌∷◌, ◌++◌, None}
use Rattle.std.specs.List.{repeat}
use Rattle.wasm_reader.specs.declared.error.ErrorKind.TheVariants as kinds
use Rattle.wasm_formats.specs.declared.fault.Space.TheVariants as spaces
use Rattle.wasm_formats.specs.declared.fault.Form.TheVariants as unsupported
use Rattle.wasm_formats.specs.declared.fault.Limited.TheVariants as limits
use Rattle.wasm_formats.specs.Stops.{Read, SectionOrder, Count, Index, ConstExpr, Unsupported, Bounds, Limit}
use Rattle.wasm_grammar.specs.Modules.{Passive, Active, Functions as Indices, Module, empty}
use Rattle.wasm_module_rows.specs.Files.{magic, plain_type, one_function, usual, Refused, AreRefused, AreModules}
use Rattle.wasm_module_rows.specs.Faults.{tables_past}
use Rattle.wasm_module_rows.specs.Read.{i32_const, table, memory, element, data_segment}

-- Flags of segments are numbers, which may be padded, and 03 and 08 are none of them; the kinds of exports, imports and tags are single bytes
abbrev pub kinds_and_flags : List Refused
kinds_and_flags =
    ((magic ++ 0x0b ∷ 0x03 ∷ 0x01 ∷ 0x83 ∷ 0x00 ∷ []), Read kinds.BadByte, 11)
    ∷ ((magic ++ 0x09 ∷ 0x03 ∷ 0x01 ∷ 0x88 ∷ 0x00 ∷ []), Read kinds.BadByte, 11)
    ∷ ((magic ++ 0x0b ∷ 0x07 ∷ 0x01 ∷ 0x80 ∷ 0x00 ∷ 0x41 ∷ 0x00 ∷ 0x0b ∷ 0x00 ∷ []), Index spaces.Memory, 11)
    ∷ ((magic ++ plain_type ++ one_function ++ 0x07 ∷ 0x06 ∷ 0x01 ∷ 0x01 ∷ 0x66 ∷ 0x80 ∷ 0x00 ∷ 0x00 ∷ []), Read kinds.BadByte, 23)
    ∷ ((magic ++ 0x02 ∷ 0x06 ∷ 0x01 ∷ 0x00 ∷ 0x00 ∷ 0x83 ∷ 0x00 ∷ 0x7f ∷ []), Read kinds.BadByte, 13)
    ∷ ((magic ++ plain_type ++ 0x0d ∷ 0x04 ∷ 0x01 ∷ 0x80 ∷ 0x00 ∷ 0x00 ∷ []), Read kinds.BadByte, 17)
    ∷ []

-- the same flags as numbers that are some: a passive data segment, and an active one of data and of functions
abbrev pub padded : List (List ℕ × Module)
padded =
    ((magic ++ 0x0b ∷ 0x05 ∷ 0x01 ∷ 0x81 ∷ 0x00 ∷ 0x01 ∷ 0x2a ∷ []), record empty { segments = data_segment Passive (0x2a ∷ []) ∷ [] })
    ∷ ((magic ++ 0x05 ∷ 0x03 ∷ 0x01 ∷ 0x00 ∷ 0x01 ∷ 0x0b ∷ 0x08 ∷ 0x01 ∷ 0x80 ∷ 0x80 ∷ 0x00 ∷ 0x41 ∷ 0x00 ∷ 0x0b ∷ 0x00 ∷ []), record empty { memories = memory 1 None None ∷ []; segments = data_segment (Active 0 (i32_const 0 ∷ [])) [] ∷ [] })
    ∷ ((magic ++ 0x04 ∷ 0x04 ∷ 0x01 ∷ 0x70 ∷ 0x00 ∷ 0x01 ∷ 0x09 ∷ 0x07 ∷ 0x01 ∷ 0x80 ∷ 0x00 ∷ 0x41 ∷ 0x00 ∷ 0x0b ∷ 0x00 ∷ []), record empty { tables = table 1 None None ∷ []; elements = element (Active 0 (i32_const 0 ∷ [])) (Indices []) ∷ [] })
    ∷ []

-- A code that no constant operator has, known elsewhere or not: its immediates are not looked at. A constant's own are.
abbrev pub codes : List Refused
codes =
    ((magic ++ 0x06 ∷ 0x05 ∷ 0x01 ∷ 0x7f ∷ 0x00 ∷ 0xff ∷ 0x0b ∷ []), ConstExpr, 13)
    ∷ ((magic ++ 0x06 ∷ 0x04 ∷ 0x01 ∷ 0x7f ∷ 0x00 ∷ 0x28 ∷ []), ConstExpr, 13)
    ∷ ((magic ++ 0x06 ∷ 0x06 ∷ 0x01 ∷ 0x7f ∷ 0x00 ∷ 0xfd ∷ 0x9a ∷ 0x01 ∷ []), ConstExpr, 13)
    ∷ ((magic ++ 0x06 ∷ 0x05 ∷ 0x01 ∷ 0x7f ∷ 0x00 ∷ 0xfc ∷ 0x00 ∷ []), ConstExpr, 13)
    ∷ ((magic ++ 0x06 ∷ 0x05 ∷ 0x01 ∷ 0x7f ∷ 0x00 ∷ 0xfb ∷ 0x02 ∷ []), ConstExpr, 13)
    ∷ ((magic ++ 0x06 ∷ 0x07 ∷ 0x01 ∷ 0x7b ∷ 0x00 ∷ 0xfd ∷ 0x8c ∷ 0x80 ∷ 0x04 ∷ []), ConstExpr, 13)
    ∷ ((magic ++ 0x06 ∷ 0x05 ∷ 0x01 ∷ 0x7b ∷ 0x00 ∷ 0xfd ∷ 0x0c ∷ []), Read (kinds.EndOfFile 16), 15)
    ∷ ((magic ++ 0x06 ∷ 0x07 ∷ 0x01 ∷ 0x7f ∷ 0x00 ∷ 0x41 ∷ 0x07 ∷ 0xff ∷ 0x0b ∷ []), ConstExpr, 15)
    ∷ []

-- A body that calls what isn't there, alone, and with a fault of a later section, or a count that differs: these go first
abbrev pub bodies_last : List Refused
bodies_last =
    ((magic ++ plain_type ++ one_function ++ 0x0a ∷ 0x06 ∷ 0x01 ∷ 0x04 ∷ 0x00 ∷ 0x10 ∷ 0x05 ∷ 0x0b ∷ []), Index spaces.Function, 23)
    ∷ ((magic ++ plain_type ++ one_function ++ 0x0a ∷ 0x06 ∷ 0x01 ∷ 0x04 ∷ 0x00 ∷ 0x10 ∷ 0x05 ∷ 0x0b ∷ 0x0b ∷ 0x02 ∷ 0x01 ∷ 0x03 ∷ []), Read kinds.BadByte, 29)
    ∷ ((magic ++ plain_type ++ one_function ++ 0x0c ∷ 0x01 ∷ 0x01 ∷ 0x0a ∷ 0x06 ∷ 0x01 ∷ 0x04 ∷ 0x00 ∷ 0x10 ∷ 0x05 ∷ 0x0b ∷ []), Count, 29)
    ∷ ((magic ++ plain_type ++ one_function ++ 0x0c ∷ 0x01 ∷ 0x01 ∷ 0x0a ∷ 0x06 ∷ 0x01 ∷ 0x04 ∷ 0x00 ∷ 0x10 ∷ 0x05 ∷ 0x0b ∷ 0x0b ∷ 0x01 ∷ 0x00 ∷ []), Count, 31)
    ∷ ((magic ++ plain_type ++ one_function ++ 0x0a ∷ 0x06 ∷ 0x01 ∷ 0x04 ∷ 0x00 ∷ 0x10 ∷ 0x05 ∷ 0x0b ∷ 0x0e ∷ 0x00 ∷ []), SectionOrder, 26)
    ∷ []

-- Counts and lengths one past a limit of the reader, and at it with nothing behind: members of a group, supertypes, parameters, results, fields, names; the greatest body
abbrev pub counts : List Refused
counts =
    ((magic ++ 0x01 ∷ 0x05 ∷ 0x01 ∷ 0x4e ∷ 0xc1 ∷ 0x84 ∷ 0x3d ∷ []), Read kinds.Limit, 12)
    ∷ ((magic ++ 0x01 ∷ 0x05 ∷ 0x01 ∷ 0x4e ∷ 0xc0 ∷ 0x84 ∷ 0x3d ∷ []), Read (kinds.EndOfFile 1), 15)
    ∷ ((magic ++ 0x01 ∷ 0x03 ∷ 0x01 ∷ 0x50 ∷ 0x02 ∷ []), Read kinds.Limit, 12)
    ∷ ((magic ++ 0x01 ∷ 0x04 ∷ 0x01 ∷ 0x60 ∷ 0xe9 ∷ 0x07 ∷ []), Read kinds.Limit, 12)
    ∷ ((magic ++ 0x01 ∷ 0x04 ∷ 0x01 ∷ 0x60 ∷ 0xe8 ∷ 0x07 ∷ []), Read (kinds.EndOfFile 1), 14)
    ∷ ((magic ++ 0x01 ∷ 0x05 ∷ 0x01 ∷ 0x60 ∷ 0x00 ∷ 0xe9 ∷ 0x07 ∷ []), Read kinds.Limit, 13)
    ∷ ((magic ++ 0x01 ∷ 0x05 ∷ 0x01 ∷ 0x60 ∷ 0x00 ∷ 0xe8 ∷ 0x07 ∷ []), Read (kinds.EndOfFile 1), 15)
    ∷ ((magic ++ 0x01 ∷ 0x04 ∷ 0x01 ∷ 0x5f ∷ 0x91 ∷ 0x4e ∷ []), Read kinds.Limit, 12)
    ∷ ((magic ++ 0x01 ∷ 0x04 ∷ 0x01 ∷ 0x5f ∷ 0x90 ∷ 0x4e ∷ []), Read (kinds.EndOfFile 1), 14)
    ∷ ((magic ++ 0x00 ∷ 0x03 ∷ 0xa1 ∷ 0x8d ∷ 0x06 ∷ []), Read kinds.Limit, 10)
    ∷ ((magic ++ 0x00 ∷ 0x03 ∷ 0xa0 ∷ 0x8d ∷ 0x06 ∷ []), Read (kinds.EndOfFile 100000), 13)
    ∷ ((magic ++ 0x02 ∷ 0x04 ∷ 0x01 ∷ 0xa1 ∷ 0x8d ∷ 0x06 ∷ []), Read kinds.Limit, 11)
    ∷ ((magic ++ plain_type ++ one_function ++ 0x07 ∷ 0x04 ∷ 0x01 ∷ 0xa1 ∷ 0x8d ∷ 0x06 ∷ []), Read kinds.Limit, 21)
    ∷ ((magic ++ plain_type ++ one_function ++ 0x0a ∷ 0x06 ∷ 0x01 ∷ 0xb1 ∷ 0x97 ∷ 0xd3 ∷ 0x03 ∷ 0x00 ∷ []), Read (kinds.EndOfFile 7654320), 25)
    ∷ []

-- a memory section of 101 entries, of which these are the last one's bytes; the section has so many bytes behind its size's second
abbrev pub memories_past : ℕ → List ℕ → List ℕ
memories_past size last = magic ++ 0x05 ∷ size ∷ 0x01 ∷ 0x65 ∷ [] ++ repeat 100 (0x00 ∷ 0x01 ∷ []) ++ last

-- imports of 101 tables, likewise
abbrev pub imports_past : ℕ → List ℕ → List ℕ
imports_past size last = magic ++ 0x02 ∷ size ∷ 0x04 ∷ 0x65 ∷ [] ++ repeat 100 (0x00 ∷ 0x00 ∷ 0x01 ∷ 0x70 ∷ 0x00 ∷ 0x01 ∷ []) ++ last

-- and of 101 memories
abbrev pub memory_imports_past : ℕ → List ℕ → List ℕ
memory_imports_past size last = magic ++ 0x02 ∷ size ∷ 0x03 ∷ 0x65 ∷ [] ++ repeat 100 (0x00 ∷ 0x00 ∷ 0x02 ∷ 0x00 ∷ 0x01 ∷ []) ++ last

-- An import past a limit: what ends it (limits, a shared table, a page size) stands behind the limit, at its entry; what can't be read, and a type that isn't there before its end, before it
abbrev pub past_imports : List Refused
past_imports =
    (imports_past 0xe0 (0x00 ∷ 0x00 ∷ 0x01 ∷ 0x70 ∷ 0x01 ∷ 0x02 ∷ 0x01 ∷ []), Limit limits.Tables, 612)
    ∷ (imports_past 0xdf (0x00 ∷ 0x00 ∷ 0x01 ∷ 0x70 ∷ 0x02 ∷ 0x01 ∷ []), Limit limits.Tables, 612)
    ∷ (imports_past 0xdf (0x00 ∷ 0x00 ∷ 0x01 ∷ 0x70 ∷ 0x08 ∷ 0x01 ∷ []), Read kinds.BadByte, 616)
    ∷ (imports_past 0xe0 (0x00 ∷ 0x00 ∷ 0x01 ∷ 0x63 ∷ 0x05 ∷ 0x00 ∷ 0x01 ∷ []), Index spaces.Type, 615)
    ∷ (imports_past 0xdf (0x00 ∷ 0x00 ∷ 0x02 ∷ 0x01 ∷ 0x02 ∷ 0x01 ∷ []), Bounds, 615)
    ∷ (memory_imports_past 0xfb (0x00 ∷ 0x00 ∷ 0x02 ∷ 0x08 ∷ 0x01 ∷ 0x03 ∷ []), Limit limits.Memories, 512)
    ∷ (memory_imports_past 0xfa (0x00 ∷ 0x00 ∷ 0x02 ∷ 0x02 ∷ 0x01 ∷ []), Limit limits.Memories, 512)
    ∷ (memory_imports_past 0xfa (0x00 ∷ 0x00 ∷ 0x03 ∷ 0x7f ∷ 0x02 ∷ []), Unsupported unsupported.SharedGlobal, 516)
    ∷ (memory_imports_past 0xf9 (0x00 ∷ 0x00 ∷ 0x00 ∷ 0x07 ∷ []), Index spaces.Type, 515)
    ∷ []

-- A hundred of them pass, and what is missing behind is missed. The limit on memories stands behind what is wrong with the entry at its first byte; imported tables count.
abbrev pub past_limits : List Refused
past_limits =
    (memories_past 0xc9 [], Read (kinds.EndOfFile 1), 212)
    ∷ (tables_past 0xad [], Read (kinds.EndOfFile 1), 312)
    ∷ (memories_past 0xcb (0x00 ∷ 0x01 ∷ []), Limit limits.Memories, 212)
    ∷ (memories_past 0xcb (0x10 ∷ 0x01 ∷ []), Read kinds.BadByte, 212)
    ∷ (memories_past 0xcc (0x01 ∷ 0x02 ∷ 0x01 ∷ []), Bounds, 212)
    ∷ (imports_past 0xdf (0x00 ∷ 0x00 ∷ 0x01 ∷ 0x70 ∷ 0x00 ∷ 0x01 ∷ []), Limit limits.Tables, 612)
    ∷ ((magic ++ 0x02 ∷ 0x07 ∷ 0x01 ∷ 0x00 ∷ 0x00 ∷ 0x01 ∷ 0x70 ∷ 0x00 ∷ 0x01 ∷ 0x04 ∷ 0xad ∷ 0x02 ∷ 0x64 ∷ [] ++ repeat 100 (0x70 ∷ 0x00 ∷ 0x01 ∷ [])), Limit limits.Tables, 318)
    ∷ []

pub record OrdersHold : Type 0 where
  pub of_kinds : AreRefused usual kinds_and_flags
  pub of_padded : AreModules usual padded
  pub of_codes : AreRefused usual codes
  pub of_bodies : AreRefused usual bodies_last
  pub of_counts : AreRefused usual counts
  pub of_limits : AreRefused usual past_limits
  pub of_imports : AreRefused usual past_imports
